use Rattle.pool_rules.proofs.ScheddPlans.{check_linked, mail_linked, remove_orders, tick_linked}
use Rattle.pool_rules.proofs.linked_schedd.plans_keep_links.Goals as goal

pub returns-clause-mails : goal.returns-clause-mails
returns-clause-mails c = mail_linked

pub returns-clause-orders : goal.returns-clause-orders
returns-clause-orders c = remove_orders

pub returns-clause-ticks : goal.returns-clause-ticks
returns-clause-ticks c = tick_linked

pub returns-clause-checks : goal.returns-clause-checks
returns-clause-checks c = check_linked
