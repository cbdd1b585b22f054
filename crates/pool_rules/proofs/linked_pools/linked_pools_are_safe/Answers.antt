use Rattle.pool_rules.proofs.Viewing.{linked_shows, one_view, shown_safe, steps_lead}
use Rattle.pool_rules.proofs.linked_pools.linked_pools_are_safe.Goals as goal

pub returns-clause-shown : goal.returns-clause-shown
returns-clause-shown c = linked_shows

pub returns-clause-one : goal.returns-clause-one
returns-clause-one c = one_view

pub returns-clause-safe : goal.returns-clause-safe
returns-clause-safe c = shown_safe

pub returns-clause-steps : goal.returns-clause-steps
returns-clause-steps c = λ p a b ms w linked leads shows. (steps_lead p a b ms w linked leads shows).0
