use Rattle.pool_rules.proofs.StartdMails.{mail_linked}
use Rattle.pool_rules.proofs.linked_startds.received_mails_keep_links.Goals as goal

pub returns : goal.returns
returns c = mail_linked
