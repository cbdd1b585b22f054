use Rattle.std.proofs.Common.{refl}
use Rattle.schedd_core.proofs.LoggedMails.{mails_allowed}
use Rattle.schedd_core.proofs.laws.mails_are_of_the_queue.Goals as goal

pub returns : goal.returns
returns c = λ q new v plan mail ordered fits h fit there. mails_allowed q new v plan ordered fits h fit plan refl mail there
