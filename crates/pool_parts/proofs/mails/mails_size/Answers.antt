use Rattle.std.proofs.lemmas.List.{at_drop_all}
use Rattle.pool_parts.specs.Sizes.{mails_count}
use Rattle.pool_parts.proofs.Counted.{counted}
use Rattle.pool_parts.proofs.mails.mails_size.Goals as goal

pub returns : goal.returns
returns c = counted _ _ _ (at_drop_all mails_count c.args.mails.now c.loop-mail.mail-index c.loop-mail-test.false) c.loop-mail.invariant
