use Rattle.std.proofs.Common.{refl}
use Rattle.schedd_core.proofs.Prepared.{sends_so}
use Rattle.schedd_core.proofs.mails.release.Goals as goal

pub returns : goal.returns
returns c =
    let s = c.send.ensures in
    sends_so c.args.schedd.now _ _ _ c.send.result s.schedd s.step s.room refl
