use Rattle.std.proofs.Common.{ap, sym, subst}
use Rattle.startd_core.specs.Sound.{IsSound}
use Rattle.startd_core.specs.Startds.{After}
use Rattle.startd_core.proofs.Stays.{mail_stays}
use Rattle.startd_core.proofs.startd.Startd.prepare_receive.Goals as goal

pub returns-clause-startd : goal.returns-clause-startd
returns-clause-startd c = ap (λ (a : After). a.startd) c.in_ok-prepared.ensures

pub returns-clause-step : goal.returns-clause-step
returns-clause-step c = ap (λ (a : After). a.step) c.in_ok-prepared.ensures

pub returns-clause-sound : goal.returns-clause-sound
returns-clause-sound c =
    subst (λ (a : After). IsSound a.startd) (sym c.in_ok-prepared.ensures) (mail_stays c.args.self.now c.args.mail.now c.args.judged c.args.reading c.soundness.ensures)
