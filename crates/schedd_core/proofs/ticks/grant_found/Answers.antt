use Rattle.std.proofs.Common.{Some, sym, subst}
use Rattle.std.specs.Prelude.{IfOk}
use Rattle.queue_tx.specs.declared.key.Key.{Key}
use Rattle.schedd_state.specs.declared.prepared.PreparedSchedd.{PreparedSchedd}
use Rattle.schedd_core.specs.Prepared.{IsPrepared}
use Rattle.schedd_core.specs.Ticks.{after_seek}
use Rattle.schedd_core.proofs.ticks.grant_found.Goals as goal

pub returns-in-Proc : goal.returns-in-Proc
returns-in-Proc c =
    subst (λ (k : Key). IfOk c.grant.result (λ (p : PreparedSchedd). IsPrepared c.args.schedd.now p (after_seek c.args.schedd.now c.args.queue.now c.args.place (Some k) c.args.reading)))
    (sym c.in-Proc.is) c.grant.ensures

pub returns-in-Header : goal.returns-in-Header
returns-in-Header c =
    subst (λ (k : Key). IfOk c.give_up.result (λ (p : PreparedSchedd). IsPrepared c.args.schedd.now p (after_seek c.args.schedd.now c.args.queue.now c.args.place (Some k) c.args.reading)))
    (sym c.in-Header.is) c.give_up.ensures
