use Rattle.std.proofs.Common.{sym, subst}
use Rattle.std.specs.Prelude.{IfOk}
use Rattle.pool_parts.specs.declared.event.Event.{Event}
use Rattle.pool_rules.specs.Refusals.{IsEventRefusal}
use Rattle.pool_rules.proofs.refusal.event_refusal.Goals as goal

pub returns-in-Close : goal.returns-in-Close
returns-in-Close c = subst (λ (e : Event). IfOk c.close_refusal.result (IsEventRefusal e c.args.state.now)) (sym c.in-Close.is) c.close_refusal.ensures

pub returns-in-Receive : goal.returns-in-Receive
returns-in-Receive c =
    subst (λ (e : Event). IsEventRefusal e c.args.state.now c.receive_refusal.result) (sym c.in-Receive.is)
    (rw (c.as_ref-judged.ensures.value, c.as_ref-none.ensures.value) at c.receive_refusal.ensures)
