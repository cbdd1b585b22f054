use Rattle.std.proofs.Common.{length, Err, IfOk, IsOk, ap, sym, subst, arith}
use Rattle.queue_tx.specs.Queues.{queue_after}
use Rattle.queue_log.specs.Logged.{IsLogged, IsOverLimit, IsReadyFor}
use Rattle.queue_log.proofs.Refusals.{by_roll}
use Rattle.queue_log.proofs.logged.Logged.prepare.Goals as goal

pub returns-in-Err-room-clause-refused : goal.returns-in-Err-room-clause-refused
returns-in-Err-room-clause-refused c =
    let same = ap (λ v. length v.list) c.self.view_is in
    subst (λ e. IsOverLimit c.args.self.now.list c.args.tx.now e) (sym c.from-in-Err-room.ensures)
    (by_roll (λ e. IsOverLimit c.args.self.now.list c.args.tx.now e) c.in-Err-room.error
    (λ full. (c.in-Ok.ensures.fits, (let far = c.in-Err-room.ensures.full.0 (ap Err full) in omega arith)))
    tt)

pub returns-clause-refused : goal.returns-clause-refused
returns-clause-refused c = c.with_text.ensures.refused c.args.self.now.list

pub invariant_of-self : goal.invariant_of-self
invariant_of-self c = subst (λ list. IsLogged list c.self.inside.queue) (sym c.room.ensures.list) c.self.invariant

pub with_text-requires-clause-applies : goal.with_text-requires-clause-applies
with_text-requires-clause-applies c = subst (λ v. IsOk (queue_after v.queue c.args.tx.now)) (sym c.self.view_is) c.requires

pub returns-clause-ready : goal.returns-clause-ready
returns-clause-ready c =
    subst (λ v. IfOk c.with_text.result (IsReadyFor v.queue c.args.tx.now)) c.self.view_is c.with_text.ensures.ready

pub returns-clause-queue : goal.returns-clause-queue
returns-clause-queue c = ap (λ v. v.queue) c.self.view_is
