-- What was sent, said, ordered or marked is never taken back.
use Rattle.std.proofs.Common.{◌≡◌, inr, List, [], ◌∷◌, Option, Some, None, refl, sym, subst}
use Rattle.claim_id.specs.declared.numbers.JobId.{JobId}
use Rattle.claim_id.specs.declared.numbers.RunNo.{RunNo}
use Rattle.pool_view.specs.declared.run.EndReport.{EndReport}
use Rattle.pool_view.specs.AbstractPool.{AbstractPool, IsIn, IsDead}
use Rattle.pool_view.specs.AbstractStep.{AbstractStep, view_after}
use Rattle.pool_view.specs.Protocol.{JobRun, Change, Hidden, Submission, OfJob, Removal, Protocol, view_after_all}
use Rattle.pool_view.specs.ProtocolMove.{ProtocolMove, PassTime, Pend, Commit, Drop, Confirm, TakeOrder, SendLease, HoldClaim, UseNumber, EndClaim, Reboot, StartRun, ExtendRun, StopRun, SayGone, MayMove, MayAll, grants_with, removals_with, steps_of, protocol_after, protocol_after_all, Remembers}
use Rattle.pool_view.specs.Facts.{Facts}
use Rattle.pool_view.specs.Safe.{Safe}
use Rattle.pool_view.proofs.Steps.{step_dead}
use Rattle.pool_view.proofs.Pending.{reports_more, ordered_all}
use Rattle.pool_view.proofs.Tracked.{AllBacked}
use Rattle.pool_view.proofs.Moves.{move_backed, move_good}
use Rattle.pool_view.proofs.SameProtocol.{pool_after_move}

reports_all : (v : AbstractPool) (ks : List AbstractStep) (s : EndReport) → IsIn s v.reports → IsIn s (view_after_all v ks).reports
reports_all v [] s there = there
reports_all v (k ∷ ks) s there = reports_all (view_after v k) ks s (reports_more v k s there)

removed_more : (pending : Option Change) (jobs : List JobId) (job : JobId) → IsIn job jobs → IsIn job (removals_with pending jobs)
removed_more None jobs job there = there
removed_more (Some Hidden) jobs job there = there
removed_more (Some (Submission new)) jobs job there = there
removed_more (Some (OfJob step)) jobs job there = there
removed_more (Some (Removal new)) jobs job there = inr there

-- steps alone
steps_remember : (p q : Protocol) (ks : List AbstractStep) → q.pool ≡ view_after_all p.pool ks → q.leases ≡ p.leases → q.gone ≡ p.gone → ((job : JobId) → IsIn job p.removals → IsIn job q.removals) → Remembers p q
steps_remember p q ks pool leases gone removals = record {
  leases = λ l there. subst (IsIn l) (sym leases) there;
  gone = λ run there. subst (IsIn run) (sym gone) there;
  reports = λ s there. subst (λ v. IsIn s v.reports) (sym pool) (reports_all p.pool ks s there);
  ordered = λ job there. subst (λ v. IsIn job v.ordered) (sym pool) (ordered_all p.pool ks job there);
  removals = removals;
}

pub move_remembers : (p : Protocol) (m : ProtocolMove) → Remembers p (protocol_after p m)
move_remembers p (PassTime moment) = steps_remember p (protocol_after p (PassTime moment)) (steps_of p (PassTime moment)) refl refl refl (λ job h. h)
move_remembers p (Pend change) = steps_remember p (protocol_after p (Pend change)) [] refl refl refl (λ job h. h)
move_remembers p Commit = steps_remember p (protocol_after p Commit) (steps_of p Commit) refl refl refl (removed_more p.pending p.removals)
move_remembers p Drop = steps_remember p (protocol_after p Drop) [] refl refl refl (λ job h. h)
move_remembers p (Confirm job) = steps_remember p (protocol_after p (Confirm job)) (steps_of p (Confirm job)) refl refl refl (λ j h. h)
move_remembers p (TakeOrder job) = steps_remember p (protocol_after p (TakeOrder job)) (steps_of p (TakeOrder job)) refl refl refl (λ j h. h)
move_remembers p (SendLease l) = record { leases = λ x h. inr h; gone = λ x h. h; reports = λ x h. h; ordered = λ x h. h; removals = λ x h. h }
move_remembers p (HoldClaim claim) = steps_remember p (protocol_after p (HoldClaim claim)) (steps_of p (HoldClaim claim)) refl refl refl (λ j h. h)
move_remembers p (UseNumber run) = steps_remember p (protocol_after p (UseNumber run)) (steps_of p (UseNumber run)) refl refl refl (λ j h. h)
move_remembers p (EndClaim claim) = steps_remember p (protocol_after p (EndClaim claim)) (steps_of p (EndClaim claim)) refl refl refl (λ j h. h)
move_remembers p (Reboot slot boot) = steps_remember p (protocol_after p (Reboot slot boot)) (steps_of p (Reboot slot boot)) refl refl refl (λ j h. h)
move_remembers p (StartRun r) = steps_remember p (protocol_after p (StartRun r)) (steps_of p (StartRun r)) refl refl refl (λ j h. h)
move_remembers p (ExtendRun r until) = steps_remember p (protocol_after p (ExtendRun r until)) (steps_of p (ExtendRun r until)) refl refl refl (λ j h. h)
move_remembers p (StopRun r how) = steps_remember p (protocol_after p (StopRun r how)) (steps_of p (StopRun r how)) refl refl refl (λ j h. h)
move_remembers p (SayGone run) = record { leases = λ x h. h; gone = λ x h. inr h; reports = λ x h. h; ordered = λ x h. h; removals = λ x h. h }

pub moves_remember : (p : Protocol) (ms : List ProtocolMove) → Remembers p (protocol_after_all p ms)
moves_remember p [] = record { leases = λ x h. h; gone = λ x h. h; reports = λ x h. h; ordered = λ x h. h; removals = λ x h. h }
moves_remember p (m ∷ ms) =
    let here = move_remembers p m in
    let rest = moves_remember (protocol_after p m) ms in
    record {
      leases = λ x h. rest.leases x (here.leases x h);
      gone = λ x h. rest.gone x (here.gone x h);
      reports = λ x h. rest.reports x (here.reports x h);
      ordered = λ x h. rest.ordered x (here.ordered x h);
      removals = λ x h. rest.removals x (here.removals x h);
    }

-- ---- a dead run stays dead
dead_all : (v : AbstractPool) (grants : List JobRun) (ks : List AbstractStep) (run : RunNo) → AllBacked v grants ks → IsDead v run → IsDead (view_after_all v ks) run
dead_all v grants [] run backed dead = dead
dead_all v grants (k ∷ ks) run backed dead = dead_all (view_after v k) (grants_with k grants) ks run backed.2 (step_dead v k run backed.0 dead)

pub move_dead : (p : Protocol) (m : ProtocolMove) (run : RunNo) → Facts p → MayMove p m → IsDead p.pool run → IsDead (protocol_after p m).pool run
move_dead p m run facts may dead = subst (λ v. IsDead v run) (sym (pool_after_move p m)) (dead_all p.pool p.grants (steps_of p m) run (move_backed p m facts may) dead)

pub moves_dead : (p : Protocol) (ms : List ProtocolMove) (run : RunNo) → Facts p → Safe p.pool → MayAll p ms → IsDead p.pool run → IsDead (protocol_after_all p ms).pool run
moves_dead p [] run facts safe may dead = dead
moves_dead p (m ∷ ms) run facts safe may dead =
    let next = move_good p m facts safe may.0 in
    moves_dead (protocol_after p m) ms run next.0 next.1 may.1 (move_dead p m run facts may.0 dead)
