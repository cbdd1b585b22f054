-- Each move keeps the facts and the safety, and makes its abstract steps.
use Rattle.std.proofs.Common.{◌≡◌, ◌≢◌, ℕ, ◌≤◌, inl, inr, List, [], ◌∷◌, Option, Some, None, refl, sym, ◌∙◌, ap, subst, arith, IfSome}
use Rattle.pool_view.specs.Ads.{core_of}
use Rattle.claim_id.specs.declared.numbers.RunNo.{RunNo}
use Rattle.pool_view.specs.declared.run.Run.{Run}
use Rattle.pool_view.specs.declared.job.State.TheVariants.{Under}
use Rattle.pool_view.specs.AbstractPool.{Marks, AbstractPool, IsIn, SameView, IsSpent, IsDead, Stands, HasCore}
use Rattle.pool_view.specs.AbstractStep.{AbstractStep, Time, Acknowledge, Order, Start, Mark, Extend, Stop, IsLeased, MayStart, view_after, Takes}
use Rattle.pool_view.specs.Safe.{Safe}
use Rattle.pool_view.specs.Protocol.{JobRun, Lease, Change, Protocol, marks_with, mark_with_claim, mark_with_number, mark_after_claim, mark_after_boot, view_after_all}
use Rattle.pool_view.specs.ProtocolMove.{ProtocolMove, PassTime, Pend, Commit, Drop, Confirm, TakeOrder, SendLease, HoldClaim, UseNumber, EndClaim, Reboot, StartRun, ExtendRun, StopRun, SayGone, IsLogged, MayStartRun, MayMove, steps_of, grants_with, with_steps, protocol_after}
use Rattle.pool_view.specs.Facts.{IsKept, CanBeMade, Facts}
use Rattle.pool_view.proofs.Claims.{Serves, hold_claim, use_number, number_used, end_claim, reboot, held_before, unspent}
use Rattle.pool_view.proofs.Tracked.{AllBacked, Tracked, steps_tracked}
use Rattle.pool_view.proofs.Pending.{one_job, pend, Grows, can_on, IsQuiet, quiet_grows, ordered_all, pending_backed, removed_ordered}

-- ---- the abstract pool of the same parts
same_members : {A : Type 0} (xs : List A) (x : A) → (IsIn x xs → IsIn x xs) × (IsIn x xs → IsIn x xs)
same_members xs x = (λ h. h, λ h. h)

same_view : (v : AbstractPool) → SameView v v
same_view v = record { moment = refl; next = refl; jobs = λ j. refl; acked = same_members v.acked; ordered = same_members v.ordered; runs = same_members v.runs; marks = λ s. refl; reports = same_members v.reports; slots = λ s. refl }

pub backed_takes : (v : AbstractPool) (grants : List JobRun) (ks : List AbstractStep) → AllBacked v grants ks → Takes v ks (view_after_all v ks)
backed_takes v grants [] backed = same_view v
backed_takes v grants (k ∷ ks) backed = (backed.0, backed_takes (view_after v k) (grants_with k grants) ks backed.2)

-- ---- a run starts
-- a lease that was sent holds for a run of its number that isn't dead, and is of that run's job
lease_holds : (p : Protocol) → Facts p → (l : Lease) (run : RunNo) (until : ℕ) → IsIn l p.leases → l.run ≡ run → until ≤ l.until → ¬ IsDead p.pool run → IsLeased p.pool l.job run until
lease_holds p facts l run until there same within alive = by_kept (facts.leases.kept l there)
  where
    by_lease : IsLeased p.pool l.job l.run l.until → IsLeased p.pool l.job run until
    by_lease (inl past) = inl (omega arith)
    by_lease (inr (end, stands, before)) = inr (end, subst (λ n. Stands p.pool l.job (Under n end)) same stands, omega arith)

    by_kept : IsKept p.pool l.job l.run l.until → IsLeased p.pool l.job run until
    by_kept (inl dead) = absurd (alive (subst (IsDead p.pool) same dead))
    by_kept (inr leased) = by_lease leased

may_start : (p : Protocol) → Facts p → (r : Run) → MayStartRun p r → MayStart p.pool r
may_start p facts r may = record {
  unspent = fresh;
  new_number = no_other;
  claimed = may.slot;
  free = may.free;
  leased = subst (λ j. IsLeased p.pool j r.run r.until) may.its_job (lease_holds p facts may.lease r.run r.until may.sent may.its_run may.its_until (λ dead. fresh dead.0));
  slot_ad = may.slot_ad;
  job_ad = subst (λ j. HasCore p.pool j (core_of r.judged.job)) may.its_job (subst (HasCore p.pool may.lease.job) may.its_core (facts.leases.cores may.lease may.sent));
  match = may.match;
}
  where
    fresh : ¬ IsSpent p.pool r.run
    fresh = unspent p.pool.marks r.run facts.running.marks may.held

    no_other : (s : Run) → IsIn s p.pool.runs → s.run.number ≢ r.run.number
    no_other s there same =
        let its : may.lease.run.number ≡ r.run.number = ap (λ n. n.number) may.its_run in
        let one = one_job p.pool p.grants facts.numbers s.run may.lease.run s.job may.lease.job (facts.numbers.of_runs s there) (facts.leases.granted may.lease may.sent) (same ∙ sym its) in
        let run : s.run ≡ r.run = one.0 ∙ may.its_run in
        may.free s there ((facts.running.claimed s there).0 ∙ (ap (λ n. n.claim.slot) run ∙ sym may.slot))

started_granted : (p : Protocol) → Facts p → (r : Run) → MayStartRun p r → IsIn (record { run = r.run; job = r.job }) p.grants
started_granted p facts r may =
    let l : Lease = may.lease in
    let there : IsIn (record { run = l.run; job = l.job }) p.grants = facts.leases.granted l may.sent in
    let with_run : IsIn (record { run = r.run; job = l.job }) p.grants = subst (λ n. IsIn (record { run = n; job = l.job }) p.grants) may.its_run there in
    subst (λ j. IsIn (record { run = r.run; job = j }) p.grants) may.its_job with_run

start_backed : (p : Protocol) → Facts p → (r : Run) → MayStartRun p r → AllBacked p.pool p.grants (steps_of p (StartRun r))
start_backed p facts r may =
    let holds = held_before p.pool.marks r.run may.held in
    let now = number_used p.pool.marks r.run holds in
    let serves = use_number p.pool r.run facts.running.claimed facts.running.marks holds in
    ((may_start p facts r may, now.0, serves.spent), (started_granted p facts r may, (may.slot, now.1), serves.sound, serves.held), tt)

extend_leased : (p : Protocol) → Facts p → (r : Run) (until : ℕ) (l : Lease) → IsIn r p.pool.runs → IsIn l p.leases → l.run ≡ r.run → until ≤ l.until → IsLeased p.pool r.job r.run until
extend_leased p facts r until l there sent same within =
    let one = one_job p.pool p.grants facts.numbers l.run r.run l.job r.job (facts.leases.granted l sent) (facts.numbers.of_runs r there) (ap (λ n. n.number) same) in
    subst (λ j. IsLeased p.pool j r.run until) one.1 (lease_holds p facts l r.run until sent same within (λ dead. dead.1 r there refl))

-- ---- each move's steps may be made
mark_backed : (v : AbstractPool) (grants : List JobRun) (marks : Marks) → Serves v marks → AllBacked v grants (Mark marks ∷ [])
mark_backed v grants marks serves = (serves.spent, (serves.sound, serves.held), tt)

pub move_backed : (p : Protocol) (m : ProtocolMove) → Facts p → MayMove p m → AllBacked p.pool p.grants (steps_of p m)
move_backed p (PassTime moment) facts may = (may, tt, tt)
move_backed p (Pend change) facts may = tt
move_backed p Commit facts may = pending_backed p.pool p.grants p.pending facts.pending
move_backed p Drop facts may = tt
move_backed p (Confirm job) facts may = (may, tt, tt)
move_backed p (TakeOrder job) facts may = (may, tt, tt)
move_backed p (SendLease l) facts may = tt
move_backed p (HoldClaim claim) facts may = mark_backed p.pool p.grants (marks_with p.pool.marks claim.slot (mark_with_claim claim)) (hold_claim p.pool claim facts.running.claimed facts.running.marks may)
move_backed p (UseNumber run) facts may = mark_backed p.pool p.grants (marks_with p.pool.marks run.claim.slot (mark_with_number run.number)) (use_number p.pool run facts.running.claimed facts.running.marks may)
move_backed p (EndClaim claim) facts may = mark_backed p.pool p.grants (marks_with p.pool.marks claim.slot (mark_after_claim claim)) (end_claim p.pool claim facts.running.claimed facts.running.marks may.0 may.1)
move_backed p (Reboot slot boot) facts may = mark_backed p.pool p.grants (marks_with p.pool.marks slot (mark_after_boot boot)) (reboot p.pool slot boot facts.running.claimed facts.running.marks may.0 may.1)
move_backed p (StartRun r) facts may = start_backed p facts r may
move_backed p (ExtendRun r until) facts (there, (l, sent, same, within)) = ((there, extend_leased p facts r until l there sent same within), tt, tt)
move_backed p (StopRun r how) facts may = (may, tt, tt)
move_backed p (SayGone run) facts may = tt

pub move_takes : (p : Protocol) (m : ProtocolMove) → Facts p → MayMove p m → Takes p.pool (steps_of p m) (protocol_after p m).pool
move_takes p (PassTime moment) facts may = backed_takes p.pool p.grants (steps_of p (PassTime moment)) (move_backed p (PassTime moment) facts may)
move_takes p (Pend change) facts may = same_view p.pool
move_takes p Commit facts may = backed_takes p.pool p.grants (steps_of p Commit) (move_backed p Commit facts may)
move_takes p Drop facts may = same_view p.pool
move_takes p (Confirm job) facts may = backed_takes p.pool p.grants (steps_of p (Confirm job)) (move_backed p (Confirm job) facts may)
move_takes p (TakeOrder job) facts may = backed_takes p.pool p.grants (steps_of p (TakeOrder job)) (move_backed p (TakeOrder job) facts may)
move_takes p (SendLease l) facts may = same_view p.pool
move_takes p (HoldClaim claim) facts may = backed_takes p.pool p.grants (steps_of p (HoldClaim claim)) (move_backed p (HoldClaim claim) facts may)
move_takes p (UseNumber run) facts may = backed_takes p.pool p.grants (steps_of p (UseNumber run)) (move_backed p (UseNumber run) facts may)
move_takes p (EndClaim claim) facts may = backed_takes p.pool p.grants (steps_of p (EndClaim claim)) (move_backed p (EndClaim claim) facts may)
move_takes p (Reboot slot boot) facts may = backed_takes p.pool p.grants (steps_of p (Reboot slot boot)) (move_backed p (Reboot slot boot) facts may)
move_takes p (StartRun r) facts may = backed_takes p.pool p.grants (steps_of p (StartRun r)) (move_backed p (StartRun r) facts may)
move_takes p (ExtendRun r until) facts may = backed_takes p.pool p.grants (steps_of p (ExtendRun r until)) (move_backed p (ExtendRun r until) facts may)
move_takes p (StopRun r how) facts may = backed_takes p.pool p.grants (steps_of p (StopRun r how)) (move_backed p (StopRun r how) facts may)
move_takes p (SayGone run) facts may = same_view p.pool

-- ---- the facts go on
tracked : (p : Protocol) → Facts p → Safe p.pool → Tracked p.pool p.grants p.leases p.gone
tracked p facts safe = record { safe = safe; numbers = facts.numbers; sent = facts.leases; dead = facts.dead; running = facts.running }

abbrev pub Good : Protocol → Type 0
Good p = Facts p × Safe p.pool

-- a step that changes no job's state
quiet : (p : Protocol) (k : AbstractStep) → Facts p → Safe p.pool → IsQuiet k → AllBacked p.pool p.grants (k ∷ []) → Good (with_steps p (k ∷ []))
quiet p k facts safe is backed =
    let t = steps_tracked p.pool (k ∷ []) p.grants p.leases p.gone backed (tracked p facts safe) in (
      record {
        numbers = t.numbers;
        leases = t.sent;
        dead = t.dead;
        running = t.running;
        pending = still p.pending facts.pending;
        removals = λ job there. grows.ordered job (facts.removals job there);
      },
      t.safe,
    )
  where
    grows : Grows p.pool (view_after p.pool k)
    grows = quiet_grows p.pool k is backed.0

    still : (o : Option Change) → IfSome o (CanBeMade p.pool) → IfSome o (CanBeMade (view_after p.pool k))
    still None can = tt
    still (Some change) can = can_on p.pool (view_after p.pool k) grows change can

commit : (p : Protocol) → Facts p → Safe p.pool → Good (protocol_after p Commit)
commit p facts safe =
    let t = steps_tracked p.pool (steps_of p Commit) p.grants p.leases p.gone (move_backed p Commit facts tt) (tracked p facts safe) in (
      record {
        numbers = t.numbers;
        leases = t.sent;
        dead = t.dead;
        running = t.running;
        pending = tt;
        removals = λ job there. ordered_all p.pool (steps_of p Commit) job (removed_ordered p.pool p.pending p.removals facts.pending facts.removals job there);
      },
      t.safe,
    )

send_lease : (p : Protocol) (l : Lease) → Facts p → IsLogged p l → Facts (protocol_after p (SendLease l))
send_lease p l facts may = record {
  numbers = facts.numbers;
  leases = record { granted = granted; kept = kept; cores = cores };
  dead = facts.dead;
  running = facts.running;
  pending = facts.pending;
  removals = facts.removals;
}
  where
    granted : (x : Lease) → IsIn x (l ∷ p.leases) → IsIn (record { run = x.run; job = x.job }) p.grants
    granted x (inl same) = subst (λ y. IsIn (record { run = y.run; job = y.job }) p.grants) (sym same) (facts.numbers.of_jobs l.job l.run may.0.0 may.0.1)
    granted x (inr there) = facts.leases.granted x there

    kept : (x : Lease) → IsIn x (l ∷ p.leases) → IsKept p.pool x.job x.run x.until
    kept x (inl same) = subst (λ y. IsKept p.pool y.job y.run y.until) (sym same) (inr (inr may.0))
    kept x (inr there) = facts.leases.kept x there

    cores : (x : Lease) → IsIn x (l ∷ p.leases) → HasCore p.pool x.job x.core
    cores x (inl same) = subst (λ y. HasCore p.pool y.job y.core) (sym same) may.1
    cores x (inr there) = facts.leases.cores x there

say_gone : (p : Protocol) (run : RunNo) → Facts p → MayMove p (SayGone run) → Facts (protocol_after p (SayGone run))
say_gone p run facts may = record {
  numbers = facts.numbers;
  leases = facts.leases;
  dead = record { gone_dead = dead; reported_dead = facts.dead.reported_dead };
  running = facts.running;
  pending = facts.pending;
  removals = facts.removals;
}
  where
    dead : (x : RunNo) → IsIn x (run ∷ p.gone) → IsDead p.pool x
    dead x (inl same) = subst (IsDead p.pool) (sym same) (may.0, λ s there is. may.1 s there ((facts.running.claimed s there).0 ∙ ap (λ n. n.claim.slot) is) is)
    dead x (inr there) = facts.dead.gone_dead x there

with_pending : (p : Protocol) (pending : Option Change) → Facts p → IfSome pending (CanBeMade p.pool) → Facts (record p { pending = pending })
with_pending p pending facts can = record { numbers = facts.numbers; leases = facts.leases; dead = facts.dead; running = facts.running; pending = can; removals = facts.removals }

-- each move keeps the facts, and the pool safe
pub move_good : (p : Protocol) (m : ProtocolMove) → Facts p → Safe p.pool → MayMove p m → Good (protocol_after p m)
move_good p (PassTime moment) facts safe may = quiet p (Time moment) facts safe tt (move_backed p (PassTime moment) facts may)
move_good p (Pend change) facts safe may = (with_pending p (Some change) facts (pend p facts change may.1), safe)
move_good p Commit facts safe may = commit p facts safe
move_good p Drop facts safe may = (with_pending p None facts tt, safe)
move_good p (Confirm job) facts safe may = quiet p (Acknowledge job) facts safe tt (move_backed p (Confirm job) facts may)
move_good p (TakeOrder job) facts safe may = quiet p (Order job) facts safe tt (move_backed p (TakeOrder job) facts may)
move_good p (SendLease l) facts safe may = (send_lease p l facts may, safe)
move_good p (HoldClaim claim) facts safe may = quiet p (Mark (marks_with p.pool.marks claim.slot (mark_with_claim claim))) facts safe tt (move_backed p (HoldClaim claim) facts may)
move_good p (UseNumber run) facts safe may = quiet p (Mark (marks_with p.pool.marks run.claim.slot (mark_with_number run.number))) facts safe tt (move_backed p (UseNumber run) facts may)
move_good p (EndClaim claim) facts safe may = quiet p (Mark (marks_with p.pool.marks claim.slot (mark_after_claim claim))) facts safe tt (move_backed p (EndClaim claim) facts may)
move_good p (Reboot slot boot) facts safe may = quiet p (Mark (marks_with p.pool.marks slot (mark_after_boot boot))) facts safe tt (move_backed p (Reboot slot boot) facts may)
move_good p (StartRun r) facts safe may = quiet p (Start r (marks_with p.pool.marks r.run.claim.slot (mark_with_number r.run.number))) facts safe tt (move_backed p (StartRun r) facts may)
move_good p (ExtendRun r until) facts safe may = quiet p (Extend r until) facts safe tt (move_backed p (ExtendRun r until) facts may)
move_good p (StopRun r how) facts safe may = quiet p (Stop r how) facts safe tt (move_backed p (StopRun r how) facts may)
move_good p (SayGone run) facts safe may = (say_gone p run facts may, safe)
