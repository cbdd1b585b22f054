-- The rows of the daemons that make several moves: each move's condition follows from what the daemon saw at the row's beginning.
use Rattle.std.proofs.Common.{◌≡◌, ℕ, ◌<◌, ◌⊎◌, inl, inr, List, [], ◌∷◌, map, Option, Some, None, true, not, refl, sym, ◌∙◌, ap, subst, arith, if◌then◌else◌, IfSome, IsSome, IsSomeAnd}
use Rattle.std.specs.Prelude.{option_map}
use Rattle.claim_id.specs.declared.numbers.JobId.{JobId}
use Rattle.pool_view.specs.Ads.{Core}
use Rattle.claim_id.specs.declared.numbers.RunNo.{RunNo}
use Rattle.claim_id.specs.declared.numbers.ClaimNo.{ClaimNo}
use Rattle.pool_view.specs.Numbers.{same_run}
use Rattle.pool_mail.specs.declared.end.How.{How}
use Rattle.pool_view.specs.declared.job.State.{State}
use Rattle.pool_view.specs.declared.job.Entry.{Entry}
use Rattle.pool_view.specs.declared.run.Run.{Run}
use Rattle.pool_view.specs.declared.mark.HeldClaim.{HeldClaim}
use Rattle.pool_view.specs.declared.mark.SlotMark.{SlotMark}
use Rattle.pool_view.specs.declared.job.Outcome.TheVariants.{Removed}
use Rattle.pool_view.specs.declared.job.State.TheVariants.{Idle, Under, Left}
use Rattle.pool_view.specs.AbstractPool.{Marks, AbstractPool, IsIn, IsSpent, Stands, HasCore}
use Rattle.pool_view.specs.AbstractStep.{AbstractStep, Grant, Lengthen, Finish, Stop, IsWaiting, with_lease_end, view_after}
use Rattle.pool_view.specs.Safe.{Safe}
use Rattle.pool_view.proofs.Members.{in_filter, passes, has_some}
use Rattle.pool_view.proofs.Sameness.{same_job-same, same_run-same}
use Rattle.pool_view.proofs.Steps.{new_state, step_core}
use Rattle.pool_view.specs.Protocol.{NewJob, Change, Submission, OfJob, Removal, Protocol, HasMark, Holds, HoldsBefore, IsHeldIn, marks_with, mark_after_claim, view_after_all, queue_step, AreNew, pending_steps}
use Rattle.pool_view.specs.ProtocolMove.{Pend, Commit, Confirm, TakeOrder, SendLease, HoldClaim, UseNumber, EndClaim, Reboot, StopRun, SayGone, MayLetGo, HasNoRun, IsFreeFor, IsNotRun, protocol_after, MayAll, confirm_move}
use Rattle.pool_view.specs.Facts.{IsSound, MarksSound, CanBeMade, Facts}
use Rattle.pool_view.proofs.Claims.{at_own, number_used, held_before, unspent, with_sound}

-- ---- a startd
-- one claim ends and a later one is held (an Ask of a Claimed/Idle slot)
own_boot : (claim : ClaimNo) (m : SlotMark) → IsHeldIn m claim → IsSound claim.slot m → claim.boot ≡ m.boot
own_boot claim m holds sound = by_claim m.held holds sound
  where
    by_claim : (o : Option HeldClaim) → IsSomeAnd o (λ h. h.claim ≡ claim) → IfSome o (λ h. (h.claim.slot ≡ claim.slot) × (h.claim.boot ≡ m.boot) × (m.ended < h.claim.seq)) → claim.boot ≡ m.boot
    by_claim None is sound = absurd is
    by_claim (Some h) is sound = ap (λ c. c.boot) (sym is) ∙ sound.1

-- after a claim has ended, its slot is free for a later one
free_after : (marks : Marks) (old new : ClaimNo) → MarksSound marks → Holds marks old → new.slot ≡ old.slot → new.boot ≡ old.boot → old.seq < new.seq
    → HasMark (marks_with marks old.slot (mark_after_claim old)) new.slot (IsFreeFor new)
free_after marks old new sound holds slot boot seq =
    subst (λ s. HasMark (marks_with marks old.slot (mark_after_claim old)) s (IsFreeFor new)) (sym slot) (at_own marks old.slot (mark_after_claim old) (λ o. IsSomeAnd o (IsFreeFor new)) (by_mark (marks old.slot) (with_sound marks old.slot (λ m. IsHeldIn m old) holds sound)))
  where
    by_mark : (o : Option SlotMark) → IsSomeAnd o (λ m. IsHeldIn m old × IsSound old.slot m) → IsSomeAnd (option_map (mark_after_claim old) o) (IsFreeFor new)
    by_mark None known = absurd known
    by_mark (Some m) known = (boot ∙ own_boot old m known.0 known.1, seq, refl)

pub hand_over : (p : Protocol) (old new : ClaimNo) → Facts p → Holds p.pool.marks old → HasNoRun p.pool old.slot → new.slot ≡ old.slot → new.boot ≡ old.boot → old.seq < new.seq
    → MayAll p (EndClaim old ∷ HoldClaim new ∷ [])
hand_over p old new facts holds none slot boot seq = ((holds, none), (free_after p.pool.marks old new facts.running.marks holds slot boot seq, tt))

-- a run's number is used up, and the run is said to be gone: where it was not used before (an Activate that is denied) ..
pub burn_new : (p : Protocol) (run : RunNo) → Facts p → HoldsBefore p.pool.marks run → MayAll p (UseNumber run ∷ SayGone run ∷ [])
burn_new p run facts before =
    let holds = held_before p.pool.marks run before in
    let fresh = unspent p.pool.marks run facts.running.marks before in
    (holds, (((number_used p.pool.marks run holds).0, λ s there slot same. fresh (subst (IsSpent p.pool) same (facts.running.spent s there))), tt))

-- .. and where its slot doesn't run it (an Alive or a Stop)
pub burn_old : (p : Protocol) (run : RunNo) → Holds p.pool.marks run.claim → IsNotRun p.pool run → MayAll p (UseNumber run ∷ SayGone run ∷ [])
burn_old p run holds none = (holds, (((number_used p.pool.marks run holds).0, none), tt))

-- after a run has stopped its slot has none
no_run_after : (v : AbstractPool) (r : Run) (how : Option How) → Safe v → IsIn r v.runs → HasNoRun (view_after v (Stop r how)) r.slot
no_run_after v r how safe there s left same =
    let old : IsIn s v.runs = in_filter (λ x. not (same_run x.run r.run)) s v.runs left in
    let one : s ≡ r = safe.one_run_per_slot s r old there (inl same) in
    let passed : not (same_run s.run r.run) ≡ true = passes (λ x. not (same_run x.run r.run)) s v.runs left in
    let itself : not (same_run r.run r.run) ≡ true = subst (λ x. not (same_run x.run r.run) ≡ true) one passed in
    let equal : same_run r.run r.run ≡ true = same_run-same r.run in
    let never : not true ≡ true = subst (λ b. not b ≡ true) equal itself in
    cc

-- a run ends, and with it its claim
pub end_run : (p : Protocol) (r : Run) (how : Option How) → Facts p → Safe p.pool → IsIn r p.pool.runs → MayAll p (StopRun r how ∷ EndClaim r.run.claim ∷ [])
end_run p r how facts safe there =
    let claimed = facts.running.claimed r there in
    let none = no_run_after p.pool r how safe there in
    (there, ((claimed.1, subst (HasNoRun (view_after p.pool (Stop r how))) claimed.0 none), tt))

-- and a rival is held
pub end_run_hand_over : (p : Protocol) (r : Run) (how : Option How) (new : ClaimNo) → Facts p → Safe p.pool → IsIn r p.pool.runs
    → new.slot ≡ r.run.claim.slot → new.boot ≡ r.run.claim.boot → r.run.claim.seq < new.seq
    → MayAll p (StopRun r how ∷ EndClaim r.run.claim ∷ HoldClaim new ∷ [])
end_run_hand_over p r how new facts safe there slot boot seq =
    let claimed = facts.running.claimed r there in
    let ends = end_run p r how facts safe there in
    (ends.0, (ends.1.0, (free_after p.pool.marks r.run.claim new facts.running.marks claimed.1 slot boot seq, tt)))

-- a machine boots under a run
pub reboot_run : (p : Protocol) (r : Run) (boot : ℕ) → Safe p.pool → IsIn r p.pool.runs → HasMark p.pool.marks r.slot (λ m. m.boot < boot) → MayAll p (StopRun r None ∷ Reboot r.slot boot ∷ [])
reboot_run p r boot safe there later = (there, ((later, no_run_after p.pool r None safe there), tt))

-- ---- the schedd
-- a grant is logged, and its Activate is sent
grant_logged : (v : AbstractPool) (o : Option Change) (job : JobId) (run : RunNo) (end : ℕ) → o ≡ Some (OfJob (Grant job run end)) → IfSome o (CanBeMade v) → Stands (view_after_all v (pending_steps o)) job (Under run end)
grant_logged v o job run end is can =
    let now : CanBeMade v (OfJob (Grant job run end)) = subst (λ x. IfSome x (CanBeMade v)) is can in
    subst (λ x. Stands (view_after_all v (pending_steps x)) job (Under run end)) (sym is) (new_state v job (λ _. Under run end) Idle now.1.0)

core_logged : (v : AbstractPool) (o : Option Change) (k : AbstractStep) (job : JobId) (core : Core) → o ≡ Some (OfJob k) → IfSome o (CanBeMade v) → HasCore v job core → HasCore (view_after_all v (pending_steps o)) job core
core_logged v o k job core is can has =
    let now : CanBeMade v (OfJob k) = subst (λ x. IfSome x (CanBeMade v)) is can in
    subst (λ x. HasCore (view_after_all v (pending_steps x)) job core) (sym is) (step_core v k job core now.1 has)

pub commit_grant : (p : Protocol) (job : JobId) (run : RunNo) (end : ℕ) (core : Core) → Facts p → p.pending ≡ Some (OfJob (Grant job run end)) → HasCore p.pool job core
    → MayAll p (Commit ∷ SendLease (record { run = run; job = job; core = core; until = end }) ∷ [])
commit_grant p job run end core facts is has =
    (tt, (((end, grant_logged p.pool p.pending job run end is facts.pending, omega arith), core_logged p.pool p.pending (Grant job run end) job core is facts.pending has), tt))

-- a lease's later end is logged, and its Alive is sent
lengthened_logged : (v : AbstractPool) (o : Option Change) (job : JobId) (run : RunNo) (old end : ℕ) → o ≡ Some (OfJob (Lengthen job end)) → Stands v job (Under run old) → Stands (view_after_all v (pending_steps o)) job (Under run end)
lengthened_logged v o job run old end is stands =
    subst (λ x. Stands (view_after_all v (pending_steps x)) job (Under run end)) (sym is) (new_state v job (with_lease_end end) (Under run old) stands)

pub commit_lengthen : (p : Protocol) (job : JobId) (run : RunNo) (old end : ℕ) (core : Core) → Facts p → p.pending ≡ Some (OfJob (Lengthen job end)) → Stands p.pool job (Under run old) → HasCore p.pool job core
    → MayAll p (Commit ∷ SendLease (record { run = run; job = job; core = core; until = end }) ∷ [])
commit_lengthen p job run old end core facts is stands has =
    (tt, (((end, lengthened_logged p.pool p.pending job run old end is stands, omega arith), core_logged p.pool p.pending (Lengthen job end) job core is facts.pending has), tt))

-- a submission is logged, and its jobs are acknowledged
queued_here : (v : AbstractPool) (j : NewJob) → HasCore (view_after v (queue_step j)) j.job j.core
queued_here v j = subst (λ b. IsSomeAnd (if b then Some (record { core = j.core; state = Idle }) else v.jobs j.job) (λ e. e.core ≡ j.core)) (sym (same_job-same j.job)) refl

cores_queued : (v : AbstractPool) (jobs : List NewJob) (q : JobId) (core : Core) → AreNew v.jobs jobs → HasCore v q core → HasCore (view_after_all v (map queue_step jobs)) q core
cores_queued v [] q core new has = has
cores_queued v (j ∷ js) q core new has = cores_queued (view_after v (queue_step j)) js q core new.1 (step_core v (queue_step j) q core new.0 has)

all_queued : (v : AbstractPool) (jobs : List NewJob) → AreNew v.jobs jobs → (j : NewJob) → IsIn j jobs → HasCore (view_after_all v (map queue_step jobs)) j.job j.core
all_queued v [] new j there = absurd there
all_queued v (x ∷ xs) new j (inl same) = subst (λ y. HasCore (view_after_all (view_after v (queue_step x)) (map queue_step xs)) y.job y.core) (sym same) (cores_queued (view_after v (queue_step x)) xs x.job x.core new.1 (queued_here v x))
all_queued v (x ∷ xs) new j (inr there) = all_queued (view_after v (queue_step x)) xs new.1 j there

all_confirmed : (p : Protocol) (jobs : List NewJob) → ((j : NewJob) → IsIn j jobs → IsSome (p.pool.jobs j.job)) → MayAll p (map confirm_move jobs)
all_confirmed p [] there = tt
all_confirmed p (j ∷ js) there = (there j (inl refl), all_confirmed (protocol_after p (Confirm j.job)) js (λ x in_js. there x (inr in_js)))

pub commit_submission : (p : Protocol) (jobs : List NewJob) → Facts p → p.pending ≡ Some (Submission jobs) → MayAll p (Commit ∷ map confirm_move jobs)
commit_submission p jobs facts is = (tt, all_confirmed (protocol_after p Commit) jobs there)
  where
    new : AreNew p.pool.jobs jobs
    new = subst (λ o. IfSome o (CanBeMade p.pool)) is facts.pending

    there : (j : NewJob) → IsIn j jobs → IsSome ((view_after_all p.pool (pending_steps p.pending)).jobs j.job)
    there j in_jobs = subst (λ o. IsSome ((view_after_all p.pool (pending_steps o)).jobs j.job)) (sym is) (has_some ((view_after_all p.pool (map queue_step jobs)).jobs j.job) (λ e. e.core ≡ j.core) (all_queued p.pool jobs new j in_jobs))

-- a job's removal is ordered, while it is under a run ..
pub remove_under : (p : Protocol) (job : JobId) → IsSome (p.pool.jobs job) → p.pending ≡ None → MayAll p (TakeOrder job ∷ Pend (Removal job) ∷ [])
remove_under p job there none = (there, ((none, inl refl), tt))

-- .. and while it is not
pub remove_now : (p : Protocol) (job : JobId) → IsSomeAnd (p.pool.jobs job) (λ e. IsWaiting e.state ⊎ (e.state ≡ Left)) → p.pending ≡ None → MayAll p (TakeOrder job ∷ Pend (OfJob (Finish job Removed)) ∷ [])
remove_now p job there none = (has_some (p.pool.jobs job) (λ e. IsWaiting e.state ⊎ (e.state ≡ Left)) there, ((none, (inl (inl refl), by_entry (p.pool.jobs job) there)), tt))
  where
    by_state : (s : State) → IsWaiting s ⊎ (s ≡ Left) → IsWaiting s ⊎ MayLetGo (protocol_after p (TakeOrder job)) s
    by_state s (inl waits) = inl waits
    by_state s (inr left) = inr (subst (MayLetGo (protocol_after p (TakeOrder job))) (sym left) tt)

    by_entry : (o : Option Entry) → IsSomeAnd o (λ e. IsWaiting e.state ⊎ (e.state ≡ Left)) → IsSomeAnd o (λ e. IsWaiting e.state ⊎ MayLetGo (protocol_after p (TakeOrder job)) e.state)
    by_entry None h = h
    by_entry (Some e) h = by_state e.state h
