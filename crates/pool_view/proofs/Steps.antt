-- Every step that may be made keeps an abstract pool safe.
use Rattle.std.proofs.Common.{◌≡◌, ◌≢◌, ℕ, ◌<◌, ◌≤◌, ◌⊎◌, inl, inr, List, [], ◌∷◌, Option, Some, None, Bool, true, false, not, max, refl, sym, ◌∙◌, ap, subst, arith, if◌then◌else◌, IfSome, IsSome, IsSomeAnd, map}
use Rattle.std.specs.Prelude.{option_map, nat_lt}
use Rattle.std.proofs.lemmas.Bool.{ltb-true, ltb-false}
use Rattle.claim_id.specs.declared.numbers.JobId.{JobId}
use Rattle.claim_id.specs.declared.numbers.RunNo.{RunNo}
use Rattle.claim_id.specs.declared.numbers.SlotId.{SlotId}
use Rattle.pool_mail.specs.declared.end.How.{How}
use Rattle.pool_view.specs.declared.job.Entry.{Entry}
use Rattle.pool_view.specs.declared.job.Outcome.{Outcome}
use Rattle.pool_view.specs.declared.job.Outcome.TheVariants.{EndedBy, Removed}
use Rattle.pool_view.specs.declared.job.State.{State}
use Rattle.pool_view.specs.declared.job.State.TheVariants.{Idle, Held, Under, Left, Done}
use Rattle.pool_view.specs.declared.run.EndReport.{EndReport}
use Rattle.pool_view.specs.declared.run.Run.{Run}
use Rattle.pool_view.specs.Ads.{Core, core_of}
use Rattle.pool_view.specs.Numbers.{same_job, same_run}
use Rattle.pool_view.specs.AbstractPool.{Marks, AbstractPool, IsIn, set, SameView, IsSpent, IsSpentBy, IsDead, KeepsSpent, Stands, HasCore}
use Rattle.pool_view.specs.AbstractStep.{AbstractStep, Time, Queue, Acknowledge, Order, Grant, Start, Mark, Extend, Stop, Free, Finish, Hold, Release, Lengthen, IsLeased, IsOver, IsWaiting, MayStart, Allowed, entry_with_state, with_state, with_lease_end, with_until, reports_with, view_after, Takes}
use Rattle.pool_view.specs.Safe.{IsMatched, IsAccounted, Shares, Competes, HasOneRunPerSlot, HasOneLeasePerJob, AreEndingsSaid, Safe, RunsLeased, RunsSpent}
use Rattle.pool_view.proofs.Sameness.{same_job-true, other_job, same_number}
use Rattle.pool_view.proofs.Members.{in_filter, in_map, has_some}

-- a fact of a job's state, where the state is known
pub at_state : (o : Option Entry) (P : State → Type 0) (s : State) → IsSomeAnd o (λ e. e.state ≡ s) → IsSomeAnd o (λ e. P e.state) → P s
at_state None P s stands fact = absurd stands
at_state (Some e) P s stands fact = subst P stands fact

-- where a job is the one whose state was changed, its entry has the new state; else its entry is as it was
abbrev pub EntryAt : AbstractPool → JobId → (State → State) → JobId → Type 0
EntryAt v job f q = ((q ≡ job) × ((with_state v job f).jobs q ≡ option_map (entry_with_state f) (v.jobs q))) ⊎ ((q ≢ job) × ((with_state v job f).jobs q ≡ v.jobs q))

pub entry_at : (v : AbstractPool) (job : JobId) (f : State → State) (q : JobId)
    → EntryAt v job f q
entry_at v job f q = by_test (same_job q job) refl
  where
    by_test : (b : Bool) → same_job q job ≡ b
        → ((q ≡ job) × ((if b then option_map (entry_with_state f) (v.jobs job) else v.jobs q) ≡ option_map (entry_with_state f) (v.jobs q))) ⊎ ((q ≢ job) × ((if b then option_map (entry_with_state f) (v.jobs job) else v.jobs q) ≡ v.jobs q))
    by_test true is = let same = same_job-true q job is in inl (same, ap (λ k. option_map (entry_with_state f) (v.jobs k)) (sym same))
    by_test false is = inr (other_job q job is, refl)

-- a change of a state keeps the core
pub core_kept : (f : State → State) (core : Core) (o : Option Entry) → IsSomeAnd o (λ e. e.core ≡ core) → IsSomeAnd (option_map (entry_with_state f) o) (λ e. e.core ≡ core)
core_kept f core None has = has
core_kept f core (Some e) has = has

-- and changes the state of its job alone
state_changed : (f : State → State) (s : State) (o : Option Entry) → IsSomeAnd o (λ e. e.state ≡ s) → IsSomeAnd (option_map (entry_with_state f) o) (λ e. e.state ≡ f s)
state_changed f s None stands = stands
state_changed f s (Some e) stands = ap f stands

pub changed_core : (v : AbstractPool) (job : JobId) (f : State → State) (q : JobId) (core : Core) → HasCore v q core → HasCore (with_state v job f) q core
changed_core v job f q core has = by_place (entry_at v job f q)
  where
    by_place : EntryAt v job f q → HasCore (with_state v job f) q core
    by_place (inl at) = subst (λ o. IsSomeAnd o (λ e. e.core ≡ core)) (sym at.1) (core_kept f core (v.jobs q) has)
    by_place (inr at) = subst (λ o. IsSomeAnd o (λ e. e.core ≡ core)) (sym at.1) has

pub other_state : (v : AbstractPool) (job : JobId) (f : State → State) (q : JobId) (s : State) → q ≢ job → Stands v q s → Stands (with_state v job f) q s
other_state v job f q s other stands = by_place (entry_at v job f q)
  where
    by_place : EntryAt v job f q → Stands (with_state v job f) q s
    by_place (inl at) = absurd (other at.0)
    by_place (inr at) = subst (λ o. IsSomeAnd o (λ e. e.state ≡ s)) (sym at.1) stands

pub new_state : (v : AbstractPool) (job : JobId) (f : State → State) (s : State) → Stands v job s → Stands (with_state v job f) job (f s)
new_state v job f s stands = by_place (entry_at v job f job)
  where
    by_place : EntryAt v job f job → Stands (with_state v job f) job (f s)
    by_place (inl at) = subst (λ o. IsSomeAnd o (λ e. e.state ≡ f s)) (sym at.1) (state_changed f s (v.jobs job) stands)
    by_place (inr at) = absurd (at.0 refl)

-- a job that isn't there yet is another
pub queued_other : (v : AbstractPool) (job : JobId) (new : Option Entry) (P : Entry → Type 0) (q : JobId) → v.jobs job ≡ None → IsSomeAnd (v.jobs q) P → IsSomeAnd (set same_job v.jobs job new q) P
queued_other v job new P q absent there = by_test (same_job q job) refl
  where
    by_test : (b : Bool) → same_job q job ≡ b → IsSomeAnd (if b then new else v.jobs q) P
    by_test true is = absurd (subst (λ o. IsSomeAnd o P) (ap v.jobs (same_job-true q job is) ∙ absent) there)
    by_test false is = there

-- no step changes a job's core or takes a job away
pub step_core : (v : AbstractPool) (k : AbstractStep) (q : JobId) (core : Core) → Allowed v k → HasCore v q core → HasCore (view_after v k) q core
step_core v (Time moment) q core ok has = has
step_core v (Queue job new) q core ok has = queued_other v job (Some (record { core = new; state = Idle })) (λ e. e.core ≡ core) q ok has
step_core v (Acknowledge job) q core ok has = has
step_core v (Order job) q core ok has = has
step_core v (Grant job run end) q core ok has = changed_core v job (λ s. Under run end) q core has
step_core v (Start r marks) q core ok has = has
step_core v (Mark marks) q core ok has = has
step_core v (Extend r until) q core ok has = has
step_core v (Stop r how) q core ok has = has
step_core v (Free job state) q core ok has = changed_core v job (λ s. state) q core has
step_core v (Finish job outcome) q core ok has = changed_core v job (λ s. Done outcome) q core has
step_core v (Hold job) q core ok has = changed_core v job (λ s. Held) q core has
step_core v (Release job) q core ok has = changed_core v job (λ s. Idle) q core has
step_core v (Lengthen job end) q core ok has = changed_core v job (with_lease_end end) q core has

-- the runs of a job are leased by its new state
abbrev OwnLeased : AbstractPool → JobId → (State → State) → Type 0
OwnLeased v job f = (r : Run) (end : ℕ) → IsIn r v.runs → Stands v job (Under r.run end) → r.until ≤ end → IsLeased (with_state v job f) job r.run r.until

-- one job's new state keeps the runs leased, where those of this job are
changed_leased : (v : AbstractPool) (job : JobId) (f : State → State)
    → OwnLeased v job f
    → RunsLeased v → RunsLeased (with_state v job f)
changed_leased v job f own leased r there = by_lease (leased r there)
  where
    by_place : (end : ℕ) → Stands v r.job (Under r.run end) → r.until ≤ end
        → EntryAt v job f r.job
        → IsLeased (with_state v job f) r.job r.run r.until
    by_place end stands within (inl at) =
        subst (λ q. IsLeased (with_state v job f) q r.run r.until) (sym at.0) (own r end there (subst (λ q. Stands v q (Under r.run end)) at.0 stands) within)
    by_place end stands within (inr at) = inr (end, other_state v job f r.job (Under r.run end) at.0 stands, within)

    by_lease : IsLeased v r.job r.run r.until → IsLeased (with_state v job f) r.job r.run r.until
    by_lease (inl past) = inl past
    by_lease (inr (end, stands, within)) = by_place end stands within (entry_at v job f r.job)

-- a run of a job whose grant is over has a past lease
over_leased : (v : AbstractPool) (job : JobId) (f : State → State) → IsSomeAnd (v.jobs job) (λ e. IsOver v e.state)
    → OwnLeased v job f
over_leased v job f over r end there stands within = by_cause (at_state (v.jobs job) (IsOver v) (Under r.run end) stands over)
  where
    by_cause : IsDead v r.run ⊎ (end ≤ v.moment) → IsLeased (with_state v job f) job r.run r.until
    by_cause (inl dead) = absurd (dead.1 r there refl)
    by_cause (inr past) = inl (omega arith)

-- a job in another state has no run under a lease
not_under : (v : AbstractPool) (job : JobId) (f : State → State) (s : State) → Stands v job s → ((run : RunNo) (end : ℕ) → s ≢ Under run end)
    → OwnLeased v job f
not_under v job f s here other r end there stands within = absurd (other r.run end (sym (at_state (v.jobs job) (λ t. t ≡ s) (Under r.run end) stands here)))

-- a longer lease covers what the shorter one did
lengthened_leased : (v : AbstractPool) (job : JobId) (run : RunNo) (old end : ℕ) → Stands v job (Under run old) → old ≤ end
    → OwnLeased v job (with_lease_end end)
lengthened_leased v job run old end here longer r until there stands within =
    let same : Under r.run until ≡ Under run old = at_state (v.jobs job) (λ t. t ≡ Under run old) (Under r.run until) stands here in
    let shorter : until ≡ old = cc in
    inr (end, new_state v job (with_lease_end end) (Under r.run until) stands, omega arith)

in_order : (m n : ℕ) → (m ≤ n) ⊎ (n ≤ m)
in_order m n = by_test (nat_lt m n) refl
  where
    by_test : (b : Bool) → nat_lt m n ≡ b → (m ≤ n) ⊎ (n ≤ m)
    by_test true is = let less : m < n = ltb-true m n is in inl (omega arith)
    by_test false is = inr (ltb-false m n is)

-- of two ends of a lease that hold, the greater one holds
greater_leased : (v : AbstractPool) (job : JobId) (run : RunNo) (a b : ℕ) → IsLeased v job run a → IsLeased v job run b → IsLeased v job run (max a b)
greater_leased v job run a b first second = by_order (in_order a b)
  where
    by_order : (a ≤ b) ⊎ (b ≤ a) → IsLeased v job run (max a b)
    by_order (inl less) = let greatest : b ≡ max a b = omega arith in subst (IsLeased v job run) greatest second
    by_order (inr more) = let greatest : a ≡ max a b = omega arith in subst (IsLeased v job run) greatest first

-- an extended run is leased
extended_leased : (v : AbstractPool) (r s : Run) (until : ℕ) → (same_run s.run r.run ≡ true → s ≡ r) → IsLeased v r.job r.run until → IsLeased v s.job s.run s.until → IsLeased v (with_until r.run until s).job (with_until r.run until s).run (with_until r.run until s).until
extended_leased v r s until alone later old = by_test (same_run s.run r.run) refl
  where
    by_test : (b : Bool) → same_run s.run r.run ≡ b
        → let t : Run = (if b then record s { until = max s.until until } else s) in IsLeased v t.job t.run t.until
    by_test true is = greater_leased v s.job s.run s.until until old (subst (λ x. IsLeased v x.job x.run until) (sym (alone is)) later)
    by_test false is = old

-- every step keeps the runs leased
pub step_leased : (v : AbstractPool) (k : AbstractStep) → Safe v → Allowed v k → RunsLeased v → RunsLeased (view_after v k)
step_leased v (Time moment) safe ok leased r there = by_lease (leased r there)
  where
    by_lease : IsLeased v r.job r.run r.until → IsLeased (view_after v (Time moment)) r.job r.run r.until
    by_lease (inl past) = inl (omega arith)
    by_lease (inr h) = inr h
step_leased v (Queue job core) safe ok leased r there = by_lease (leased r there)
  where
    by_lease : IsLeased v r.job r.run r.until → IsLeased (view_after v (Queue job core)) r.job r.run r.until
    by_lease (inl past) = inl past
    by_lease (inr (end, stands, within)) = inr (end, queued_other v job (Some (record { core = core; state = Idle })) (λ e. e.state ≡ Under r.run end) r.job ok stands, within)
step_leased v (Acknowledge job) safe ok leased r there = leased r there
step_leased v (Order job) safe ok leased r there = leased r there
step_leased v (Grant job run end) safe ok leased r there =
    changed_leased v job (λ s. Under run end) (not_under v job (λ s. Under run end) Idle ok.0 (λ n e. λ no. cc)) leased r there
step_leased v (Start new marks) safe ok leased r (inl same) = subst (λ x. IsLeased v x.job x.run x.until) (sym same) ok.0.leased
step_leased v (Start new marks) safe ok leased r (inr there) = leased r there
step_leased v (Mark marks) safe ok leased r there = leased r there
step_leased v (Extend run until) safe ok leased r there =
    let found = in_map (with_until run.run until) r v.runs there in
    let alone : same_run found.0.run run.run ≡ true → found.0 ≡ run = λ is. safe.one_run_per_slot found.0 run found.1 ok.0 (inr (same_number found.0.run run.run is)) in
    subst (λ x. IsLeased v x.job x.run x.until) (sym found.2) (extended_leased v run found.0 until alone ok.1 (leased found.0 found.1))
step_leased v (Stop run how) safe ok leased r there = leased r (in_filter (λ s. not (same_run s.run run.run)) r v.runs there)
step_leased v (Free job state) safe ok leased r there = changed_leased v job (λ s. state) (over_leased v job (λ s. state) ok.1) leased r there
step_leased v (Finish job (EndedBy run how)) safe ok leased r there = changed_leased v job (λ s. Done (EndedBy run how)) dead_run leased r there
  where
    dead_run : OwnLeased v job (λ s. Done (EndedBy run how))
    dead_run x end at stands within =
        let same : Under x.run end ≡ Under run ok.0.0 = at_state (v.jobs job) (λ t. t ≡ Under run ok.0.0) (Under x.run end) stands ok.0.1 in
        let its : x.run ≡ run = cc in
        absurd (ok.1.1 x at its)
step_leased v (Finish job Removed) safe ok leased r there = changed_leased v job (λ s. Done Removed) no_run leased r there
  where
    by_cause : (r : Run) (end : ℕ) → IsIn r v.runs → Stands v job (Under r.run end) → r.until ≤ end
        → IsWaiting (Under r.run end) ⊎ IsOver v (Under r.run end) → IsLeased (with_state v job (λ s. Done Removed)) job r.run r.until
    by_cause r end there stands within (inl (inl waits)) = cc
    by_cause r end there stands within (inl (inr waits)) = cc
    by_cause r end there stands within (inr (inl dead)) = absurd (dead.1 r there refl)
    by_cause r end there stands within (inr (inr past)) = inl (omega arith)

    no_run : (r : Run) (end : ℕ) → IsIn r v.runs → Stands v job (Under r.run end) → r.until ≤ end → IsLeased (with_state v job (λ s. Done Removed)) job r.run r.until
    no_run r end there stands within = by_cause r end there stands within (at_state (v.jobs job) (λ t. IsWaiting t ⊎ IsOver v t) (Under r.run end) stands ok.1)
step_leased v (Hold job) safe ok leased r there = changed_leased v job (λ s. Held) (not_under v job (λ s. Held) Idle ok (λ n e. λ no. cc)) leased r there
step_leased v (Release job) safe ok leased r there = changed_leased v job (λ s. Idle) (not_under v job (λ s. Idle) Held ok (λ n e. λ no. cc)) leased r there
step_leased v (Lengthen job end) safe (run, old, stands, longer) leased r there = changed_leased v job (with_lease_end end) (lengthened_leased v job run old end stands longer) leased r there

-- runs that are alone and leased leave no job two leases
one_lease : (v : AbstractPool) → HasOneRunPerSlot v → RunsLeased v
    → HasOneLeasePerJob v
one_lease v alone leased r s here there (same, later, lasting) = by_lease (leased r here) (leased s there)
  where
    by_lease : IsLeased v r.job r.run r.until → IsLeased v s.job s.run s.until → r ≡ s
    by_lease (inl past) other = absurd (omega arith)
    by_lease (inr own) (inl past) = absurd (omega arith)
    by_lease (inr (end, stands, within)) (inr (late, lasts, until)) =
        let one : Under r.run end ≡ Under s.run late = at_state (v.jobs r.job) (λ t. t ≡ Under s.run late) (Under r.run end) stands (subst (λ q. Stands v q (Under s.run late)) (sym same) lasts) in
        let number : r.run.number ≡ s.run.number = cc in
        alone r s here there (inr number)

pub extended_slot : (run : RunNo) (until : ℕ) (s : Run) → (with_until run until s).slot ≡ s.slot
extended_slot run until s = by_test (same_run s.run run)
  where
    by_test : (b : Bool) → (let t : Run = (if b then record s { until = max s.until until } else s) in t.slot) ≡ s.slot
    by_test true = refl
    by_test false = refl

pub extended_run : (run : RunNo) (until : ℕ) (s : Run) → (with_until run until s).run ≡ s.run
extended_run run until s = by_test (same_run s.run run)
  where
    by_test : (b : Bool) → (let t : Run = (if b then record s { until = max s.until until } else s) in t.run) ≡ s.run
    by_test true = refl
    by_test false = refl

-- a new run shares neither its slot nor its number
new_alone : (v : AbstractPool) (new s : Run) → MayStart v new → IsIn s v.runs → Shares new s → new ≡ s
new_alone v new s may there (inl slot) = absurd (may.free s there (sym slot))
new_alone v new s may there (inr number) = absurd (may.new_number s there (sym number))

-- what two runs share, the runs that they come of share
shared_before : (r s a b : Run) → r.slot ≡ a.slot → r.run ≡ a.run → s.slot ≡ b.slot → s.run ≡ b.run → Shares r s → Shares a b
shared_before r s a b r_slot r_run s_slot s_run (inl slot) = inl (sym r_slot ∙ (slot ∙ s_slot))
shared_before r s a b r_slot r_run s_slot s_run (inr number) = inr (ap (λ x. x.number) (sym r_run) ∙ (number ∙ ap (λ x. x.number) s_run))

pub step_alone : (v : AbstractPool) (k : AbstractStep) → Allowed v k → HasOneRunPerSlot v → HasOneRunPerSlot (view_after v k)
step_alone v (Time moment) ok alone r s = alone r s
step_alone v (Queue job core) ok alone r s = alone r s
step_alone v (Acknowledge job) ok alone r s = alone r s
step_alone v (Order job) ok alone r s = alone r s
step_alone v (Grant job run end) ok alone r s = alone r s
step_alone v (Start new marks) ok alone r s = both
  where
    swapped : Shares r new → Shares new r
    swapped (inl e) = inl (sym e)
    swapped (inr e) = inr (sym e)

    both : (r ≡ new) ⊎ IsIn r v.runs → (s ≡ new) ⊎ IsIn s v.runs → Shares r s → r ≡ s
    both (inl a) (inl b) same = a ∙ sym b
    both (inl a) (inr b) same = a ∙ new_alone v new s ok.0 b (subst (λ x. Shares x s) a same)
    both (inr a) (inl b) same = sym (new_alone v new r ok.0 a (swapped (subst (λ x. Shares r x) b same))) ∙ sym b
    both (inr a) (inr b) same = alone r s a b same
step_alone v (Mark marks) ok alone r s = alone r s
step_alone v (Extend run until) ok alone r s = both
  where
    both : IsIn r (map (with_until run.run until) v.runs) → IsIn s (map (with_until run.run until) v.runs) → Shares r s → r ≡ s
    both here there same =
        let a = in_map (with_until run.run until) r v.runs here in
        let b = in_map (with_until run.run until) s v.runs there in
        let shared : Shares a.0 b.0 =
        shared_before r s a.0 b.0 (ap (λ x. x.slot) a.2 ∙ extended_slot run.run until a.0) (ap (λ x. x.run) a.2 ∙ extended_run run.run until a.0) (ap (λ x. x.slot) b.2 ∙ extended_slot run.run until b.0) (ap (λ x. x.run) b.2 ∙ extended_run run.run until b.0) same in
        a.2 ∙ (ap (with_until run.run until) (alone a.0 b.0 a.1 b.1 shared) ∙ sym b.2)
step_alone v (Stop run how) ok alone r s = λ here there same. alone r s (in_filter (λ x. not (same_run x.run run.run)) r v.runs here) (in_filter (λ x. not (same_run x.run run.run)) s v.runs there) same
step_alone v (Free job state) ok alone r s = alone r s
step_alone v (Finish job outcome) ok alone r s = alone r s
step_alone v (Hold job) ok alone r s = alone r s
step_alone v (Release job) ok alone r s = alone r s
step_alone v (Lengthen job end) ok alone r s = alone r s

pub step_slots : (v : AbstractPool) (k : AbstractStep) (slot : SlotId) → (view_after v k).slots slot ≡ v.slots slot
step_slots v (Time moment) slot = refl
step_slots v (Queue job core) slot = refl
step_slots v (Acknowledge job) slot = refl
step_slots v (Order job) slot = refl
step_slots v (Grant job run end) slot = refl
step_slots v (Start new marks) slot = refl
step_slots v (Mark marks) slot = refl
step_slots v (Extend run until) slot = refl
step_slots v (Stop run how) slot = refl
step_slots v (Free job state) slot = refl
step_slots v (Finish job outcome) slot = refl
step_slots v (Hold job) slot = refl
step_slots v (Release job) slot = refl
step_slots v (Lengthen job end) slot = refl

matched_on : (v : AbstractPool) (k : AbstractStep) (r : Run) → Allowed v k → IsMatched v r → IsMatched (view_after v k) r
matched_on v k r ok m = record { match = m.match; slot_ad = step_slots v k r.slot ∙ m.slot_ad; job_ad = step_core v k r.job (core_of r.judged.job) ok m.job_ad }

extended_matched : (v : AbstractPool) (run : RunNo) (until : ℕ) (s : Run) → IsMatched v s → IsMatched v (with_until run until s)
extended_matched v run until s m = by_test (same_run s.run run)
  where
    by_test : (b : Bool) → IsMatched v (if b then record s { until = max s.until until } else s)
    by_test true = record { match = m.match; slot_ad = m.slot_ad; job_ad = m.job_ad }
    by_test false = m

-- each run after a step was there before, or is the started one, and so is matched
old_matched : (v : AbstractPool) (k : AbstractStep) → Allowed v k → ((r : Run) → IsIn r v.runs → IsMatched v r) → (r : Run) → IsIn r (view_after v k).runs → IsMatched v r
old_matched v (Time moment) ok matched r there = matched r there
old_matched v (Queue job core) ok matched r there = matched r there
old_matched v (Acknowledge job) ok matched r there = matched r there
old_matched v (Order job) ok matched r there = matched r there
old_matched v (Grant job run end) ok matched r there = matched r there
old_matched v (Start new marks) ok matched r (inl same) = subst (IsMatched v) (sym same) (record { match = ok.0.match; slot_ad = ok.0.slot_ad; job_ad = ok.0.job_ad })
old_matched v (Start new marks) ok matched r (inr there) = matched r there
old_matched v (Mark marks) ok matched r there = matched r there
old_matched v (Extend run until) ok matched r there =
    let found = in_map (with_until run.run until) r v.runs there in
    subst (IsMatched v) (sym found.2) (extended_matched v run.run until found.0 (matched found.0 found.1))
old_matched v (Stop run how) ok matched r there = matched r (in_filter (λ x. not (same_run x.run run.run)) r v.runs there)
old_matched v (Free job state) ok matched r there = matched r there
old_matched v (Finish job outcome) ok matched r there = matched r there
old_matched v (Hold job) ok matched r there = matched r there
old_matched v (Release job) ok matched r there = matched r there
old_matched v (Lengthen job end) ok matched r there = matched r there

pub some_on : (v : AbstractPool) (k : AbstractStep) (q : JobId) → Allowed v k → IsSome (v.jobs q) → IsSome ((view_after v k).jobs q)
some_on v k q ok there = by_entry (v.jobs q) refl there
  where
    by_entry : (o : Option Entry) → v.jobs q ≡ o → IsSome o → IsSome ((view_after v k).jobs q)
    by_entry None is h = cc
    by_entry (Some e) is h = has_some ((view_after v k).jobs q) (λ f. f.core ≡ e.core) (step_core v k q e.core ok (subst (λ o. IsSomeAnd o (λ f. f.core ≡ e.core)) (sym is) refl))

-- a job that is acknowledged after a step was so before, or is there
acked_there : (v : AbstractPool) (k : AbstractStep) (q : JobId) → Allowed v k → ((j : JobId) → IsIn j v.acked → IsSome (v.jobs j)) → IsIn q (view_after v k).acked → IsSome (v.jobs q)
acked_there v (Time moment) q ok kept there = kept q there
acked_there v (Queue job core) q ok kept there = kept q there
acked_there v (Acknowledge job) q ok kept (inl same) = subst (λ j. IsSome (v.jobs j)) (sym same) ok
acked_there v (Acknowledge job) q ok kept (inr there) = kept q there
acked_there v (Order job) q ok kept there = kept q there
acked_there v (Grant job run end) q ok kept there = kept q there
acked_there v (Start new marks) q ok kept there = kept q there
acked_there v (Mark marks) q ok kept there = kept q there
acked_there v (Extend run until) q ok kept there = kept q there
acked_there v (Stop run how) q ok kept there = kept q there
acked_there v (Free job state) q ok kept there = kept q there
acked_there v (Finish job outcome) q ok kept there = kept q there
acked_there v (Hold job) q ok kept there = kept q there
acked_there v (Release job) q ok kept there = kept q there
acked_there v (Lengthen job end) q ok kept there = kept q there

-- what accounts for a job's state goes on doing so
accounted_on : (v w : AbstractPool) (q : JobId) (s : State) → ((x : EndReport) → IsIn x v.reports → IsIn x w.reports) → (IsIn q v.ordered → IsIn q w.ordered) → IsAccounted v q s → IsAccounted w q s
accounted_on v w q Idle said ordered a = tt
accounted_on v w q Held said ordered a = tt
accounted_on v w q (Under run end) said ordered a = tt
accounted_on v w q Left said ordered a = tt
accounted_on v w q (Done (EndedBy run how)) said ordered a = said (record { run = run; job = q; how = how }) a
accounted_on v w q (Done Removed) said ordered a = ordered a

-- the same jobs, with no less said and ordered
all_on : (v w : AbstractPool) → ((q : JobId) → w.jobs q ≡ v.jobs q) → ((x : EndReport) → IsIn x v.reports → IsIn x w.reports) → ((q : JobId) → IsIn q v.ordered → IsIn q w.ordered) → AreEndingsSaid v → AreEndingsSaid w
all_on v w jobs said ordered all q = subst (λ o. IfSome o (λ e. IsAccounted w q e.state)) (sym (jobs q)) (by_entry (v.jobs q) (all q))
  where
    by_entry : (o : Option Entry) → IfSome o (λ e. IsAccounted v q e.state) → IfSome o (λ e. IsAccounted w q e.state)
    by_entry None a = tt
    by_entry (Some e) a = accounted_on v w q e.state said (ordered q) a

-- one job's new state is accounted for
changed_accounted : (v : AbstractPool) (job : JobId) (f : State → State) → ((s : State) → IsAccounted v job s → IsAccounted v job (f s)) → AreEndingsSaid v → AreEndingsSaid (with_state v job f)
changed_accounted v job f own all q = by_place (entry_at v job f q)
  where
    same_jobs : (o : Option Entry) → IfSome o (λ e. IsAccounted v q e.state) → IfSome o (λ e. IsAccounted (with_state v job f) q e.state)
    same_jobs None a = tt
    same_jobs (Some e) a = accounted_on v (with_state v job f) q e.state (λ x h. h) (λ h. h) a

    own_job : q ≡ job → (o : Option Entry) → IfSome o (λ e. IsAccounted v q e.state) → IfSome (option_map (entry_with_state f) o) (λ e. IsAccounted (with_state v job f) q e.state)
    own_job same None a = tt
    own_job same (Some e) a = accounted_on v (with_state v job f) q (f e.state) (λ x h. h) (λ h. h) (subst (λ j. IsAccounted v j (f e.state)) (sym same) (own e.state (subst (λ j. IsAccounted v j e.state) same a)))

    by_place : EntryAt v job f q → IfSome ((with_state v job f).jobs q) (λ e. IsAccounted (with_state v job f) q e.state)
    by_place (inl at) = subst (λ o. IfSome o (λ e. IsAccounted (with_state v job f) q e.state)) (sym at.1) (own_job at.0 (v.jobs q) (all q))
    by_place (inr at) = subst (λ o. IfSome o (λ e. IsAccounted (with_state v job f) q e.state)) (sym at.1) (same_jobs (v.jobs q) (all q))

queued_accounted : (v : AbstractPool) (job : JobId) (core : Core) → AreEndingsSaid v → AreEndingsSaid (view_after v (Queue job core))
queued_accounted v job core all q = by_test (same_job q job)
  where
    same_jobs : (o : Option Entry) → IfSome o (λ e. IsAccounted v q e.state) → IfSome o (λ e. IsAccounted (view_after v (Queue job core)) q e.state)
    same_jobs None a = tt
    same_jobs (Some e) a = accounted_on v (view_after v (Queue job core)) q e.state (λ x h. h) (λ h. h) a

    by_test : (b : Bool) → IfSome (if b then Some (record { core = core; state = Idle }) else v.jobs q) (λ e. IsAccounted (view_after v (Queue job core)) q e.state)
    by_test true = tt
    by_test false = same_jobs (v.jobs q) (all q)

waiting_accounted : (v : AbstractPool) (job : JobId) (state : State) → IsWaiting state → IsAccounted v job state
waiting_accounted v job state (inl idle) = subst (IsAccounted v job) (sym idle) tt
waiting_accounted v job state (inr held) = subst (IsAccounted v job) (sym held) tt

lengthened_accounted : (v : AbstractPool) (job : JobId) (end : ℕ) (s : State) → IsAccounted v job s → IsAccounted v job (with_lease_end end s)
lengthened_accounted v job end Idle a = tt
lengthened_accounted v job end Held a = tt
lengthened_accounted v job end (Under run old) a = tt
lengthened_accounted v job end Left a = tt
lengthened_accounted v job end (Done outcome) a = a

said_more : (how : Option How) (r : Run) (said : List EndReport) (x : EndReport) → IsIn x said → IsIn x (reports_with how r said)
said_more None r said x there = there
said_more (Some how) r said x there = inr there

pub step_accounted : (v : AbstractPool) (k : AbstractStep) → Allowed v k → AreEndingsSaid v → AreEndingsSaid (view_after v k)
step_accounted v (Time moment) ok all = all_on v (view_after v (Time moment)) (λ q. refl) (λ x h. h) (λ q h. h) all
step_accounted v (Queue job core) ok all = queued_accounted v job core all
step_accounted v (Acknowledge job) ok all = all_on v (view_after v (Acknowledge job)) (λ q. refl) (λ x h. h) (λ q h. h) all
step_accounted v (Order job) ok all = all_on v (view_after v (Order job)) (λ q. refl) (λ x h. h) (λ q h. inr h) all
step_accounted v (Grant job run end) ok all =
    all_on (with_state v job (λ s. Under run end)) (view_after v (Grant job run end)) (λ q. refl) (λ x h. h) (λ q h. h) (changed_accounted v job (λ s. Under run end) (λ s a. tt) all)
step_accounted v (Start new marks) ok all = all_on v (view_after v (Start new marks)) (λ q. refl) (λ x h. h) (λ q h. h) all
step_accounted v (Mark marks) ok all = all_on v (view_after v (Mark marks)) (λ q. refl) (λ x h. h) (λ q h. h) all
step_accounted v (Extend run until) ok all = all_on v (view_after v (Extend run until)) (λ q. refl) (λ x h. h) (λ q h. h) all
step_accounted v (Stop run how) ok all = all_on v (view_after v (Stop run how)) (λ q. refl) (said_more how run v.reports) (λ q h. h) all
step_accounted v (Free job state) ok all = changed_accounted v job (λ s. state) (λ s a. waiting_accounted v job state ok.0) all
step_accounted v (Finish job (EndedBy run how)) ok all = changed_accounted v job (λ s. Done (EndedBy run how)) (λ s a. ok.2) all
step_accounted v (Finish job Removed) ok all = changed_accounted v job (λ s. Done Removed) (λ s a. ok.0) all
step_accounted v (Hold job) ok all = changed_accounted v job (λ s. Held) (λ s a. tt) all
step_accounted v (Release job) ok all = changed_accounted v job (λ s. Idle) (λ s a. tt) all
step_accounted v (Lengthen job end) ok all = changed_accounted v job (with_lease_end end) (lengthened_accounted v job end) all

pub step_safe : (v : AbstractPool) (k : AbstractStep) → Safe v → RunsLeased v → Allowed v k → Safe (view_after v k)
step_safe v k safe leased ok =
    let alone : HasOneRunPerSlot (view_after v k) = step_alone v k ok safe.one_run_per_slot in
    record {
      matched = λ r there. matched_on v k r ok (old_matched v k ok safe.matched r there);
      one_run_per_slot = alone;
      one_lease_per_job = one_lease (view_after v k) alone (step_leased v k safe ok leased);
      acknowledged_kept = λ q there. some_on v k q ok (acked_there v k q ok safe.acknowledged_kept there);
      endings_said = step_accounted v k ok safe.endings_said;
    }

-- a pool of the same view is as safe
same_leased : (v w : AbstractPool) → SameView v w → RunsLeased v → RunsLeased w
same_leased v w same leased r there = by_lease (leased r ((same.runs r).1 there))
  where
    by_lease : IsLeased v r.job r.run r.until → IsLeased w r.job r.run r.until
    by_lease (inl past) = let moment : w.moment ≡ v.moment = same.moment in inl (omega arith)
    by_lease (inr (end, stands, within)) = inr (end, subst (λ o. IsSomeAnd o (λ e. e.state ≡ Under r.run end)) (sym (same.jobs r.job)) stands, within)

same_matched : (v w : AbstractPool) → SameView v w → (r : Run) → IsMatched v r → IsMatched w r
same_matched v w same r m = record {
  match = m.match;
  slot_ad = same.slots r.slot ∙ m.slot_ad;
  job_ad = subst (λ o. IsSomeAnd o (λ e. e.core ≡ core_of r.judged.job)) (sym (same.jobs r.job)) m.job_ad;
}

same_safe : (v w : AbstractPool) → SameView v w → Safe v → Safe w
same_safe v w same safe = record {
  matched = λ r there. same_matched v w same r (safe.matched r ((same.runs r).1 there));
  one_run_per_slot = λ r s here there shared. safe.one_run_per_slot r s ((same.runs r).1 here) ((same.runs s).1 there) shared;
  one_lease_per_job = λ r s here there competes. safe.one_lease_per_job r s ((same.runs r).1 here) ((same.runs s).1 there) (subst (λ n. Competes n r s) same.moment competes);
  acknowledged_kept = λ q there. subst IsSome (sym (same.jobs q)) (safe.acknowledged_kept q ((same.acked q).1 there));
  endings_said = all_on v w same.jobs (λ x. (same.reports x).0) (λ q. (same.ordered q).0) safe.endings_said;
}

pub takes_safe : (v : AbstractPool) (ks : List AbstractStep) (w : AbstractPool) → Takes v ks w → Safe v → RunsLeased v → Safe w × RunsLeased w
takes_safe v [] w takes safe leased = (same_safe v w takes safe, same_leased v w takes leased)
takes_safe v (k ∷ ks) w takes safe leased = takes_safe (view_after v k) ks w takes.1 (step_safe v k safe leased takes.0) (step_leased v k safe takes.0 leased)

-- a job that has left the queue is in no other state
done_other : (v : AbstractPool) (q job : JobId) (outcome : Outcome) (P : State → Type 0) → Stands v q (Done outcome) → IsSomeAnd (v.jobs job) (λ e. P e.state) → (P (Done outcome) → ⊥) → q ≢ job
done_other v q job outcome P stands fact never same = never (at_state (v.jobs job) P (Done outcome) (subst (λ j. Stands v j (Done outcome)) same stands) fact)

waiting_never : (v : AbstractPool) (outcome : Outcome) → IsWaiting (Done outcome) ⊎ IsOver v (Done outcome) → ⊥
waiting_never v outcome (inl (inl waits)) = cc
waiting_never v outcome (inl (inr waits)) = cc
waiting_never v outcome (inr over) = over

-- a job that has left the queue stays so
pub step_done : (v : AbstractPool) (k : AbstractStep) (q : JobId) (outcome : Outcome) → Allowed v k → Stands v q (Done outcome) → Stands (view_after v k) q (Done outcome)
step_done v (Time moment) q outcome ok stands = stands
step_done v (Queue job core) q outcome ok stands = queued_other v job (Some (record { core = core; state = Idle })) (λ e. e.state ≡ Done outcome) q ok stands
step_done v (Acknowledge job) q outcome ok stands = stands
step_done v (Order job) q outcome ok stands = stands
step_done v (Grant job run end) q outcome ok stands = other_state v job (λ s. Under run end) q (Done outcome) (done_other v q job outcome (λ s. s ≡ Idle) stands ok.0 (λ no. cc)) stands
step_done v (Start new marks) q outcome ok stands = stands
step_done v (Mark marks) q outcome ok stands = stands
step_done v (Extend run until) q outcome ok stands = stands
step_done v (Stop run how) q outcome ok stands = stands
step_done v (Free job state) q outcome ok stands = other_state v job (λ s. state) q (Done outcome) (done_other v q job outcome (IsOver v) stands ok.1 (λ no. no)) stands
step_done v (Finish job (EndedBy run how)) q outcome ok stands = other_state v job (λ s. Done (EndedBy run how)) q (Done outcome) (done_other v q job outcome (λ s. s ≡ Under run ok.0.0) stands ok.0.1 (λ no. cc)) stands
step_done v (Finish job Removed) q outcome ok stands = other_state v job (λ s. Done Removed) q (Done outcome) (done_other v q job outcome (λ s. IsWaiting s ⊎ IsOver v s) stands ok.1 (waiting_never v outcome)) stands
step_done v (Hold job) q outcome ok stands = other_state v job (λ s. Held) q (Done outcome) (done_other v q job outcome (λ s. s ≡ Idle) stands ok (λ no. cc)) stands
step_done v (Release job) q outcome ok stands = other_state v job (λ s. Idle) q (Done outcome) (done_other v q job outcome (λ s. s ≡ Held) stands ok (λ no. cc)) stands
step_done v (Lengthen job end) q outcome (run, old, under, longer) stands = other_state v job (with_lease_end end) q (Done outcome) (done_other v q job outcome (λ s. s ≡ Under run old) stands under (λ no. cc)) stands

-- no spent run stops being so
pub step_spent : (v : AbstractPool) (k : AbstractStep) → Allowed v k → KeepsSpent v.marks (view_after v k).marks
step_spent v (Time moment) ok run spent = spent
step_spent v (Queue job core) ok run spent = spent
step_spent v (Acknowledge job) ok run spent = spent
step_spent v (Order job) ok run spent = spent
step_spent v (Grant job n end) ok run spent = spent
step_spent v (Start new marks) ok run spent = ok.2 run spent
step_spent v (Mark marks) ok run spent = ok run spent
step_spent v (Extend r until) ok run spent = spent
step_spent v (Stop r how) ok run spent = spent
step_spent v (Free job state) ok run spent = spent
step_spent v (Finish job outcome) ok run spent = spent
step_spent v (Hold job) ok run spent = spent
step_spent v (Release job) ok run spent = spent
step_spent v (Lengthen job end) ok run spent = spent

-- a run that is there after a step was there before, or is the started one, which the step spends
abbrev ComesOf : AbstractPool → Marks → RunNo → Type 0
ComesOf v marks run = ((s : Run) × IsIn s v.runs × (run ≡ s.run)) ⊎ ((¬ IsSpent v run) × IsSpentBy marks run)

comes_of : (v : AbstractPool) (k : AbstractStep) → Allowed v k → (r : Run) → IsIn r (view_after v k).runs → ComesOf v (view_after v k).marks r.run
comes_of v (Time moment) ok r there = inl (r, there, refl)
comes_of v (Queue job core) ok r there = inl (r, there, refl)
comes_of v (Acknowledge job) ok r there = inl (r, there, refl)
comes_of v (Order job) ok r there = inl (r, there, refl)
comes_of v (Grant job run end) ok r there = inl (r, there, refl)
comes_of v (Start new marks) ok r (inl same) = subst (λ x. ComesOf v marks x.run) (sym same) (inr (ok.0.unspent, ok.1))
comes_of v (Start new marks) ok r (inr there) = inl (r, there, refl)
comes_of v (Mark marks) ok r there = inl (r, there, refl)
comes_of v (Extend run until) ok r there =
    let found = in_map (with_until run.run until) r v.runs there in
    inl (found.0, found.1, ap (λ x. x.run) found.2 ∙ extended_run run.run until found.0)
comes_of v (Stop run how) ok r there = inl (r, in_filter (λ s. not (same_run s.run run.run)) r v.runs there, refl)
comes_of v (Free job state) ok r there = inl (r, there, refl)
comes_of v (Finish job outcome) ok r there = inl (r, there, refl)
comes_of v (Hold job) ok r there = inl (r, there, refl)
comes_of v (Release job) ok r there = inl (r, there, refl)
comes_of v (Lengthen job end) ok r there = inl (r, there, refl)

-- each run that is there is spent
pub step_runs_spent : (v : AbstractPool) (k : AbstractStep) → RunsSpent v → Allowed v k → RunsSpent (view_after v k)
step_runs_spent v k spent ok r there = by_source (comes_of v k ok r there)
  where
    by_source : ComesOf v (view_after v k).marks r.run → IsSpent (view_after v k) r.run
    by_source (inl (s, old, same)) = step_spent v k ok r.run (subst (IsSpent v) (sym same) (spent s old))
    by_source (inr new) = new.1

-- a dead run stays dead
pub step_dead : (v : AbstractPool) (k : AbstractStep) (run : RunNo) → Allowed v k → IsDead v run → IsDead (view_after v k) run
step_dead v k run ok dead = (step_spent v k ok run dead.0, λ r there same. by_source r same (comes_of v k ok r there))
  where
    by_source : (r : Run) → r.run ≡ run → ComesOf v (view_after v k).marks r.run → ⊥
    by_source r same (inl (s, old, its)) = dead.1 s old (sym its ∙ same)
    by_source r same (inr new) = new.0 (subst (IsSpent v) (sym same) dead.0)

-- what was acknowledged stays so
pub step_acked : (v : AbstractPool) (k : AbstractStep) (q : JobId) → IsIn q v.acked → IsIn q (view_after v k).acked
step_acked v (Time moment) q there = there
step_acked v (Queue job core) q there = there
step_acked v (Acknowledge job) q there = inr there
step_acked v (Order job) q there = there
step_acked v (Grant job run end) q there = there
step_acked v (Start new marks) q there = there
step_acked v (Mark marks) q there = there
step_acked v (Extend run until) q there = there
step_acked v (Stop run how) q there = there
step_acked v (Free job state) q there = there
step_acked v (Finish job outcome) q there = there
step_acked v (Hold job) q there = there
step_acked v (Release job) q there = there
step_acked v (Lengthen job end) q there = there
