-- Events and slots that a loop looks at one by one.
use Rattle.std.proofs.Common.{◌≡◌, ◌≢◌, ◌∙◌, ◌+◌, ◌<◌, ℕ, suc, Bool, true, false, true≢false, if◌then◌else◌, List, ◌∷◌, length, drop, drop-cons, get_or, Some, None, refl, sym, ap, subst, arith}
use Rattle.claim_id.specs.declared.numbers.JobId.{JobId}
use Rattle.claim_id.specs.declared.numbers.SlotId.{SlotId}
use Rattle.pool_mail.specs.declared.end.End.{End}
use Rattle.pool_mail.specs.declared.end.End.TheVariants.{Exited, Signalled, NotStarted}
use Rattle.pool_view.specs.Numbers.{same_job, same_slot}
use Rattle.pool_view.proofs.Sameness.{same_slot-true, same_slot-same}
use Rattle.thin_pool.specs.declared.event.Event.{Event}
use Rattle.thin_pool.specs.declared.event.Event.TheVariants.{Ended}
use Rattle.thin_pool.specs.declared.history.Step.{Step}
use Rattle.thin_pool.specs.declared.slot.PoolSlot.{PoolSlot}
use Rattle.thin_pool.specs.PoolValue.{slot_at}
use Rattle.pool_master.specs.Runs.{is_not_started, first_end, end_in, end_after}
use Rattle.pool_master.specs.UserLog.{never_starts, slot_name_at, name_in}

-- ---- the first ending of a job

never_at : (job : JobId) (steps : List Step) (i : ℕ) (s : Step) → i < length steps → s ≡ get_or steps i s → never_starts job steps ≡ never_starts job (drop i steps) → never_starts job steps ≡ is_not_started (first_end (end_in job s.event) (end_after job (drop (suc i) steps)))
never_at job steps i s below is so_far = so_far ∙ ap (never_starts job) (drop-cons steps i s below ∙ ap (λ (x : Step). x ∷ drop (suc i) steps) (sym is))

pub ended_here : (job other : JobId) (end : End) (reading : ℕ) (steps : List Step) (i : ℕ) (s : Step) (same : Bool) → i < length steps → s ≡ get_or steps i s → s.event ≡ Ended other end reading → same ≡ same_job job other → same ≡ true → never_starts job steps ≡ never_starts job (drop i steps) → never_starts job steps ≡ is_not_started (Some end)
ended_here job other end reading steps i s same below is event told here so_far =
    never_at job steps i s below is so_far
    ∙ ap (λ (ev : Event). is_not_started (first_end (end_in job ev) (end_after job (drop (suc i) steps)))) event
    ∙ ap (λ (b : Bool). is_not_started (first_end (if b then Some end else None) (end_after job (drop (suc i) steps)))) (sym told ∙ here)

pub did_start : (end : End) → end ≢ NotStarted → is_not_started (Some end) ≡ false
did_start (Exited code) other = refl
did_start (Signalled signal) other = refl
did_start NotStarted other = absurd (other refl)

-- ---- the slot of a number

turned : (a b : SlotId) → same_slot a b ≡ same_slot b a
turned a b = by (same_slot a b) (same_slot b a) refl refl
  where
    by : (x y : Bool) → same_slot a b ≡ x → same_slot b a ≡ y → x ≡ y
    by true true p q = refl
    by false false p q = refl
    by true false p q = absurd (true≢false (sym (subst (λ (x : SlotId). same_slot x a ≡ true) (same_slot-true a b p) (same_slot-same a)) ∙ q))
    by false true p q = absurd (true≢false (sym (subst (λ (x : SlotId). same_slot x b ≡ true) (same_slot-true b a q) (same_slot-same b)) ∙ p))

name_at : (slots : List PoolSlot) (id : SlotId) (i : ℕ) (s : PoolSlot) (same b : Bool) → i < length slots → s ≡ get_or slots i s → same ≡ same_slot s.slot id → same ≡ b → slot_name_at slots id ≡ slot_name_at (drop i slots) id → slot_name_at slots id ≡ name_in (if b then Some s else slot_at id (drop (suc i) slots))
name_at slots id i s same b below is told so so_far =
    so_far ∙ ap (λ (l : List PoolSlot). slot_name_at l id) (drop-cons slots i s below ∙ ap (λ (x : PoolSlot). x ∷ drop (suc i) slots) (sym is))
    ∙ ap (λ (t : Bool). name_in (if t then Some s else slot_at id (drop (suc i) slots))) (turned id s.slot ∙ sym told ∙ so)

pub named_here : (slots : List PoolSlot) (id : SlotId) (i : ℕ) (s : PoolSlot) (same : Bool) → i < length slots → s ≡ get_or slots i s → same ≡ same_slot s.slot id → same ≡ true → slot_name_at slots id ≡ slot_name_at (drop i slots) id → slot_name_at slots id ≡ s.name
named_here slots id i s same below is told here so_far = name_at slots id i s same true below is told here so_far

pub named_behind : (slots : List PoolSlot) (id : SlotId) (i : ℕ) (s : PoolSlot) (same : Bool) → i < length slots → s ≡ get_or slots i s → same ≡ same_slot s.slot id → same ≡ false → slot_name_at slots id ≡ slot_name_at (drop i slots) id → slot_name_at slots id ≡ slot_name_at (drop (i + 1) slots) id
named_behind slots id i s same below is told other so_far =
    let next : suc i ≡ i + 1 = omega arith in
    name_at slots id i s same false below is told other so_far ∙ ap (λ (n : ℕ). slot_name_at (drop n slots) id) next
