-- The steps of a run of the pool in its history.
use Rattle.std.proofs.Common.{◌≡◌, ◌∙◌, ℕ, suc, ◌<◌, List, [], ◌∷◌, ◌++◌, Some, None, IsSome, Bool, true, false, true≢false, if◌then◌else◌, refl, sym, ap, subst, arith}
use Rattle.std.proofs.lemmas.List.{append-nil}
use Rattle.std.specs.List.{filter_map}
use Rattle.ad_tree.specs.Ad.{Attributes}
use Rattle.ad_eval.specs.Judgement.{Judgement, Mismatch}
use Rattle.pool_outer.specs.declared.spawner.Launch.{Launch}
use Rattle.claim_id.specs.declared.numbers.JobId.{JobId}
use Rattle.claim_id.specs.declared.numbers.SlotId.{SlotId}
use Rattle.pool_mail.specs.declared.end.End.{End}
use Rattle.pool_view.specs.Numbers.{same_slot}
use Rattle.pool_view.proofs.Sameness.{same_slot-true}
use Rattle.thin_pool.specs.declared.history.Step.{Step}
use Rattle.thin_pool.specs.declared.slot.PoolSlot.{PoolSlot}
use Rattle.thin_pool.specs.Histories.{submissions_in, submission_in}
use Rattle.thin_pool.specs.PoolValue.{slot_at}
use Rattle.pool_input.specs.Input.{ArePlaced}
use Rattle.pool_input.specs.Readings.{AreRead, IsInCalendar}
use Rattle.pool_input.proofs.Reading.{read_more}
use Rattle.pool_master.specs.Runs.{HaveEnded, runs_in}
use Rattle.pool_master.proofs.RunLists.{submits-more, start_step, end_step, close_step, run_with, start_runs, end_runs, close_runs}

no_submit : (list : List Step) (s : Step) → filter_map (λ (x : Step). submission_in x.event) (s ∷ []) ≡ [] → submissions_in (list ++ s ∷ []) ≡ submissions_in list
no_submit list s none = submits-more list s ∙ (ap (λ (l : List (List Attributes × ℕ)). submissions_in list ++ l) none ∙ append-nil _)

pub start_submits : (job : JobId) (slot : SlotId) (judged : Judgement) (reading : ℕ) (what : Launch) (old new : List Step) → new ≡ old ++ start_step job slot judged reading what ∷ [] → submissions_in new ≡ submissions_in old
start_submits job slot judged reading what old new is = rw is (no_submit old (start_step job slot judged reading what) refl)

pub end_submits : (job : JobId) (end : End) (reading : ℕ) (old new : List Step) → new ≡ old ++ end_step job end reading ∷ [] → submissions_in new ≡ submissions_in old
end_submits job end reading old new is = rw is (no_submit old (end_step job end reading) refl)

pub close_submits : (reading : ℕ) (none : Mismatch) (old new : List Step) → new ≡ old ++ close_step reading none ∷ [] → submissions_in new ≡ submissions_in old
close_submits reading none old new is = rw is (no_submit old (close_step reading none) refl)

-- ---- readings

pub start_read : (allows : ℕ → Type 0) (job : JobId) (slot : SlotId) (judged : Judgement) (reading : ℕ) (what : Launch) (old new : List Step) → new ≡ old ++ start_step job slot judged reading what ∷ [] → allows reading → IsInCalendar reading → AreRead allows old → AreRead allows new
start_read allows job slot judged reading what old new is allowed in_range read = rw is (read_more allows old (start_step job slot judged reading what) read allowed in_range)

pub end_read : (allows : ℕ → Type 0) (job : JobId) (end : End) (reading : ℕ) (old new : List Step) → new ≡ old ++ end_step job end reading ∷ [] → allows reading → IsInCalendar reading → AreRead allows old → AreRead allows new
end_read allows job end reading old new is allowed in_range read = rw is (read_more allows old (end_step job end reading) read allowed in_range)

pub close_read : (allows : ℕ → Type 0) (reading : ℕ) (none : Mismatch) (old new : List Step) → new ≡ old ++ close_step reading none ∷ [] → allows reading → IsInCalendar reading → AreRead allows old → AreRead allows new
close_read allows reading none old new is allowed in_range read = rw is (read_more allows old (close_step reading none) read allowed in_range)

-- ---- runs

pub started : (job : JobId) (slot : SlotId) (judged : Judgement) (reading : ℕ) (what : Launch) (old new : List Step) → new ≡ old ++ start_step job slot judged reading what ∷ [] → HaveEnded (runs_in old) → runs_in new ≡ runs_in old ++ run_with job slot what None ∷ []
started job slot judged reading what old new is ended = ap runs_in is ∙ start_runs old job slot judged reading what ended

pub has_run : (job : JobId) (slot : SlotId) (judged : Judgement) (reading : ℕ) (what : Launch) (end : End) (late : ℕ) (old mid new : List Step) → mid ≡ old ++ start_step job slot judged reading what ∷ [] → new ≡ mid ++ end_step job end late ∷ [] → HaveEnded (runs_in old) → runs_in new ≡ runs_in old ++ run_with job slot what (Some end) ∷ []
has_run job slot judged reading what end late old mid new first second ended =
    ap runs_in (second ∙ ap (λ (l : List Step). l ++ end_step job end late ∷ []) first) ∙ end_runs old job slot judged reading what end late ended

pub closed_runs : (reading : ℕ) (none : Mismatch) (old new : List Step) → new ≡ old ++ close_step reading none ∷ [] → HaveEnded (runs_in old) → runs_in new ≡ runs_in old
closed_runs reading none old new is ended = ap runs_in is ∙ close_runs old reading none ended

-- ---- slots

-- the machine of a slot that is there is one of so many
pub machine_below : (slots : List PoolSlot) (machines : ℕ) (slot : SlotId) → ArePlaced slots machines → IsSome (slot_at slot slots) → slot.machine < machines
machine_below [] machines slot placed there = absurd (true≢false (sym there))
machine_below (s ∷ ss) machines slot placed there = by (same_slot slot s.slot) refl there (λ t. machine_below ss machines slot (λ k d below. placed (suc k) d (omega arith)) t)
  where
    first : s.slot.machine < machines
    first = placed 0 s (omega arith)

    by : (b : Bool) → same_slot slot s.slot ≡ b → IsSome (if b then Some s else slot_at slot ss) → (IsSome (slot_at slot ss) → slot.machine < machines) → slot.machine < machines
    by true is there more = subst (λ (q : SlotId). q.machine < machines) (sym (same_slot-true slot s.slot is)) first
    by false is there more = more there
