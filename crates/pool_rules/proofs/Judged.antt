-- Whether tests told what they ask, one after another.
use Rattle.std.proofs.Common.{◌≡◌, ◌↔◌, inl, inr, ℕ, ◌+◌, ◌<◌, ◌≤◌, Bool, true, false, not, List, [], ◌∷◌, length, get_or, drop, Option, Some, None, IsSomeAnd, IfSome, IsTrue, refl, sym, ◌∙◌, ap, subst, arith, true≢false}
use Rattle.std.specs.Prelude.{MatchOption, eqb, slice_get}
use Rattle.std.proofs.lemmas.Bool.{eq-eqb, eqb-true}
use Rattle.std.proofs.lemmas.List.{drop_all, drop_more}
use Rattle.ad_eval.specs.Judgement.{Judgement, Mismatch, IsJudgementOf, IsMismatchOf}
use Rattle.ad_tree.specs.Ad.{Attributes}
use Rattle.claim_id.specs.declared.numbers.JobId.{JobId}
use Rattle.claim_id.specs.declared.numbers.SlotId.{SlotId}
use Rattle.pool_mail.specs.Ads.{request_ad}
use Rattle.pool_mail.specs.declared.mail.Mail.{Mail}
use Rattle.pool_mail.specs.declared.matching.Match.{Match}
use Rattle.pool_rules.specs.Judging.{IsFair, IsFairOf, IsLive, IsSomeLive, is_judged_at, is_offered, nothing_given}
use Rattle.pool_shown.specs.Slots.{slot_at}
use Rattle.pool_state.specs.PoolJobs.{is_engaged}
use Rattle.pool_state.specs.declared.state.PoolState.{PoolState}
use Rattle.queue_tx.specs.declared.key.Key.TheVariants.{Proc}
use Rattle.queue_tx.specs.declared.kind.JobKind.TheVariants.{Idle}
use Rattle.queue_tx.specs.Kinds.{kind_of}
use Rattle.queue_tx.specs.Queues.{ad_at}
use Rattle.startd_slot.specs.declared.slot.Slot.{Slot}

-- ---- one test
pub not_so : {P : Type 0} → (P → ⊥) → IsTrue false ↔ P
not_so never = (λ yes. absurd (true≢false (sym yes)), λ p. absurd (never p))

-- of something that has another name
pub of_same : {A : Type 0} {b : Bool} {x y z : A} → x ≡ y → IsTrue b ↔ (x ≡ z) → IsTrue b ↔ (y ≡ z)
of_same {b = b} {z = z} is told = subst (λ t. IsTrue b ↔ (t ≡ z)) is told

pub as_told : {b e : Bool} → b ≡ e → IsTrue b ↔ (e ≡ true)
as_told is = (λ yes. sym is ∙ yes, λ so. is ∙ so)

pub as_denied : {b e : Bool} → b ≡ e → IsTrue (not b) ↔ (e ≡ false)
as_denied {b = b} is = (λ yes. sym is ∙ denied b yes, λ so. ap not (is ∙ so))
  where
    denied : (b : Bool) → not b ≡ true → b ≡ false
    denied true h = sym h
    denied false h = refl

-- ---- two tests, of which the second is made where the first holds
pub first_fails : {P Q : Type 0} {a : Bool} → a ≡ false → IsTrue a ↔ P → IsTrue a ↔ (P × Q)
first_fails is told = (λ yes. absurd (true≢false (sym yes ∙ is)), λ both. told.1 both.0)

pub second_tells : {P Q : Type 0} {a b : Bool} → a ≡ true → IsTrue a ↔ P → IsTrue b ↔ Q → IsTrue b ↔ (P × Q)
second_tells is first second = (λ yes. (first.0 is, second.0 yes), λ both. second.1 both.1)

-- v is what came of both
pub both_fail : {P Q : Type 0} {v a : Bool} → v ≡ a → a ≡ false → IsTrue a ↔ P → IsTrue v ↔ (P × Q)
both_fail came is told = (λ yes. absurd (true≢false (sym yes ∙ came ∙ is)), λ both. came ∙ told.1 both.0)

pub both_tell : {P Q : Type 0} {v a b : Bool} → v ≡ b → a ≡ true → IsTrue a ↔ P → IsTrue b ↔ Q → IsTrue v ↔ (P × Q)
both_tell came is first second = (λ yes. (first.0 is, second.0 (sym came ∙ yes)), λ both. came ∙ second.1 both.1)

-- and then a reading is compared
pub fail_before : {P Q R : Type 0} {v : Bool} → v ≡ false → IsTrue v ↔ (P × Q) → IsTrue v ↔ (P × Q × R)
fail_before is told = (λ yes. absurd (true≢false (sym yes ∙ is)), λ all. told.1 (all.0, all.1))

pub then_reading : {P Q : Type 0} {v : Bool} {m n reading : ℕ} → v ≡ true → IsTrue v ↔ (P × Q) → m ≡ n → IsTrue (eqb m reading) ↔ (P × Q × (n ≡ reading))
then_reading {m = m} {reading = reading} is told same = (
  λ yes. let two = told.0 is in (two.0, two.1, sym same ∙ eqb-true m reading yes),
  λ all. eq-eqb m reading (same ∙ all.2),
)

-- ---- a list of one
pub too_few : {A : Type 0} (list : List A) (x : A) → length list < 1 → IsTrue false ↔ (list ≡ x ∷ [])
too_few list x less = not_so (λ same. let one : length list ≡ 1 = ap length same in omega arith)

pub heads : {A : Type 0} (x y : A) (xs ys : List A) → x ∷ xs ≡ y ∷ ys → x ≡ y
heads x y xs ys h = cc

pub only_one : {A : Type 0} {b : Bool} (list : List A) (x y : A) → 1 ≤ length list → length list < 2 → y ≡ get_or list 0 y → IsTrue b ↔ (y ≡ x) → IsTrue b ↔ (list ≡ x ∷ [])
only_one [] x y some few is told = absurd (omega arith)
only_one (z ∷ []) x y some few is told = (λ yes. ap (λ w. w ∷ []) (sym is ∙ told.0 yes), λ same. told.1 (is ∙ heads z x [] [] same))
only_one (z ∷ w ∷ ws) x y some few is told = absurd (omega arith)

-- ---- what an Option holds
pub none_passes : {A : Type 0} {o : Option A} (P : A → Type 0) → None ≡ o → IsTrue false ↔ IsSomeAnd o P
none_passes P is = subst (λ o. IsTrue false ↔ IsSomeAnd o P) is (not_so (λ h. h))

pub some_passes : {A : Type 0} {o : Option A} {b : Bool} {x : A} (P : A → Type 0) → Some x ≡ o → IsTrue b ↔ P x → IsTrue b ↔ IsSomeAnd o P
some_passes {b = b} P is told = subst (λ o. IsTrue b ↔ IsSomeAnd o P) is told

pub none_given : {A : Type 0} {o : Option A} (P : A → Type 0) → o ≡ None → IsTrue true ↔ IfSome o P
none_given P is = subst (λ o. IsTrue true ↔ IfSome o P) (sym is) (λ h. tt, λ h. refl)

pub some_given : {A : Type 0} {o : Option A} {b : Bool} {x : A} (P : A → Type 0) → o ≡ Some x → IsTrue b ↔ P x → IsTrue b ↔ IfSome o P
some_given {b = b} P is told = subst (λ o. IsTrue b ↔ IfSome o P) (sym is) told

-- ---- what is fair
abbrev pub IsFairAt : Option Slot → Attributes → ℕ → Option Judgement → Option Mismatch → Type 0
IsFairAt o ad reading judged mismatch = MatchOption o (nothing_given judged mismatch ≡ true) (λ sl. IsFair ad sl.ad reading judged mismatch)

pub fair_nowhere : {b : Bool} (o : Option Slot) (ad : Attributes) (reading : ℕ) (judged : Option Judgement) (mismatch : Option Mismatch) → None ≡ o → b ≡ nothing_given judged mismatch → IsTrue b ↔ IsFairAt o ad reading judged mismatch
fair_nowhere {b = b} o ad reading judged mismatch is told = subst (λ p. IsTrue b ↔ IsFairAt p ad reading judged mismatch) is (as_told told)

pub unfair_match : {a : Bool} (o : Option Slot) (ad : Attributes) (reading : ℕ) (judged : Option Judgement) (mismatch : Option Mismatch) (slot : Slot) → Some slot ≡ o → a ≡ false
    → IsTrue a ↔ IfSome judged (IsJudgementOf ad slot.ad reading) → IsTrue a ↔ IsFairAt o ad reading judged mismatch
unfair_match {a = a} o ad reading judged mismatch slot is fails told =
    subst (λ p. IsTrue a ↔ IsFairAt p ad reading judged mismatch) is (λ yes. absurd (true≢false (sym yes ∙ fails)), λ fair. told.1 fair.match_is)

pub fair_match : {a b : Bool} (o : Option Slot) (ad : Attributes) (reading : ℕ) (judged : Option Judgement) (mismatch : Option Mismatch) (slot : Slot) → Some slot ≡ o → a ≡ true
    → IsTrue a ↔ IfSome judged (IsJudgementOf ad slot.ad reading) → IsTrue b ↔ IfSome mismatch (IsMismatchOf (ad ∷ []) (slot.ad ∷ []) reading) → IsTrue b ↔ IsFairAt o ad reading judged mismatch
fair_match {b = b} o ad reading judged mismatch slot is holds first second =
    subst (λ p. IsTrue b ↔ IsFairAt p ad reading judged mismatch) is (λ yes. record { match_is = first.0 holds; none_is = second.0 yes }, λ fair. second.1 fair.none_is)

pub nothing_was_given : (s : PoolState) (m : Mail) (ad : Attributes) (slot : SlotId) (reading : ℕ) (judged : Option Judgement) (mismatch : Option Mismatch)
    → true ≡ is_judged_at (slice_get s.machines slot.machine) m reading → true ≡ nothing_given judged mismatch → IsTrue false ↔ IsFairOf s m ad slot reading judged mismatch
nothing_was_given s m ad slot reading judged mismatch asked nothing = not_so (λ fair. true≢false (nothing ∙ fair.given (sym asked)))

pub fair_as_told : {b : Bool} (s : PoolState) (m : Mail) (ad : Attributes) (slot : SlotId) (reading : ℕ) (judged : Option Judgement) (mismatch : Option Mismatch)
    → (is_judged_at (slice_get s.machines slot.machine) m reading ≡ true → nothing_given judged mismatch ≡ false)
    → IsTrue b ↔ IsFairAt (slot_at slot s.machines) ad reading judged mismatch → IsTrue b ↔ IsFairOf s m ad slot reading judged mismatch
fair_as_told s m ad slot reading judged mismatch given told = (λ yes. record { fair = told.0 yes; given = given }, λ fair. told.1 fair.fair)

-- ---- what is live
abbrev pub IsAskedBy : PoolState → JobId → Attributes → Type 0
IsAskedBy s job ad = IsSomeAnd (ad_at (Proc job) s.queue) (λ own. (kind_of own ≡ Some Idle) × (ad ≡ request_ad own))

abbrev pub IsOfSlot : PoolState → SlotId → Attributes → Type 0
IsOfSlot s slot ad = IsSomeAnd (slot_at slot s.machines) (λ sl. ad ≡ sl.ad)

pub asked_same : {b : Bool} {x y : Attributes} (s : PoolState) (job : JobId) → x ≡ y → IsTrue b ↔ IsAskedBy s job x → IsTrue b ↔ IsAskedBy s job y
asked_same {b = b} s job is told = subst (λ ad. IsTrue b ↔ IsAskedBy s job ad) is told

pub slot_same : {b : Bool} {x y : Attributes} (s : PoolState) (slot : SlotId) → x ≡ y → IsTrue b ↔ IsOfSlot s slot x → IsTrue b ↔ IsOfSlot s slot y
slot_same {b = b} s slot is told = subst (λ ad. IsTrue b ↔ IsOfSlot s slot ad) is told

-- the four that are asked before the reading, the first ones first
abbrev pub IsFreeMatch : PoolState → Match → Judgement → Type 0
IsFreeMatch s m judged = IsAskedBy s m.job judged.job × (is_engaged m.job s ≡ false)

abbrev pub IsOfferedMatch : PoolState → Match → Judgement → Type 0
IsOfferedMatch s m judged = IsFreeMatch s m judged × (is_offered m.claim s ≡ true)

abbrev pub IsPossible : PoolState → Match → Judgement → Type 0
IsPossible s m judged = IsOfferedMatch s m judged × IsOfSlot s m.claim.no.slot judged.slot

pub impossible : {v : Bool} (s : PoolState) (m : Match) (judged : Judgement) (reading : ℕ) → v ≡ false → IsTrue v ↔ IsPossible s m judged → IsTrue v ↔ IsLive s m judged reading
impossible s m judged reading is told = (λ yes. absurd (true≢false (sym yes ∙ is)), λ live. told.1 (((live.idle, live.free), live.offered), live.slot))

pub live_at : {v : Bool} {n : ℕ} (s : PoolState) (m : Match) (judged : Judgement) (reading : ℕ) → v ≡ true → IsTrue v ↔ IsPossible s m judged → n ≡ judged.at → IsTrue (eqb n reading) ↔ IsLive s m judged reading
live_at {n = n} s m judged reading is told same = (
  λ yes. let all = told.0 is in record { idle = all.0.0.0; free = all.0.0.1; offered = all.0.1; slot = all.1; at = sym same ∙ eqb-true n reading yes },
  λ live. eq-eqb n reading (same ∙ live.at),
)

-- ---- one match after another: P says that one of all is live, which is whether one of those that are left is
pub first_live : {P : Type 0} (s : PoolState) (ms : List Match) (i : ℕ) (d : Match) (left : List Judgement) (j : Judgement) (js : List Judgement) (reading : ℕ)
    → P ↔ IsSomeLive s (drop i ms) left reading → i < length ms → left ≡ j ∷ js → IsLive s (get_or ms i d) j reading → IsTrue true ↔ P
first_live s ms i d left j js reading same below first live = (
  λ yes. same.1 (subst (λ l. IsSomeLive s (drop i ms) l reading) (sym first) (subst (λ l. IsSomeLive s l (j ∷ js) reading) (sym (drop_more ms i d below)) (inl live))),
  λ p. refl,
)

first_dead : (s : PoolState) (m : Match) (ms : List Match) (j : Judgement) (js : List Judgement) (reading : ℕ) → (IsLive s m j reading → ⊥) → IsSomeLive s (m ∷ ms) (j ∷ js) reading → IsSomeLive s ms js reading
first_dead s m ms j js reading dead (inl live) = absurd (dead live)
first_dead s m ms j js reading dead (inr later) = later

pub later_live : {P : Type 0} {b : Bool} (s : PoolState) (ms : List Match) (i : ℕ) (d : Match) (left : List Judgement) (j : Judgement) (js : List Judgement) (reading : ℕ)
    → P ↔ IsSomeLive s (drop i ms) left reading → i < length ms → left ≡ j ∷ js → b ≡ false → IsTrue b ↔ IsLive s (get_or ms i d) j reading → P ↔ IsSomeLive s (drop (i + 1) ms) js reading
later_live {P = P} s ms i d left j js reading same below first is told =
    let here : P ↔ IsSomeLive s (get_or ms i d ∷ drop (i + 1) ms) (j ∷ js) reading =
    subst (λ l. P ↔ IsSomeLive s l (j ∷ js) reading) (drop_more ms i d below) (subst (λ l. P ↔ IsSomeLive s (drop i ms) l reading) first same) in
    (λ p. first_dead s (get_or ms i d) (drop (i + 1) ms) j js reading (λ live. true≢false (sym (told.1 live) ∙ is)) (here.0 p), λ later. here.1 (inr later))

pub none_was_live : {P : Type 0} (s : PoolState) (ms : List Match) (i : ℕ) (left : List Judgement) (reading : ℕ) → P ↔ IsSomeLive s (drop i ms) left reading → length ms ≤ i → IsTrue false ↔ P
none_was_live s ms i left reading same over = not_so (λ p. subst (λ l. IsSomeLive s l left reading) (drop_all i ms over) (same.0 p))
