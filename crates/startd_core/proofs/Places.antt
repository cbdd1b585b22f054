-- Slots by their places: put anew, one more, and looked up.
use Rattle.std.proofs.Common.{◌≡◌, ℕ, zero, suc, ◌+◌, ◌-◌, ◌<◌, ◌≤◌, ◌==◌, nat_lt, nat_le, Bool, true, false, ◌&&◌, ◌⊎◌, inl, inr, List, [], ◌∷◌, ◌++◌, length, Some, None, slice_get, slice_set, true≢false, eq-eqb, refl, sym, ◌∙◌, ap, subst, arith, if◌then◌else◌}
use Rattle.std.proofs.lemmas.List.{length-set}
use Rattle.std.proofs.lemmas.Option.{none-some, slice_get_within}
use Rattle.claim_id.specs.declared.numbers.SlotId.{SlotId}
use Rattle.startd_slot.specs.declared.slot.Slot.{Slot}
use Rattle.startd_core.specs.declared.conclude.Conclusion.{Conclusion}
use Rattle.startd_core.specs.declared.offers.Machine.{Machine}
use Rattle.startd_core.specs.Sound.{IsSlotAt, AreSound}
use Rattle.startd_core.specs.Startds.{StartdValue, place_of, slot_in, slot_of, with_conclusion}

-- what stands at a place of a list of which one place was put anew
pub set_at : (xs : List Slot) (i place : ℕ) (x slot : Slot) → slice_get (slice_set xs i x) place ≡ Some slot
    → ((place ≡ i) × (slot ≡ x)) ⊎ (slice_get xs place ≡ Some slot)
set_at [] i place x slot is = inr is
set_at (y ∷ ys) zero zero x slot is = inl (refl, (let same : Some x ≡ Some slot = is in cc))
set_at (y ∷ ys) zero (suc place) x slot is = inr is
set_at (y ∷ ys) (suc i) zero x slot is = inr is
set_at (y ∷ ys) (suc i) (suc place) x slot is = elim (set_at ys i place x slot is) [
  | inl at ↦ inl (ap suc at.0, at.1)
  | inr old ↦ inr old
]

-- and of a list with one more
pub append_at : (xs : List Slot) (x slot : Slot) (place : ℕ) → slice_get (xs ++ x ∷ []) place ≡ Some slot
    → ((place ≡ length xs) × (slot ≡ x)) ⊎ (slice_get xs place ≡ Some slot)
append_at [] x slot zero is = inl (refl, (let same : Some x ≡ Some slot = is in cc))
append_at [] x slot (suc place) is = cc
append_at (y ∷ ys) x slot zero is = inr is
append_at (y ∷ ys) x slot (suc place) is = elim (append_at ys x slot place is) [
  | inl at ↦ inl (ap suc at.0, at.1)
  | inr old ↦ inr old
]

pub put_sound : (m : Machine) (slots : List Slot) (place : ℕ) (x : Slot) → IsSlotAt m place x → AreSound m slots → AreSound m (slice_set slots place x)
put_sound m slots place x new sound at slot is = elim (set_at slots place at x slot is) [
  | inl here ↦ subst (λ (y : Slot). IsSlotAt m at y) (sym here.1) (subst (λ n. IsSlotAt m n x) (sym here.0) new)
  | inr old ↦ sound at slot old
]

pub append_sound : (m : Machine) (slots : List Slot) (x : Slot) → IsSlotAt m (length slots) x → AreSound m slots → AreSound m (slots ++ x ∷ [])
append_sound m slots x new sound at slot is = elim (append_at slots x slot at is) [
  | inl here ↦ subst (λ (y : Slot). IsSlotAt m at y) (sym here.1) (subst (λ n. IsSlotAt m n x) (sym here.0) new)
  | inr old ↦ sound at slot old
]

-- ---- look-ups
pub set_there : (xs : List Slot) (i : ℕ) (x old : Slot) → slice_get xs i ≡ Some old → slice_get (slice_set xs i x) i ≡ Some x
set_there [] i x old is = absurd (none-some old is)
set_there (y ∷ ys) zero x old is = refl
set_there (y ∷ ys) (suc i) x old is = set_there ys i x old is

-- a test of three parts that are met
met : (a b c : Bool) (n place : ℕ) → a ≡ true → b ≡ true → c ≡ true → n ≡ place → (if a && b && c then Some n else None) ≡ Some place
met true true true n place p q r is = ap (λ x. Some x) is
met true true false n place p q r is = absurd (true≢false (sym r))
met true false c n place p q r is = absurd (true≢false (sym q))
met false b c n place p q r is = absurd (true≢false (sym p))

le_true : (a b : ℕ) → a ≤ b → nat_le a b ≡ true
le_true a b le = grind arith

lt_true : (a : ℕ) → nat_lt 0 (a + 1) ≡ true
lt_true a = grind arith

-- the slot of a place is found by its number
pub slot_there : (v : StartdValue) (place : ℕ) (slot : Slot) → slice_get v.slots place ≡ Some slot → IsSlotAt v.machine place slot → slot_of v slot.id ≡ Some slot
slot_there v place slot at its =
    let within : place < length v.slots = slice_get_within v.slots place slot at in
    let number : place_of v (record { machine = v.machine.number; slot = place + 1 }) ≡ Some place =
    met (v.machine.number == v.machine.number) (nat_lt 0 (place + 1)) (nat_le (place + 1) (length v.slots)) (place + 1 - 1) place
    (eq-eqb v.machine.number v.machine.number refl) (lt_true place) (le_true (place + 1) (length v.slots) (omega (arith, within))) (omega arith) in
    ap (slot_of v) its.numbered ∙ (ap (slot_in v) number ∙ at)

-- a startd in which the slot of a place was put anew finds it there
pub put_there : (v : StartdValue) (place : ℕ) (slot : Slot) (c : Conclusion) (id : SlotId) → slice_get v.slots place ≡ Some slot → place_of v id ≡ Some place
    → slot_of (with_conclusion v place slot c) id ≡ Some (record slot { state = c.state })
put_there v place slot c id at is =
    let x : Slot = record slot { state = c.state } in
    let same : place_of (with_conclusion v place slot c) id ≡ place_of v id =
    ap (λ n. if (id.machine == v.machine.number) && nat_lt 0 id.slot && nat_le id.slot n then Some (id.slot - 1) else None) (length-set v.slots place x) in
    ap (slot_in (with_conclusion v place slot c)) (same ∙ is) ∙ set_there v.slots place x slot at
