-- Receipts and rolls, and what they know each other by.
use Rattle.std.proofs.Common.{◌≡◌, ℕ, zero, suc, List, [], ◌∷◌, ◌++◌, Option, Some, None, refl, sym, ◌∙◌, ap, subst, slice_get, slice_set}
use Rattle.std.specs.Prelude.{IfSome, map, option_map}
use Rattle.std.proofs.lemmas.Option.{slice_get-map}
use Rattle.queue_tx.specs.Operations.{Operation}
use Rattle.receipt_roll.specs.Values.{ReceiptValue, RollMark, RollValue}
use Rattle.pool_cases.specs.Marks.{AreMarked, IsMarked, mark_of}

-- ---- receipts
pub marked_push : (mark : RollMark) (rs : List (Option (ReceiptValue (List Operation)))) (r : ReceiptValue (List Operation)) → AreMarked mark rs → r.mark ≡ mark → AreMarked mark (rs ++ Some r ∷ [])
marked_push mark [] r are is = (is, tt)
marked_push mark (x ∷ xs) r are is = (are.0, marked_push mark xs r are.1 is)

pub marked_set : (mark : RollMark) (rs : List (Option (ReceiptValue (List Operation)))) (i : ℕ) (r : Option (ReceiptValue (List Operation))) → AreMarked mark rs → IfSome r (IsMarked mark) → AreMarked mark (slice_set rs i r)
marked_set mark [] i r are is = tt
marked_set mark (x ∷ xs) zero r are is = (is, are.1)
marked_set mark (x ∷ xs) (suc i) r are is = (are.0, marked_set mark xs i r are.1 is)

pub marked_at : (mark : RollMark) (rs : List (Option (ReceiptValue (List Operation)))) (i : ℕ) (r : Option (ReceiptValue (List Operation))) → AreMarked mark rs → slice_get rs i ≡ Some r → IfSome r (IsMarked mark)
marked_at mark [] i r are is = let no : None ≡ Some r = is in cc
marked_at mark (x ∷ xs) zero r are is = let same : Some x ≡ Some r = is in subst (λ o. IfSome o (IsMarked mark)) (some_is x r same) are.0
  where
    some_is : (a b : Option (ReceiptValue (List Operation))) → Some a ≡ Some b → a ≡ b
    some_is a b eq = cc
marked_at mark (x ∷ xs) (suc i) r are is = marked_at mark xs i r are.1 is

-- ---- rolls
pub marks_set : {T : Type 0} → (rolls : List (RollValue T)) (i : ℕ) (old new : RollValue T) → slice_get rolls i ≡ Some old → new.mark ≡ old.mark → map mark_of (slice_set rolls i new) ≡ map mark_of rolls
marks_set [] i old new is same = refl
marks_set (x ∷ xs) zero old new is same = ap (λ m. m ∷ map mark_of xs) (same ∙ sym (ap (some_mark new.mark) is))
  where
    some_mark : {T : Type 0} → RollMark → Option (RollValue T) → RollMark
    some_mark d None = d
    some_mark d (Some roll) = roll.mark
marks_set (x ∷ xs) (suc i) old new is same = ap (λ ms. x.mark ∷ ms) (marks_set xs i old new is same)

pub mark_at : {T : Type 0} → (rolls : List (RollValue T)) (i : ℕ) (roll : RollValue T) → slice_get rolls i ≡ Some roll → slice_get (map mark_of rolls) i ≡ Some roll.mark
mark_at rolls i roll is = slice_get-map mark_of rolls i ∙ ap (option_map mark_of) is
