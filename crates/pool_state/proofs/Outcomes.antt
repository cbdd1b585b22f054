-- What is told of a result or of one that may be there, one step on; and copies, one item more.
use Rattle.std.proofs.Common.{◌≡◌, Bool, true, true≢false, List, [], ◌∷◌, ◌++◌, map, Option, Some, None, IfSome, is_some, Result, Ok, ap, sym, ◌∙◌}
use Rattle.std.specs.Borrow.{Bor}
use Rattle.std.specs.Iterator.{Yields}
use Rattle.std.specs.Map.Iter.{TakesFirst}
use Rattle.std.proofs.lemmas.Iterator.Consumers.{YieldsList-end, YieldsList-from_rest}
use Rattle.std.proofs.lemmas.List.{map-append}

-- what holds of the one, where something else holds too
pub also : {A Q : Type 0} (P : A → Type 0) (o : Option A) → Q → IfSome o P → IfSome o (λ x. Q × P x)
also P None q p = tt
also P (Some x) q p = (q, p)

-- where there is one, it is as each is
pub there_is : {A : Type 0} (P : A → Type 0) (o : Option A) (b : Bool) → b ≡ is_some o → IfSome o P → b ≡ true → (x : A) × P x
there_is P None b told all there = absurd (true≢false (sym there ∙ told))
there_is P (Some x) b told all there = (x, all)

-- two values of one result
pub ok_same : {T E : Type 0} (r : Result T E) (x y : T) → r ≡ Ok x → r ≡ Ok y → x ≡ y
ok_same r x y one other = cc

-- ---- copies
-- one item more
pub copied_more : {A B : Type 0} (f : A → B) (passed : List A) (done new : List B) (x : A) → done ≡ map f passed → new ≡ done ++ f x ∷ [] → new ≡ map f (passed ++ x ∷ [])
copied_more f passed done new x so_far put =
    put ∙ ap (λ l. l ++ f x ∷ []) so_far ∙ sym (map-append f passed (x ∷ []))

-- all items of a list
pub copied_all : {A : Type 0} (list copied start left after : List A) (passed : List (Bor A)) (r : Option (Bor A)) → start ≡ list → copied ≡ map (λ y. y.now) passed
    → Yields (TakesFirst (λ (y : Bor A). y.now)) start passed left → r ≡ None → TakesFirst (λ (y : Bor A). y.now) left r after → copied ≡ list
copied_all list copied start left after passed r given so_far yielded none last =
    so_far ∙ (YieldsList-end (YieldsList-from_rest list given) passed left yielded r after none last).0
