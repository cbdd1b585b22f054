-- What a copy of a list is so far, and at its end.
use Rattle.std.proofs.Common.{◌≡◌, List, [], ◌∷◌, ◌++◌, map, Option, None, ap, sym, ◌∙◌}
use Rattle.std.specs.Borrow.{Bor}
use Rattle.std.specs.Iterator.{Yields}
use Rattle.std.specs.Map.Iter.{TakesFirst}
use Rattle.std.proofs.lemmas.Iterator.Consumers.{YieldsList-end, YieldsList-from_rest}
use Rattle.std.proofs.lemmas.List.{map-append}

-- one item more
pub copied_more : {A B : Type 0} (f : A → B) (passed : List A) (done new : List B) (x : A) (y : B) → done ≡ map f passed → y ≡ f x → new ≡ done ++ y ∷ [] → new ≡ map f (passed ++ x ∷ [])
copied_more f passed done new x y so_far same put =
    put ∙ ap (λ y. done ++ y ∷ []) same ∙ ap (λ l. l ++ f x ∷ []) so_far ∙ sym (map-append f passed (x ∷ []))

-- all items of a list
pub copied_all : {A : Type 0} (list copied start left after : List A) (passed : List (Bor A)) (r : Option (Bor A)) → start ≡ list → copied ≡ map (λ y. y.now) passed
    → Yields (TakesFirst (λ (y : Bor A). y.now)) start passed left → r ≡ None → TakesFirst (λ (y : Bor A). y.now) left r after → copied ≡ list
copied_all list copied start left after passed r given so_far yielded none last =
    so_far ∙ (YieldsList-end (YieldsList-from_rest list given) passed left yielded r after none last).0
