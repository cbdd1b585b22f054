-- What is in a list that was made of another.
use Rattle.std.proofs.Common.{◌≡◌, ◌⊎◌, inl, inr, List, [], ◌∷◌, Option, Some, None, Bool, true, false, refl, sym, ◌∙◌, ap, if◌then◌else◌, IsSome, IsSomeAnd, map, filter}
use Rattle.pool_view.specs.AbstractPool.{IsIn}

pub in_filter : {A : Type 0} (p : A → Bool) (x : A) (xs : List A) → IsIn x (filter p xs) → IsIn x xs
in_filter p x [] there = there
in_filter p x (y ∷ ys) there = by_test (p y) (in_filter p x ys) there
  where
    by_test : (b : Bool) → (IsIn x (filter p ys) → IsIn x ys) → IsIn x (if b then y ∷ filter p ys else filter p ys) → IsIn x (y ∷ ys)
    by_test true rest (inl e) = inl e
    by_test true rest (inr h) = inr (rest h)
    by_test false rest h = inr (rest h)

-- what is in a list after a change of each item was an item before
pub in_map : {A : Type 0} (f : A → A) (x : A) (xs : List A) → IsIn x (map f xs) → (y : A) × IsIn y xs × (x ≡ f y)
in_map f x [] there = absurd there
in_map f x (y ∷ ys) (inl e) = (y, inl refl, e)
in_map f x (y ∷ ys) (inr h) = let found = in_map f x ys h in (found.0, inr found.1, found.2)

-- what is in a filtered list passes
pub passes : {A : Type 0} (p : A → Bool) (x : A) (xs : List A) → IsIn x (filter p xs) → p x ≡ true
passes p x [] there = absurd there
passes p x (y ∷ ys) there = by_test (p y) refl (passes p x ys) there
  where
    by_test : (b : Bool) → p y ≡ b → (IsIn x (filter p ys) → p x ≡ true) → IsIn x (if b then y ∷ filter p ys else filter p ys) → p x ≡ true
    by_test true is rest (inl e) = ap p e ∙ is
    by_test true is rest (inr h) = rest h
    by_test false is rest h = rest h

-- an option that has something is some
pub has_some : {A : Type 0} (o : Option A) (P : A → Type 0) → IsSomeAnd o P → IsSome o
has_some None P h = absurd h
has_some (Some e) P h = refl

-- what passes is in the filtered list
pub passing_in : {A : Type 0} (p : A → Bool) (x : A) (xs : List A) → IsIn x xs → p x ≡ true → IsIn x (filter p xs)
passing_in p x [] there pass = absurd there
passing_in p x (y ∷ ys) there pass = by_test (p y) refl there (λ h. passing_in p x ys h pass)
  where
    by_test : (b : Bool) → p y ≡ b → (x ≡ y) ⊎ IsIn x ys → (IsIn x ys → IsIn x (filter p ys)) → IsIn x (if b then y ∷ filter p ys else filter p ys)
    by_test true is (inl e) rest = inl e
    by_test true is (inr h) rest = inr (rest h)
    by_test false is (inl e) rest = let no : true ≡ false = sym pass ∙ (ap p e ∙ is) in cc
    by_test false is (inr h) rest = rest h

-- what an item becomes is in the changed list
pub map_in : {A B : Type 0} (f : A → B) (x : A) (xs : List A) → IsIn x xs → IsIn (f x) (map f xs)
map_in f x [] there = absurd there
map_in f x (y ∷ ys) (inl e) = inl (ap f e)
map_in f x (y ∷ ys) (inr h) = inr (map_in f x ys h)
