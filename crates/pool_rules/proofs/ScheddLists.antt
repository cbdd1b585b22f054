-- Members of lists that are sets.
use Rattle.std.proofs.Common.{◌⊎◌, inl, inr, List, [], ◌∷◌, ◌++◌, map, ap}
use Rattle.pool_view.specs.AbstractPool.{IsIn, SameMembers}
use Rattle.pool_rules.proofs.Kept.{in_both, in_first, in_second}

pub same_members : {A : Type 0} (xs : List A) → SameMembers xs xs
same_members xs x = (λ there. there, λ there. there)

pub swapped : {A : Type 0} (xs ys : List A) → SameMembers (xs ++ ys) (ys ++ xs)
swapped {A} xs ys x = (λ there. to xs ys (in_both x xs ys there), λ there. to ys xs (in_both x ys xs there))
  where
    to : (us vs : List A) → IsIn x us ⊎ IsIn x vs → IsIn x (vs ++ us)
    to us vs (inl h) = in_second x vs us h
    to us vs (inr h) = in_first x vs us h

pub in_map : {A B : Type 0} (f : A → B) (x : A) (xs : List A) → IsIn x xs → IsIn (f x) (map f xs)
in_map f x [] there = absurd there
in_map f x (y ∷ ys) (inl same) = inl (ap f same)
in_map f x (y ∷ ys) (inr there) = inr (in_map f x ys there)
