-- What is looked up is no larger than the largest of its ad.
use Rattle.std.proofs.Common.{◌≡◌, ◌≤◌, ℕ, zero, suc, List, [], ◌∷◌, Option, Some, None, refl, subst, arith}
use Rattle.std.specs.Prelude.{slice_get}
use Rattle.ad_tree.specs.Tree.{Tree}
use Rattle.ad_tree.specs.Ad.{Attributes}
use Rattle.std.specs.Option.{IfSome}
use Rattle.std.proofs.Math.Nat.{le-max_left, le-max_right}
use Rattle.ad_eval.specs.Mean.{at_place, placed_attribute}
use Rattle.ad_eval.specs.Size.{tree_size, largest_tree}

some_is : {A : Type 0} {a b : A} → Some a ≡ Some b → a ≡ b
some_is e = cc

pub found_no_larger : (ad : Attributes) (i : ℕ) (a : List ℕ × Tree) → slice_get ad i ≡ Some a → tree_size a.1 ≤ largest_tree ad
found_no_larger [] i a e = let n : None ≡ Some a = e in cc
found_no_larger (b ∷ ad) zero a e = let same : b ≡ a = some_is e in subst (λ c. tree_size c.1 ≤ largest_tree (b ∷ ad)) same (le-max_left (tree_size b.1) (largest_tree ad))
found_no_larger (b ∷ ad) (suc i) a e = omega (arith, found_no_larger ad i a e, le-max_right (tree_size b.1) (largest_tree ad))

pub place_no_larger : (ad : Attributes) (o : Option ℕ) → IfSome (at_place ad o) (λ x. tree_size x.1 ≤ largest_tree ad)
place_no_larger ad None = tt
place_no_larger ad (Some i) = by (slice_get ad i) refl
  where
    by : (o : Option (List ℕ × Tree)) → slice_get ad i ≡ o → IfSome (placed_attribute i o) (λ x. tree_size x.1 ≤ largest_tree ad)
    by None e = tt
    by (Some a) e = found_no_larger ad i a e
