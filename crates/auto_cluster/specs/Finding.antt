-- Where significant parts stand, by a digest that equal parts have in common.
use Rattle.std.specs.Prelude.{◌≡◌, ℕ, ◌%◌, ◌^◌, List, [], Some, Vec, nat_eq, sum_by, slice_get, Contains}
use Rattle.std.specs.Option.{option_map_or}
use Rattle.std.specs.HashMap.{HashMap, get}
use Rattle.ad_tree.specs.Tree.{Tree}
use Rattle.ad_tree.specs.Ad.{Attributes}
use Rattle.ad_rows.specs.Digests.{attribute_digest}

abbrev pub digest_in : List ℕ × Tree → ℕ
digest_in a = attribute_digest a.0 a.1

-- a number of 64 bits, which adds up those of the attributes
abbrev pub part_digest : Attributes → ℕ
part_digest part = sum_by digest_in part % 2 ^ 64

abbrev pub places_under : {A S : Type 0} → HashMap ℕ (Vec ℕ A) S → ℕ → List ℕ
places_under places digest = option_map_or (λ v. v.items) (get nat_eq places digest) []

-- each part's place stands under its digest
abbrev pub AreFoundBy : {A S : Type 0} → HashMap ℕ (Vec ℕ A) S → List Attributes → Type 0
AreFoundBy places parts = (i : ℕ) (part : Attributes) → slice_get parts i ≡ Some part
    → Contains (places_under places (part_digest part)) i
