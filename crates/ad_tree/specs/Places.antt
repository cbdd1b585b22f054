-- An ad over a table that copies of it share: the attributes at the ad's own places.
use Rattle.std.specs.Prelude.{◌≡◌, ℕ, ◌<◌, ◌≤◌, List, [], ◌∷◌, map, length, get_or}
use Rattle.std.specs.List.{range_with_len}
use Rattle.ad_tree.specs.Tree.{Tree, items, no_trees}
use Rattle.ad_tree.specs.Ad.{Attributes, AreDistinct, IsAd}

-- the attribute at a place of a table, and any past its end
abbrev pub attribute_at : Attributes → ℕ → List ℕ × Tree
attribute_at t k = get_or t k ([], items no_trees)

abbrev pub attributes_at : Attributes → List ℕ → Attributes
attributes_at t ks = map (attribute_at t) ks

abbrev pub AreBelow : ℕ → List ℕ → Type 0
AreBelow n [] = Unit {0}
AreBelow n (k ∷ ks) = (k < n) × AreBelow n ks

-- the places are all that the table has, in order
abbrev pub AreAll : Attributes → List ℕ → Type 0
AreAll t ks = ks ≡ range_with_len 0 (length t)

-- each place is one of the table, and where they are as many as it has, they are all of them
abbrev pub ArePlaces : Attributes → List ℕ → Type 0
ArePlaces t ks =
    AreBelow (length t) ks × (length ks ≤ length t) × (length ks ≡ length t → AreAll t ks)

-- what stands at places of a table is an ad, as the whole table is
abbrev pub IsAdOver : Attributes → List ℕ → Type 0
IsAdOver t ks = ArePlaces t ks × IsAd t × AreDistinct (attributes_at t ks)
