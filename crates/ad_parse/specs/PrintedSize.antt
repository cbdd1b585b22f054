-- How many bytes an ad is printed as.
use Rattle.std.specs.Prelude.{ℕ, ◌+◌, List, length, sum_by}
use Rattle.ad_tree.specs.Tree.{Tree}
use Rattle.ad_tree.specs.Ad.{Attributes}
use Rattle.ad_parse.specs.Canon.{canon}

-- the bytes of a name and of a canonical text
abbrev pub attribute_bytes : List ℕ × Tree → ℕ
attribute_bytes a = length a.0 + length (canon a.1)

abbrev pub ad_bytes : Attributes → ℕ
ad_bytes ad = sum_by attribute_bytes ad
