-- Whether two ads are equal.
use Rattle.std.specs.Prelude.{◌==◌, ◌&&◌, Bool, true, false, List}
use Rattle.std.specs.Coded.{coded_list}
use base.Stored.{Gv, gnil, gnum, gcons}
use Rattle.ad_tree.specs.TreeCode.{attributes_code}
use Rattle.ad_tree.specs.Ad.{Attributes}

abbrev pub same_code : Gv → Gv → Bool
same_code gnil gnil = true
same_code (gnum m) (gnum n) = m == n
same_code (gcons a b) (gcons c d) = same_code a c && same_code b d
same_code _ _ = false

-- the same names, as spelled, and the same trees, in the same order
abbrev pub same_ad : Attributes → Attributes → Bool
same_ad a b = same_code (attributes_code.code a) (attributes_code.code b)

abbrev pub same_ads : List Attributes → List Attributes → Bool
same_ads xs ys =
    same_code ((coded_list attributes_code).code xs) ((coded_list attributes_code).code ys)
