-- The ad of a job, attribute by attribute.
use Rattle.std.specs.Prelude.{ℕ, nat_le, List, slice_get, Option, Some, None, if◌then◌else◌}
use Rattle.std.specs.Option.{option_map_or}
use Rattle.ad_tree.specs.Tree.{Tree}
use Rattle.ad_tree.specs.Ad.{Attributes, with_attribute}
use Rattle.ad_parse.specs.AdText.{is_full_for}
use Rattle.ad_rows.specs.declared.TheConstants.{MAX_OWN_ATTRIBUTES}
use Rattle.ad_rows.specs.Submitted.{is_own, own_attributes}

-- 1 where the attribute at a place is a job's own, else 0
abbrev pub own_at : Attributes → ℕ → ℕ
own_at ad place = option_map_or (λ a. if is_own a then 1 else 0) (slice_get ad place) 0

-- one attribute more, while there is room
abbrev pub added : List ℕ → Tree → Option Attributes → Option Attributes
added x e None = None
added x e (Some ad) = if is_full_for x ad then None else Some (with_attribute x e ad)

-- the ad of them all
abbrev pub finished : Option Attributes → Option Attributes
finished None = None
finished (Some ad) = if nat_le (own_attributes ad) MAX_OWN_ATTRIBUTES then Some ad else None
