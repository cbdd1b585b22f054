-- What a pool knows of ads and of matches.
use Rattle.std.specs.Prelude.{◌≡◌, true, not, filter}
use Rattle.std.specs.List.{list_any}
use Rattle.ad_value.specs.Groups.{pool_names}
use Rattle.ad_tree.specs.Ad.{Attributes}
use Rattle.ad_value.specs.Names.{same_name}
use Rattle.ad_eval.specs.Judgement.{Judgement}
use Rattle.ad_eval.specs.Match.{matches}

-- the part of a job's ad that nothing changes
abbrev pub Core : Type 0
Core = Attributes

-- a job's ad without what the pool itself writes there
abbrev pub core_of : Attributes → Core
core_of ad = filter (λ a. not (list_any (same_name a.0) pool_names)) ad

-- the two ads match: each meets the requirements of the other (Raman, Livny and Solomon,
-- Matchmaking, 1998)
abbrev pub IsMatch : Judgement → Type 0
IsMatch judged = matches judged.job judged.slot judged.at ≡ true
