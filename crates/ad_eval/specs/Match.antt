-- When a job and a slot match (Raman, Livny and Solomon, "Matchmaking", 1998): the Requirements of
-- each hold with the other as target.
use Rattle.std.specs.Prelude.{ℕ, ℤ, pos, Bool, false, not, ◌&&◌, List}
use Rattle.std.specs.Ordering.{int_eq}
use Rattle.std.specs.List.{list_any}
use Rattle.ad_value.specs.Content.{Content, truth, integer}
use Rattle.ad_value.specs.Order.{number_of}
use Rattle.ad_value.specs.declared.names.matching.TheConstants.{REQUIREMENTS, RANK}
use Rattle.ad_tree.specs.Ad.{Attributes}
use Rattle.ad_eval.specs.Mean.{attribute_value}

-- TRUE, or an integer that is not 0
abbrev pub holds_as : Content → Bool
holds_as (truth b) = b
holds_as (integer n) = not (int_eq n (pos 0))
holds_as v = false

abbrev pub requirements_hold : Attributes → Attributes → ℕ → Bool
requirements_hold my target now = holds_as (attribute_value my target now REQUIREMENTS.now)

abbrev pub matches : Attributes → Attributes → ℕ → Bool
matches job slot now = requirements_hold job slot now && requirements_hold slot job now

-- an integer itself, a truth value as 1 or 0, anything else as 0
abbrev pub rank_as : Content → ℤ
rank_as (truth b) = number_of b
rank_as (integer n) = n
rank_as v = pos 0

abbrev pub rank_of : Attributes → Attributes → ℕ → ℤ
rank_of my target now = rank_as (attribute_value my target now RANK.now)

-- some job matches some slot
abbrev pub matches_any : List Attributes → Attributes → ℕ → Bool
matches_any slots job now = list_any (λ slot. matches job slot now) slots

abbrev pub any_match : List Attributes → List Attributes → ℕ → Bool
any_match jobs slots now = list_any (λ job. matches_any slots job now) jobs
