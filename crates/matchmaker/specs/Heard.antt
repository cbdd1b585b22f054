-- What was heard of slots: the last ad of each name, as long as it is fresh.
use Rattle.std.specs.Prelude.{◌≡◌, ℕ, true, Bool, not, List, [], ◌∷◌, ◌++◌, filter}
use Rattle.std.specs.List.{AllByRecursion}
use Rattle.claim_id.specs.declared.numbers.SlotId.{SlotId}
use Rattle.matchmaker.specs.declared.kept.KeptAd.{KeptAd}
use Rattle.matchmaker.specs.Kept.{has_name, is_of, is_fresh, with_ad, without_slot}

-- what a collector was told, with the readings
pub data Told : Type 0 where
  updated : KeptAd → Told
  forgotten : SlotId → Told
  expired : ℕ → Told

-- what a collector without ads keeps, once it was told all that
abbrev pub kept_once : ℕ → List KeptAd → Told → List KeptAd
kept_once lifetime ks (updated one) = with_ad one ks
kept_once lifetime ks (forgotten slot) = without_slot slot ks
kept_once lifetime ks (expired now) = filter (is_fresh lifetime now) ks

abbrev pub kept_after : ℕ → List KeptAd → List Told → List KeptAd
kept_after lifetime ks [] = ks
kept_after lifetime ks (t ∷ ts) = kept_after lifetime (kept_once lifetime ks t) ts

-- an ad outlives what is told later: no ad of its name, not that its slot is forgotten, and no
-- moment at which it is too old
abbrev pub outlives : ℕ → KeptAd → Told → Bool
outlives lifetime k (updated one) = not (has_name one.ad.name k)
outlives lifetime k (forgotten slot) = not (is_of slot k)
outlives lifetime k (expired now) = is_fresh lifetime now k

-- the ad was told, and outlives all that was told since
pub record IsHeard (lifetime : ℕ) (told : List Told) (k : KeptAd) : Type 0 where
  pub before : List Told
  pub since : List Told
  pub is : told ≡ before ++ updated k ∷ since
  pub stands : AllByRecursion (λ t. outlives lifetime k t ≡ true) since
