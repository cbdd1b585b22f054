-- What the ads under some keys count, and the keys under which a transaction changes ads.
use Rattle.std.specs.Prelude.{◌≡◌, ℕ, ◌+◌, Bool, true, false, List, [], ◌∷◌, if◌then◌else◌}
use Rattle.pool_parts.specs.Sizes.{count_under}
use Rattle.queue_tx.specs.declared.key.Key.{Key}
use Rattle.queue_tx.specs.Keys.{same_key}
use Rattle.queue_tx.specs.Operations.{Operation, key_of}
use Rattle.queue_tx.specs.Queues.{IsQueue, KeyedAds, ad_at}
use Rattle.pool_parts.specs.declared.growth.Growth.{Growth}

abbrev pub is_among : Key → List Key → Bool
is_among key [] = false
is_among key (k ∷ ks) = if same_key key k then true else is_among key ks

-- no key stands twice
abbrev pub AreDistinct : List Key → Type 0
AreDistinct [] = Unit {0}
AreDistinct (k ∷ ks) = (is_among k ks ≡ false) × AreDistinct ks

-- an operation is done to what stands under the key
abbrev pub is_touched : Key → List Operation → Bool
is_touched key [] = false
is_touched key (o ∷ os) = if same_key key (key_of o) then true else is_touched key os

-- what the ads under keys count
abbrev pub keys_count : List Key → KeyedAds → ℕ
keys_count [] q = 0
keys_count (k ∷ ks) q = count_under (ad_at k q) + keys_count ks q

-- A queue that becomes another differs from it under some keys alone, each of them once, and the
-- ads that it has under them count so much.
pub record Grows (g : Growth) (old new : KeyedAds) : Type 0 where
  pub distinct : AreDistinct g.keys.items
  pub others : (key : Key) → is_among key g.keys.items ≡ false → ad_at key new ≡ ad_at key old
  pub less : g.less ≡ keys_count g.keys.items old
  pub is_queue : IsQueue old
