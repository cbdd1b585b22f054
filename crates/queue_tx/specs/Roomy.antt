-- A queue whose ads have room for what the pool sets in them.
use Rattle.std.specs.Prelude.{◌≤◌, [], ◌∷◌, IfSome}
use Rattle.ad_tree.specs.Ad.{Attributes, IsAd}
use Rattle.queue_tx.specs.declared.key.Key.{Key}
use Rattle.queue_tx.specs.Queues.{KeyedAds, Changes, ad_at}
use Rattle.queue_tx.specs.Room.{most_own, own_count}

-- an ad that has room for each attribute that the pool sets under its key
pub record HasRoom (key : Key) (ad : Attributes) : Type 0 where
  pub ad_is : IsAd ad
  pub own : own_count key ad ≤ most_own key

-- each ad of a queue has
abbrev pub IsRoomy : KeyedAds → Type 0
IsRoomy q = (key : Key) → IfSome (ad_at key q) (HasRoom key)

-- each ad that changes leave has
abbrev pub LeaveRoom : Changes → Type 0
LeaveRoom [] = Unit {0}
LeaveRoom (c ∷ cs) = IfSome c.1 (HasRoom c.0) × LeaveRoom cs
