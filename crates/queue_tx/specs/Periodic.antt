-- The jobs whose ad has a periodic expression (HTCondor manual, condor_submit, periodic_hold,
-- periodic_remove, periodic_release).
use Rattle.std.specs.Prelude.{◌≡◌, Bool, true, false, ◌&&◌, ◌||◌, List, Option, Some, None, is_some, MatchOption, if◌then◌else◌}
use Rattle.std.specs.Option.{option_map}
use Rattle.ad_value.specs.declared.names.job.TheConstants.{PERIODIC_HOLD, PERIODIC_REMOVE, PERIODIC_RELEASE}
use Rattle.ad_tree.specs.Ad.{Attributes, lookup}
use Rattle.queue_tx.specs.declared.key.Key.{Key}
use Rattle.queue_tx.specs.declared.key.Key.TheVariants.{Header, Proc}
use Rattle.queue_tx.specs.declared.kept.Here.{Here}
use Rattle.queue_tx.specs.Kept.{has_key, SetsKey}
use Rattle.queue_tx.specs.Kinds.{kind_of}
use Rattle.queue_tx.specs.Queues.{KeyedAds, ad_at}

-- the ad of a job with a periodic expression
abbrev pub has_periodic : Attributes → Bool
has_periodic ad = is_some (kind_of ad)
    && (is_some (lookup PERIODIC_HOLD.now ad)
    || is_some (lookup PERIODIC_REMOVE.now ad)
    || is_some (lookup PERIODIC_RELEASE.now ad))

-- what stands under a key is such a job; the header is no job
abbrev pub is_periodic : Key → Option Attributes → Bool
is_periodic Header ad = false
is_periodic (Proc job) None = false
is_periodic (Proc job) (Some ad) = has_periodic ad

-- a job with a periodic expression stands under a key
abbrev pub IsPeriodic : KeyedAds → Key → Type 0
IsPeriodic q key = is_periodic key (ad_at key q) ≡ true

-- ---- the set of their keys
abbrev pub periodic_key : Key → Attributes → Option Key
periodic_key key ad = if is_periodic key (Some ad) then Some key else None

-- the set has the keys of these jobs
abbrev pub ArePeriodic : List (Key × Here) → KeyedAds → Type 0
ArePeriodic keys q = (key : Key) → has_key key keys ≡ is_periodic key (ad_at key q)

-- the key that goes into the set with an ad under its key
abbrev pub IsReadyPeriodic : Key × Attributes → Option (Key × Here) → Type 0
IsReadyPeriodic ad entry = option_map (λ e. e.0) entry ≡ periodic_key ad.0 ad.1

-- an entry comes into the set, or the key goes out of it
abbrev pub KeepsKey
    : Key → Option (Key × Here) → List (Key × Here) → List (Key × Here) → Type 0
KeepsKey key entry old new = MatchOption entry
    (SetsKey key false old new)
    (λ e. SetsKey e.0 true old new)
