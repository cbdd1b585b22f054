-- The places of the idle jobs, by which those that make the same request are found.
use Rattle.std.specs.Prelude.{◌≡◌, ℕ, Bool, true, false, not, List, Option, Some, None, is_some, IfSome, if◌then◌else◌}
use Rattle.std.specs.Cmp.{IsTotalOrder, then_total, on_total, nat_cmp_total, eq_by_cmp_equiv, partial_equiv_from_equiv, partial_order_from_total, IsEquivalence, IsPartialEquivalence, IsPartialOrder}
use Rattle.std.specs.Ordering.{nat_cmp, on, then_cmp, as_partial_cmp, eq_by_cmp, is_lt, is_gt}
use Rattle.std.specs.declared.cmp.Ordering.{Ordering}
use Rattle.std.specs.declared.ops.Bound.{Bound}
use Rattle.std.specs.declared.ops.Bound.TheVariants.{Included, Excluded, Unbounded}
use denote.Ref.{Bor}
use Rattle.std.specs.Map.{lookup}
use Rattle.std.specs.Option.{option_map}
use Rattle.ad_tree.specs.Ad.{Attributes, AreDistinct}
use Rattle.queue_tx.specs.declared.asked.Asked.{Asked}
use Rattle.queue_tx.specs.declared.kept.Here.{Here}
use Rattle.queue_tx.specs.declared.key.Key.{Key}
use Rattle.queue_tx.specs.declared.key.Key.TheVariants.{Header}
use Rattle.queue_tx.specs.declared.kind.JobKind.TheVariants.{Idle}
use Rattle.queue_tx.specs.Keys.{key_cmp, key_cmp_total}
use Rattle.queue_tx.specs.Jobs.{kind_under}
use Rattle.queue_tx.specs.Kept.{is_kind}
use Rattle.queue_tx.specs.Queues.{KeyedAds, ad_at}
use Rattle.queue_tx.specs.RequestDigests.{request_digest}

-- ---- their order

abbrev pub digest_of : Asked → ℕ
digest_of a = a.digest

abbrev pub job_of : Asked → Key
job_of a = a.key

-- by digest, then by key
abbrev pub asked_cmp : Asked → Asked → Ordering
asked_cmp = then_cmp (on digest_of nat_cmp) (on job_of key_cmp)

abbrev pub same_place : Asked → Asked → Bool
same_place = eq_by_cmp asked_cmp

pub asked_cmp_total : IsTotalOrder asked_cmp
asked_cmp_total = then_total (on_total digest_of nat_cmp_total) (on_total job_of key_cmp_total)

pub same_place_laws : IsEquivalence same_place
same_place_laws = eq_by_cmp_equiv asked_cmp_total

pub same_place_partial : IsPartialEquivalence same_place
same_place_partial = partial_equiv_from_equiv same_place_laws

pub asked_order_laws : IsPartialOrder same_place (as_partial_cmp asked_cmp)
asked_order_laws = partial_order_from_total asked_cmp_total

-- ---- which there are

-- that place among those of a digest
abbrev pub place : ℕ → Key → Asked
place d k = record { digest = d; key = k }

-- the place of what stands under a key, where it is an idle job
abbrev pub place_of : Key → Attributes → Option Asked
place_of key ad =
    if is_kind Idle (kind_under key (Some ad)) then Some (place (request_digest ad) key) else None

-- no two names of an idle job's ad are the same without case
abbrev pub IdleNamesDiffer : Key → Attributes → Type 0
IdleNamesDiffer key ad = is_kind Idle (kind_under key (Some ad)) ≡ true → AreDistinct ad

abbrev pub asked_under : Key → Option Attributes → Option Asked
asked_under key None = None
asked_under key (Some ad) = place_of key ad

abbrev pub is_place : Option Asked → Asked → Bool
is_place None a = false
is_place (Some b) a = same_place b a

abbrev pub has_place : Asked → List (Asked × Here) → Bool
has_place a places = is_some (lookup (same_place a) places)

-- one place is given up, another is taken, and the others are as they were
abbrev pub SetsPlaces
    : Option Asked → Option Asked → List (Asked × Here) → List (Asked × Here) → Type 0
SetsPlaces lost come old new =
    (a : Asked)
    → has_place a new
    ≡ (if is_place come a then true else (if is_place lost a then false else has_place a old))

-- the places are those of the idle jobs
abbrev pub ArePlaces : List (Asked × Here) → KeyedAds → Type 0
ArePlaces places q =
    (a : Asked) → has_place a places ≡ is_place (asked_under a.key (ad_at a.key q)) a

abbrev pub DoIdleNamesDiffer : KeyedAds → Type 0
DoIdleNamesDiffer q = (key : Key) → IfSome (ad_at key q) (λ ad. IdleNamesDiffer key ad)

-- an ad under its key, the key that goes among the jobs of its kind, and its place
abbrev pub IsReady : Key × Attributes → Key → Option (Asked × Here) → Type 0
IsReady ad job asked =
    (job ≡ ad.0)
    × (option_map (λ e. e.0) asked ≡ place_of ad.0 ad.1)
    × IdleNamesDiffer ad.0 ad.1

-- a key has a place among those of a digest
abbrev pub IsListed : ℕ → List (Asked × Here) → Key → Type 0
IsListed digest places key = has_place (place digest key) places ≡ true

-- ---- bounds among the places of a digest

abbrev pub least_from : ℕ → Bound (Bor Key) → Asked
least_from digest (Included key) = place digest key.now
least_from digest (Excluded key) = place digest key.now
least_from digest Unbounded = place digest Header

abbrev pub is_past_from : Bound (Bor Key) → Asked → Asked → Bool
is_past_from (Excluded key) least a = is_lt (asked_cmp least a)
is_past_from (Included key) least a = not (is_gt (asked_cmp least a))
is_past_from Unbounded least a = not (is_gt (asked_cmp least a))

-- ---- in a queue

-- the idle job under a key asks for what has that digest
abbrev pub IsAskedBy : ℕ → KeyedAds → Key → Type 0
IsAskedBy digest q key = asked_under key (ad_at key q) ≡ Some (place digest key)
