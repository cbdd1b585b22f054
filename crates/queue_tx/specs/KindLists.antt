-- The procs of a queue by what they make of their jobs.
use Rattle.std.specs.Prelude.{◌≡◌, Bool, true, false, List, ◌++◌, Option, Some, None}
use Rattle.std.specs.List.{All, filter}
use Rattle.std.specs.List.Sorted.{IsStrictlySortedBy, IsPermutation}
use Rattle.std.specs.Map.{keys_of}
use Rattle.queue_tx.specs.declared.key.Key.{Key}
use Rattle.queue_tx.specs.declared.key.Key.TheVariants.{Header, Proc}
use Rattle.queue_tx.specs.declared.kind.JobKind.{JobKind}
use Rattle.queue_tx.specs.declared.kind.JobKind.TheVariants.{Idle, Held, Under}
use Rattle.queue_tx.specs.Jobs.{kind_at}
use Rattle.queue_tx.specs.Kept.{is_kind}
use Rattle.queue_tx.specs.Keys.{key_cmp}
use Rattle.queue_tx.specs.Queues.{KeyedAds, IsQueue}

abbrev pub is_proc : Key → Bool
is_proc Header = false
is_proc (Proc job) = true

-- the procs, in order of key
abbrev pub procs : KeyedAds → List Key
procs q = filter is_proc (keys_of q)

abbrev pub is_same_kind : Option JobKind → Option JobKind → Bool
is_same_kind None None = true
is_same_kind None (Some kind) = false
is_same_kind (Some kind) other = is_kind kind other

-- those that are jobs of a kind, or no jobs, in order of key
abbrev pub procs_of : Option JobKind → KeyedAds → List Key
procs_of kind q = filter (λ key. is_same_kind kind (kind_at key q)) (procs q)

-- The idle, the held, those under a claim and those that are no jobs are together all procs, each
-- once; each list has what it is to have, in order of key.
pub record ArePartsOf (q : KeyedAds) : Type 0 where
  pub whole : IsPermutation
      (procs_of (Some Idle) q
      ++ (procs_of (Some Held) q ++ (procs_of (Some Under) q ++ procs_of None q)))
      (procs q)
  pub alike : (kind : Option JobKind) → All (λ key. kind_at key q ≡ kind) (procs_of kind q)
  pub ordered : (kind : Option JobKind) → IsStrictlySortedBy key_cmp (procs_of kind q)

abbrev pub KindsPartTheProcs : Type 0
KindsPartTheProcs = (q : KeyedAds) → IsQueue q → ArePartsOf q
