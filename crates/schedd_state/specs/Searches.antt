-- Jobs of the queue that the schedd looks for.
use Rattle.std.specs.Prelude.{◌≡◌, Bool, true, false, List, [], ◌∷◌, Option, Some, None, option_map}
use Rattle.std.specs.Ordering.{is_gt}
use Rattle.ad_tree.specs.Ad.{Attributes}
use Rattle.claim_id.specs.declared.numbers.JobId.{JobId}
use Rattle.queue_tx.specs.declared.key.Key.{Key}
use Rattle.queue_tx.specs.declared.key.Key.TheVariants.{Header, Proc}
use Rattle.queue_tx.specs.declared.kind.JobKind.TheVariants as kind
use Rattle.queue_tx.specs.Jobs.{IsJobOf}
use Rattle.queue_tx.specs.Keys.{key_cmp, is_above}
use Rattle.queue_tx.specs.Queues.{KeyedAds}
use Rattle.queue_tx.specs.Requests.{IsIdleAsking}
use Rattle.schedd_plan.specs.declared.claims.KeptClaim.{KeptClaim}
use Rattle.schedd_plan.specs.KeptClaims.{engages}

abbrev pub is_engaged_key : List KeptClaim → Key → Bool
is_engaged_key claims Header = false
is_engaged_key claims (Proc job) = engages job claims

-- an idle job that makes the same request, and that no claim engages
abbrev pub IsFree : List KeptClaim → Attributes → KeyedAds → Key → Type 0
IsFree claims ad q key = IsIdleAsking ad q key × (is_engaged_key claims key ≡ false)

-- ---- the jobs that are under a claim
-- a key of a job after another one, or of any job
abbrev pub is_later : Option JobId → Key → Bool
is_later last key = is_above (option_map Proc last) key

-- the first that is later
pub record IsNextUnder (q : KeyedAds) (last : Option JobId) (job : JobId) : Type 0 where
  pub under : IsJobOf kind.Under q (Proc job)
  pub later : is_later last (Proc job) ≡ true
  pub first : (other : Key) → IsJobOf kind.Under q other → is_later last other ≡ true
      → is_gt (key_cmp (Proc job) other) ≡ false

abbrev pub NoneUnder : KeyedAds → Option JobId → Type 0
NoneUnder q last = (key : Key) → IsJobOf kind.Under q key → is_later last key ≡ false

abbrev pub NextUnder : KeyedAds → Option JobId → Option JobId → Type 0
NextUnder q last None = NoneUnder q last
NextUnder q last (Some job) = IsNextUnder q last job

-- all that are later, in order: each is the first after the one before
abbrev pub AreUnder : KeyedAds → Option JobId → List JobId → Type 0
AreUnder q last [] = NoneUnder q last
AreUnder q last (job ∷ jobs) = IsNextUnder q last job × AreUnder q (Some job) jobs
