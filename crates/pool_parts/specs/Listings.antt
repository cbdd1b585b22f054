-- The jobs of a kind, in order, and what they ask for.
use Rattle.std.specs.Prelude.{◌≡◌, Bool, true, false, List, [], ◌∷◌, Option, Some, None, option_map}
use Rattle.std.specs.Ordering.{is_gt}
use Rattle.ad_tree.specs.Ad.{Attributes}
use Rattle.claim_id.specs.declared.numbers.JobId.{JobId}
use Rattle.pool_mail.specs.declared.matching.Request.{Request}
use Rattle.pool_mail.specs.Ads.{request_ad}
use Rattle.queue_tx.specs.declared.key.Key.{Key}
use Rattle.queue_tx.specs.declared.key.Key.TheVariants.{Proc}
use Rattle.queue_tx.specs.declared.kind.JobKind.{JobKind}
use Rattle.queue_tx.specs.Jobs.{IsJobOf}
use Rattle.queue_tx.specs.Keys.{key_cmp, is_above}
use Rattle.queue_tx.specs.Queues.{KeyedAds, ad_at}

-- a key of a job after another one, or of any job
abbrev pub is_past_job : Option JobId → Key → Bool
is_past_job last key = is_above (option_map Proc last) key

-- the first of the kind that is later
pub record IsNextJob (kind : JobKind) (q : KeyedAds) (last : Option JobId) (job : JobId)
    : Type 0 where
  pub meant : IsJobOf kind q (Proc job)
  pub later : is_past_job last (Proc job) ≡ true
  pub first : (other : Key) → IsJobOf kind q other → is_past_job last other ≡ true
      → is_gt (key_cmp (Proc job) other) ≡ false

abbrev pub NoneLater : JobKind → KeyedAds → Option JobId → Type 0
NoneLater kind q last = (key : Key) → IsJobOf kind q key → is_past_job last key ≡ false

abbrev pub NextJob : JobKind → KeyedAds → Option JobId → Option JobId → Type 0
NextJob kind q last None = NoneLater kind q last
NextJob kind q last (Some job) = IsNextJob kind q last job

-- all of the kind that are later, in order: each is the first after the one before
abbrev pub AreJobs : JobKind → KeyedAds → Option JobId → List JobId → Type 0
AreJobs kind q last [] = NoneLater kind q last
AreJobs kind q last (job ∷ jobs) = IsNextJob kind q last job × AreJobs kind q (Some job) jobs

-- ---- what they ask for

abbrev pub asked_of : JobId → Option Attributes → Option Request
asked_of job None = None
asked_of job (Some ad) = Some (record { job = job; ad = request_ad ad })

-- what a job of the queue asks for
abbrev pub request_at : KeyedAds → JobId → Option Request
request_at q job = asked_of job (ad_at (Proc job) q)

abbrev pub one_request : Option Request → List Request
one_request None = []
one_request (Some r) = r ∷ []
