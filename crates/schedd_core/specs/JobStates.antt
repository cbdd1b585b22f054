-- How the queue as logged shows the jobs of the abstract pool.
use Rattle.std.specs.Prelude.{◌≡◌, ℕ, Bool, true, false, List, Option, Some, None, IfSome}
use Rattle.ad_value.specs.declared.names.pool.TheConstants.{RUN_CLAIM}
use Rattle.ad_rows.specs.Rows.{text_literal}
use Rattle.ad_tree.specs.Ad.{Attributes, lookup}
use Rattle.claim_id.specs.declared.numbers.ClaimId.{ClaimId}
use Rattle.claim_id.specs.declared.numbers.JobId.{JobId}
use Rattle.claim_id.specs.Texts.{claim_text, IsClaim}
use Rattle.pool_view.specs.Ads.{core_of}
use Rattle.pool_view.specs.declared.job.Entry.{Entry}
use Rattle.pool_view.specs.declared.job.Outcome.{Outcome}
use Rattle.pool_view.specs.declared.job.State.{State}
use Rattle.pool_view.specs.declared.job.State.TheVariants.{Idle, Held, Under, Left, Done}
use Rattle.queue_tx.specs.declared.key.Key.TheVariants.{Proc}
use Rattle.queue_tx.specs.declared.kind.JobKind.TheVariants as kind
use Rattle.queue_tx.specs.Kinds.{kind_of}
use Rattle.queue_tx.specs.Queues.{KeyedAds, ad_at}
use Rattle.schedd_plan.specs.JobAttributes.{lease_until, run_number}
use Rattle.schedd_plan.specs.JobPlaces.{is_left}

-- an ad names a run by its claim and number, and says when its lease ends
pub record NamesRun (ad : Attributes) (claim : ClaimId) (number end : ℕ) : Type 0 where
  pub valid : IsClaim claim
  pub claim_is : lookup RUN_CLAIM.now ad ≡ Some (text_literal (claim_text claim))
  pub number_is : run_number ad ≡ Some number
  pub end_is : lease_until ad ≡ Some end

-- an ad shows that its job stands so
abbrev pub ShowsState : Bool → Attributes → State → Type 0
ShowsState left ad Idle = kind_of ad ≡ Some kind.Idle
ShowsState left ad Held = kind_of ad ≡ Some kind.Held
ShowsState left ad (Under run end) = (left ≡ false)
    × ((claim : ClaimId) × (claim.no ≡ run.claim) × NamesRun ad claim run.number end)
ShowsState left ad Left = (left ≡ true) × (kind_of ad ≡ Some kind.Under)
ShowsState left ad (Done outcome) = ⊥

abbrev pub IsDone : State → Type 0
IsDone state = (outcome : Outcome) × (state ≡ Done outcome)

-- a proc that is no job is none of the pool
abbrev pub ShowsEntry : Bool → Attributes → Option Entry → Type 0
ShowsEntry left ad None = kind_of ad ≡ None
ShowsEntry left ad (Some e) = (e.core ≡ core_of ad) × ShowsState left ad e.state

-- a job that isn't in the queue has left it, or never was there
abbrev pub ShowsJob : Bool → Option Attributes → Option Entry → Type 0
ShowsJob left None entry = IfSome entry (λ e. IsDone e.state)
ShowsJob left (Some ad) entry = ShowsEntry left ad entry

-- a queue shows the jobs, of which these were left by an earlier boot
abbrev pub ShowsJobs : KeyedAds → List JobId → (JobId → Option Entry) → Type 0
ShowsJobs q left jobs =
    (job : JobId) → ShowsJob (is_left job left) (ad_at (Proc job) q) (jobs job)
