-- The jobs that a queue and the finished jobs show.
use Rattle.std.specs.Prelude.{◌≡◌, ℕ, Bool, List, [], ◌∷◌, ◌++◌, filter_map, Option, Some, None, if◌then◌else◌}
use Rattle.ad_tree.specs.Ad.{Attributes}
use Rattle.claim_id.specs.declared.numbers.ClaimId.{ClaimId}
use Rattle.claim_id.specs.declared.numbers.JobId.{JobId}
use Rattle.claim_id.specs.declared.numbers.RunNo.{RunNo}
use Rattle.pool_parts.specs.Listings.{AreJobs}
use Rattle.pool_parts.specs.declared.finished.FinishedJob.{FinishedJob}
use Rattle.pool_view.specs.Ads.{core_of}
use Rattle.pool_view.specs.declared.job.JobEntry.{JobEntry}
use Rattle.pool_view.specs.declared.job.State.{State}
use Rattle.pool_view.specs.declared.job.State.TheVariants.{Idle, Held, Under, Left, Done}
use Rattle.queue_tx.specs.declared.key.Key.{Key}
use Rattle.queue_tx.specs.declared.key.Key.TheVariants.{Header, Proc}
use Rattle.queue_tx.specs.declared.kind.JobKind.{JobKind}
use Rattle.queue_tx.specs.declared.kind.JobKind.TheVariants as kind
use Rattle.queue_tx.specs.Kinds.{kind_of}
use Rattle.queue_tx.specs.Queues.{KeyedAds, ad_at}
use Rattle.schedd_state.specs.Reopening.{claim_in}
use Rattle.schedd_plan.specs.JobAttributes.{lease_until, run_number}
use Rattle.schedd_plan.specs.JobPlaces.{is_left}

-- ---- one job of the queue, by a reader of claims
abbrev pub run_by : Option ClaimId → Option ℕ → Option RunNo
run_by None number = None
run_by (Some claim) None = None
run_by (Some claim) (Some number) = Some (record { claim = claim.no; number = number })

abbrev pub run_in : (List ℕ → Option ClaimId) → Attributes → Option RunNo
run_in read ad = run_by (claim_in read ad) (run_number ad)

abbrev pub under_by : Option RunNo → Option ℕ → Option State
under_by None end = None
under_by (Some run) None = None
under_by (Some run) (Some end) = Some (Under run end)

abbrev pub under_state : (List ℕ → Option ClaimId) → Attributes → Option State
under_state read ad = under_by (run_in read ad) (lease_until ad)

abbrev pub state_by : Option JobKind → Bool → Option State → Option State
state_by None left under = None
state_by (Some kind.Idle) left under = Some Idle
state_by (Some kind.Held) left under = Some Held
state_by (Some kind.Under) left under = if left then Some Left else under

-- how the job of an ad stands, where it was left by an earlier boot of the pool or not
abbrev pub shown_state : (List ℕ → Option ClaimId) → Bool → Attributes → Option State
shown_state read left ad = state_by (kind_of ad) left (under_state read ad)

abbrev pub entry_of : JobId → Attributes → State → JobEntry
entry_of job ad state =
    record { job = job; entry = record { core = core_of ad; state = state } }

abbrev pub entry_by : JobId → Attributes → Option State → Option JobEntry
entry_by job ad None = None
entry_by job ad (Some state) = Some (entry_of job ad state)

abbrev pub entry_in : (List ℕ → Option ClaimId) → List JobId → JobId → Option Attributes
    → Option JobEntry
entry_in read left job None = None
entry_in read left job (Some ad) = entry_by job ad (shown_state read (is_left job left) ad)

-- the job of the queue, of which these were left by an earlier boot
abbrev pub shown_entry : (List ℕ → Option ClaimId) → KeyedAds → List JobId → JobId
    → Option JobEntry
shown_entry read q left job = entry_in read left job (ad_at (Proc job) q)

abbrev pub one_entry : Option JobEntry → List JobEntry
one_entry None = []
one_entry (Some e) = e ∷ []

-- ---- jobs that have left the queue
abbrev pub done_by : Key → FinishedJob → Option JobEntry
done_by Header f = None
done_by (Proc job) f = Some (entry_of job f.ad (Done f.outcome))

abbrev pub done_entry : (Key × FinishedJob) → Option JobEntry
done_entry e = done_by e.0 e.1

-- ---- all of them
-- those of the queue, by kind and in order, and those that have left it
pub record AreShown (read : List ℕ → Option ClaimId) (q : KeyedAds) (left : List JobId)
    (finished : List (Key × FinishedJob)) (entries : List JobEntry) : Type 0 where
  pub idle : List JobId
  pub held : List JobId
  pub under : List JobId
  pub are_idle : AreJobs kind.Idle q None idle
  pub are_held : AreJobs kind.Held q None held
  pub are_under : AreJobs kind.Under q None under
  pub entries_are : entries ≡ filter_map (shown_entry read q left) idle
      ++ filter_map (shown_entry read q left) held
      ++ filter_map (shown_entry read q left) under
      ++ filter_map done_entry finished
