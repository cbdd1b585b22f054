-- What the schedd finds in the queue when it comes back.
use Rattle.std.specs.Prelude.{◌≡◌, ◌↔◌, ℕ, ◌+◌, ◌&&◌, Bool, true, false, List, [], ◌∷◌, ◌++◌, filter, Option, Some, None, nat_lt, nat_le, if◌then◌else◌}
use Rattle.ad_value.specs.Content.{text}
use Rattle.ad_value.specs.declared.names.pool.TheConstants.{RUN_CLAIM}
use Rattle.ad_tree.specs.Tree.{Tree, literal}
use Rattle.ad_tree.specs.Ad.{Attributes, lookup}
use Rattle.claim_id.specs.declared.numbers.ClaimId.{ClaimId}
use Rattle.claim_id.specs.declared.numbers.JobId.{JobId}
use Rattle.claim_id.specs.Texts.{claim_text, IsClaim}
use Rattle.queue_tx.specs.declared.key.Key.TheVariants.{Header, Proc}
use Rattle.queue_tx.specs.declared.names.TheConstants.{NEXT_RUN_NUM}
use Rattle.queue_tx.specs.declared.kind.JobKind.{JobKind}
use Rattle.queue_tx.specs.declared.kind.JobKind.TheVariants as kind
use Rattle.queue_tx.specs.Kinds.{kind_of}
use Rattle.queue_tx.specs.Queues.{KeyedAds, ad_at}
use Rattle.schedd_plan.specs.declared.plan.JobPlan.{JobPlan}
use Rattle.schedd_plan.specs.declared.plan.JobPlan.TheVariants as plan
use Rattle.schedd_plan.specs.JobAttributes.{natural_at, run_number}
use Rattle.schedd_plan.specs.declared.claims.KeptClaim.{KeptClaim}
use Rattle.schedd_plan.specs.declared.claims.Stage.TheVariants.{Ready}
use Rattle.schedd_state.specs.declared.run_numbers.TheConstants.{LAST_RUN_NUMBER}
use Rattle.schedd_plan.specs.declared.runs.KeptRun.{KeptRun}
use Rattle.schedd_plan.specs.JobPlaces.{is_left}

-- a function that reads the texts of claims
abbrev pub IsReader : (List ℕ → Option ClaimId) → Type 0
IsReader read = (bytes : List ℕ) (claim : ClaimId)
    → (read bytes ≡ Some claim) ↔ (IsClaim claim × (bytes ≡ claim_text claim))

-- ---- the run that a job's ad names
abbrev pub claim_in_tree : (List ℕ → Option ClaimId) → Tree → Option ClaimId
claim_in_tree read (literal (text bytes)) = read bytes
claim_in_tree read e = None

abbrev pub claim_by : (List ℕ → Option ClaimId) → Option Tree → Option ClaimId
claim_by read None = None
claim_by read (Some e) = claim_in_tree read e

abbrev pub claim_in : (List ℕ → Option ClaimId) → Attributes → Option ClaimId
claim_in read ad = claim_by read (lookup RUN_CLAIM.now ad)

abbrev pub run_named : Option ClaimId → Option ℕ → JobId → ℕ → Option KeptRun
run_named (Some claim) (Some number) job reading =
    Some (record { job = job; claim = claim; number = number; alive = reading; found = true })
run_named (Some claim) None job reading = None
run_named None number job reading = None

abbrev pub run_found : (List ℕ → Option ClaimId) → JobId → ℕ → Attributes → Option KeptRun
run_found read job reading ad = run_named (claim_in read ad) (run_number ad) job reading

abbrev pub run_by
    : (List ℕ → Option ClaimId) → Bool → Option Attributes → JobId → ℕ → Option KeptRun
run_by read true ad job reading = None
run_by read false None job reading = None
run_by read false (Some ad) job reading = run_found read job reading ad

-- a job that was left is under no run
abbrev pub found_run
    : (List ℕ → Option ClaimId) → KeyedAds → List JobId → ℕ → JobId → Option KeptRun
found_run read q left reading job =
    run_by read (is_left job left) (ad_at (Proc job) q) job reading

abbrev pub one_run : Option KeptRun → List KeptRun
one_run None = []
one_run (Some r) = r ∷ []

-- runs, and behind them those of jobs, in their order
abbrev pub found_behind
    : (List ℕ → Option ClaimId) → KeyedAds → List JobId → ℕ → List JobId → List KeptRun
    → List KeptRun
found_behind read q left reading [] runs = runs
found_behind read q left reading (job ∷ jobs) runs =
    found_behind read q left reading jobs (runs ++ one_run (found_run read q left reading job))

abbrev pub found_runs
    : (List ℕ → Option ClaimId) → KeyedAds → List JobId → ℕ → List JobId → List KeptRun
found_runs read q left reading jobs = found_behind read q left reading jobs []

-- ---- their claims, with the job under each as its first
abbrev pub claim_found : KeptRun → Attributes → KeptClaim
claim_found r ad = record { claim = r.claim; job = r.job; stage = Ready; ad = ad }

abbrev pub one_claim : Option Attributes → KeptRun → List KeptClaim
one_claim None r = []
one_claim (Some ad) r = claim_found r ad ∷ []

-- claims, and behind them those of runs, in their order
abbrev pub claims_behind : KeyedAds → List KeptRun → List KeptClaim → List KeptClaim
claims_behind q [] claims = claims
claims_behind q (r ∷ rs) claims =
    claims_behind q rs (claims ++ one_claim (ad_at (Proc r.job) q) r)

abbrev pub found_claims : KeyedAds → List KeptRun → List KeptClaim
found_claims q runs = claims_behind q runs []

-- ---- jobs that were left and weren't let go
abbrev pub is_under_kind : Option JobKind → Bool
is_under_kind None = false
is_under_kind (Some kind.Idle) = false
is_under_kind (Some kind.Held) = false
is_under_kind (Some kind.Under) = true

abbrev pub under_by : Option Attributes → Bool
under_by None = false
under_by (Some ad) = is_under_kind (kind_of ad)

abbrev pub is_under_at : KeyedAds → JobId → Bool
is_under_at q job = under_by (ad_at (Proc job) q)

abbrev pub still_left : KeyedAds → List JobId → List JobId
still_left q left = filter (is_under_at q) left

-- ---- run numbers
-- a grant that was logged uses up its number
abbrev pub next_after : KeyedAds → Option JobPlan → ℕ → ℕ
next_after q None next = next
next_after q (Some (plan.Grant job claim number until header)) next =
    if is_under_at q job then number + 1 else next
next_after q (Some p) next = next

abbrev pub run_from : Option ℕ → ℕ
run_from None = 1
run_from (Some n) = if nat_lt 0 n && nat_le n LAST_RUN_NUMBER then n else 1

abbrev pub header_run : Option Attributes → ℕ
header_run None = 1
header_run (Some ad) = run_from (natural_at NEXT_RUN_NUM.now ad)

-- the number of the run that is granted first
abbrev pub first_run : KeyedAds → ℕ
first_run q = header_run (ad_at Header q)
