-- A pool to which jobs are submitted is kept.
use Rattle.std.proofs.Common.{max, ◌≡◌, ℕ, zero, suc, ◌+◌, ◌<◌, Bool, true, false, cond, ◌||◌, List, [], ◌∷◌, ◌++◌, length, map, Ok, Option, Some, None, is_some, append_assoc, append-nil, add-one, add-zero, zero-add, eq-eqb, refl, sym, ◌∙◌, ap, subst, arith}
use Rattle.std.specs.Map.{keys_of, lookup}
use Rattle.ad_tree.specs.Ad.{Attributes}
use Rattle.claim_id.specs.declared.numbers.JobId.{JobId}
use Rattle.pool_parts.specs.Clusters.{has_cluster, is_of_cluster, is_used}
use Rattle.pool_parts.specs.declared.finished.FinishedJob.{FinishedJob}
use Rattle.pool_view.specs.Protocol.{NewJob, Protocol}
use Rattle.pool_view.specs.Protocol.{Submission as submitted}
use Rattle.pool_view.specs.ProtocolMove.{Pend}
use Rattle.pool_state.specs.declared.state.PoolState.{PoolState}
use Rattle.pool_parts.specs.Submissions.{ad_ops, attribute_op, header_ops, job_numbered, jobs_ops, next_cluster_op, submission_ops}
use Rattle.pool_parts.specs.declared.submission.TheConstants.{KIND, OTHER}
use Rattle.queue_tx.specs.declared.key.Key.{Key}
use Rattle.queue_tx.specs.declared.key.Key.TheVariants.{Header, Proc}
use Rattle.queue_tx.specs.Keys.{same_key}
use Rattle.queue_tx.specs.Operations.{Operation}
use Rattle.queue_tx.specs.Queues.{KeyedAds, ad_at, queue_after}
use Rattle.queue_tx.proofs.Transactions.{same_keys}
use Rattle.schedd_core.specs.ScheddParts.{IsOrdered}
use Rattle.pool_rules.specs.Bringing.{AreIdleJobs, AreOfHeader, JobAd, all_bringing_ops, bringing_ops, job_of_ad, new_job_of, setting_op}
use Rattle.pool_rules.specs.Linked.{Awaits, BringsJobs, new_job_id}
use Rattle.pool_rules.specs.PoolParts.{Awaited, NewJobs}
use Rattle.pool_rules.specs.ScheddEvents.{AreNewJobs, IsNotAmong, parts_with_submission}
use Rattle.pool_rules.proofs.Bringing.{brings_jobs}
use Rattle.pool_rules.proofs.Submitting.{jobs_submitted}
use Rattle.pool_rules.specs.Given.{AreIdle}
use Rattle.pool_rules.specs.Happens.{submission_of}
use Rattle.pool_rules.specs.Logging.{cluster_jobs}
use Rattle.pool_rules.specs.Parts.{entry_done_by, finished_in, parts_of}
use Rattle.pool_view.specs.AbstractStep.{AbstractStep, Time}
use Rattle.pool_rules.specs.Kept.{GoesOn, IsKept, at_reading}
use Rattle.pool_rules.proofs.ScheddGoing.{goes_after_reading, goes_by, none_awaited}
use Rattle.pool_rules.proofs.StepKinds.{no_steps}
use Rattle.pool_rules.proofs.ScheddLists.{same_members}

-- ---- the jobs with their ads
-- whose procs count from one on
abbrev pub job_ads : ℕ → ℕ → List Attributes → List JobAd
job_ads cluster proc [] = []
job_ads cluster proc (ad ∷ ads) = (job_numbered cluster proc, ad) ∷ job_ads cluster (proc + 1) ads

-- their operations
settings_as : (job : JobId) (ad : Attributes) → map (attribute_op (Proc job)) ad ≡ map (setting_op job) ad
settings_as job [] = refl
settings_as job (a ∷ rest) = ap (λ (os : List Operation). setting_op job a ∷ os) (settings_as job rest)

one_as : (job : JobId) (ad : Attributes) → ad_ops (Proc job) ad ≡ bringing_ops KIND.now OTHER.now (job, ad)
one_as job ad = ap (λ (os : List Operation). Rattle.pool_parts.specs.Submissions.new_ad_op (Proc job) ∷ os) (settings_as job ad)

jobs_as : (cluster proc : ℕ) (ads : List Attributes) → jobs_ops cluster proc ads ≡ all_bringing_ops KIND.now OTHER.now (job_ads cluster proc ads)
jobs_as cluster proc [] = refl
jobs_as cluster proc (ad ∷ ads) =
    ap (λ (os : List Operation). os ++ jobs_ops cluster (proc + 1) ads) (one_as (job_numbered cluster proc) ad)
    ∙ ap (λ (os : List Operation). bringing_ops KIND.now OTHER.now (job_numbered cluster proc, ad) ++ os) (jobs_as cluster (proc + 1) ads)

abbrev before_jobs : Bool → ℕ → List Operation
before_jobs header cluster = header_ops header ++ next_cluster_op cluster ∷ []

before_header : (header : Bool) (cluster : ℕ) → AreOfHeader (before_jobs header cluster)
before_header true cluster = (refl, tt)
before_header false cluster = (refl, (refl, tt))

submission_as : (header : Bool) (cluster : ℕ) (ads : List Attributes) → submission_ops header cluster ads ≡ before_jobs header cluster ++ all_bringing_ops KIND.now OTHER.now (job_ads cluster 0 ads)
submission_as header cluster ads =
    ap (λ (os : List Operation). header_ops header ++ next_cluster_op cluster ∷ os) (jobs_as cluster 0 ads)
    ∙ sym (append_assoc (header_ops header) (next_cluster_op cluster ∷ []) (all_bringing_ops KIND.now OTHER.now (job_ads cluster 0 ads)))

-- ---- their numbers
abbrev jobs_from : ℕ → ℕ → ℕ → List JobId
jobs_from cluster proc zero = []
jobs_from cluster proc (suc count) = job_numbered cluster proc ∷ jobs_from cluster (proc + 1) count

jobs_behind : (cluster proc count : ℕ) → cluster_jobs cluster (proc + count) ≡ cluster_jobs cluster proc ++ jobs_from cluster proc count
jobs_behind cluster proc zero = ap (λ n. cluster_jobs cluster n) (add-zero proc) ∙ sym (append-nil (cluster_jobs cluster proc))
jobs_behind cluster proc (suc count) =
    let next : proc + suc count ≡ suc proc + count = omega arith in
    ap (λ n. cluster_jobs cluster n) next
    ∙ (jobs_behind cluster (suc proc) count
    ∙ (append_assoc (cluster_jobs cluster proc) (job_numbered cluster proc ∷ []) (jobs_from cluster (suc proc) count)
    ∙ ap (λ n. cluster_jobs cluster proc ++ job_numbered cluster proc ∷ jobs_from cluster n count) (sym (add-one proc))))

named_from : (cluster proc : ℕ) (ads : List Attributes) → map new_job_id (map new_job_of (job_ads cluster proc ads)) ≡ jobs_from cluster proc (length ads)
named_from cluster proc [] = refl
named_from cluster proc (ad ∷ ads) = ap (λ (l : List JobId). job_numbered cluster proc ∷ l) (named_from cluster (proc + 1) ads)

jobs_named : (cluster : ℕ) (ads : List Attributes) → map new_job_id (map new_job_of (job_ads cluster 0 ads)) ≡ cluster_jobs cluster (length ads)
jobs_named cluster ads = named_from cluster 0 ads ∙ sym (ap (λ n. cluster_jobs cluster n) (sym (zero-add (length ads))) ∙ jobs_behind cluster 0 (length ads))

-- no two are one
not_behind : (cluster k proc : ℕ) (ads : List Attributes) → k < proc → IsNotAmong (job_numbered cluster k) (map job_of_ad (job_ads cluster proc ads))
not_behind cluster k proc [] less = tt
not_behind cluster k proc (ad ∷ ads) less =
    (λ same. (let is : k ≡ proc = ap (λ (j : JobId). j.proc) same in omega (arith, is, less)), not_behind cluster k (proc + 1) ads (omega (arith, less)))

idle_jobs : (cluster proc : ℕ) (ads : List Attributes) → AreIdle ads → AreIdleJobs (job_ads cluster proc ads)
idle_jobs cluster proc [] idle = tt
idle_jobs cluster proc (ad ∷ ads) idle = (idle.0, idle.1, not_behind cluster proc (proc + 1) ads (omega arith), idle_jobs cluster (proc + 1) ads idle.2)

-- ---- none of them was there
both_false : (a b : Bool) → (a || b) ≡ false → (a ≡ false) × (b ≡ false)
both_false true b h = cc
both_false false b h = (refl, h)

of_its_cluster : (cluster proc : ℕ) (key : Key) → same_key (Proc (job_numbered cluster proc)) key ≡ true → is_of_cluster cluster key ≡ true
of_its_cluster cluster proc key same = subst (λ k. is_of_cluster cluster k ≡ true) (same_keys (Proc (job_numbered cluster proc)) key same) (eq-eqb cluster cluster refl)

pub none_of_cluster : {X : Type 0} (cluster proc : ℕ) (es : List (Key × X)) → has_cluster cluster (keys_of es) ≡ false → lookup (same_key (Proc (job_numbered cluster proc))) es ≡ None
none_of_cluster cluster proc [] none = refl
none_of_cluster cluster proc (e ∷ es) none = by (same_key (Proc (job_numbered cluster proc)) e.0) refl (none_of_cluster cluster proc es parts.1)
  where
    parts : (is_of_cluster cluster e.0 ≡ false) × (has_cluster cluster (keys_of es) ≡ false)
    parts = both_false (is_of_cluster cluster e.0) (has_cluster cluster (keys_of es)) none

    by : (b : Bool) → same_key (Proc (job_numbered cluster proc)) e.0 ≡ b → lookup (same_key (Proc (job_numbered cluster proc))) es ≡ None → cond b (Some e.1) (lookup (same_key (Proc (job_numbered cluster proc))) es) ≡ None
    by true is rest = let clash : true ≡ false = sym (of_its_cluster cluster proc e.0 is) ∙ parts.0 in cc
    by false is rest = rest

are_new : (q : KeyedAds) (finished : List (Key × FinishedJob)) (cluster proc : ℕ) (ads : List Attributes) → has_cluster cluster (keys_of q) ≡ false → has_cluster cluster (keys_of finished) ≡ false
    → AreNewJobs q (finished_in finished) (map new_job_id (map new_job_of (job_ads cluster proc ads)))
are_new q finished cluster proc [] none left = tt
are_new q finished cluster proc (ad ∷ ads) none left = (
  none_of_cluster cluster proc q none,
  ap entry_done_by (none_of_cluster cluster proc finished left),
  apart ads (proc + 1) (omega arith),
  are_new q finished cluster (proc + 1) ads none left,
)
  where
    apart : (more : List Attributes) (n : ℕ) → proc < n → IsNotAmong (job_numbered cluster proc) (map new_job_id (map new_job_of (job_ads cluster n more)))
    apart [] n less = tt
    apart (x ∷ xs) n less =
        (λ same. (let is : proc ≡ n = ap (λ (j : JobId). j.proc) same in omega (arith, is, less)), apart xs (n + 1) (omega (arith, less)))

-- ---- the event
brought : (q : KeyedAds) (header : Bool) (cluster : ℕ) (ads : List Attributes) → IsOrdered q → AreIdle ads → (new : KeyedAds) → queue_after q (submission_ops header cluster ads) ≡ Ok new → BringsJobs q (map new_job_of (job_ads cluster 0 ads)) new
brought q header cluster ads ordered idle new h =
    brings_jobs q new (before_jobs header cluster) KIND.now OTHER.now (job_ads cluster 0 ads) ordered (before_header header cluster) (idle_jobs cluster 0 ads idle)
    (subst (λ (ops : List Operation). queue_after q ops ≡ Ok new) (submission_as header cluster ads) h)

submitted_goes : (p : Protocol) (P : AbstractStep → Type 0) (s : PoolState) (cluster : ℕ) (ads : List Attributes) → IsKept p s → s.pending ≡ None → AreIdle ads → is_used s.queue s.finished cluster ≡ false → GoesOn p P (record s { pending = Some (submission_of cluster ads s) })
submitted_goes p P s cluster ads kept none idle unused =
    goes_by p P (Pend (submitted jobs) ∷ []) (parts_with_submission (map new_job_id jobs) tx (parts_of s)) (record s { pending = Some (submission_of cluster ads s) })
    (no_steps P)
    (jobs_submitted p (parts_of s) jobs tx kept.linked (none_awaited s none) (are_new s.queue s.finished cluster 0 ads parts.0 parts.1)
    (brought s.queue (is_some (ad_at Header s.queue)) cluster ads ordered idle))
    (record {
      moment = refl;
      startds = refl;
      schedd = refl;
      queue = refl;
      mails = λ m there. there;
      awaited = ap (λ (l : List JobId). Some (NewJobs l tx)) (sym (jobs_named cluster ads));
      finished = λ job. refl;
      acked = same_members s.acked;
      ordered = same_members s.ordered;
      reports = same_members s.reports;
    })
    tt
    kept.addressed
    kept.passed
    kept.boots
  where
    jobs : List NewJob
    jobs = map new_job_of (job_ads cluster 0 ads)

    tx : List Operation
    tx = submission_ops (is_some (ad_at Header s.queue)) cluster ads

    parts : (has_cluster cluster (keys_of s.queue) ≡ false) × (has_cluster cluster (keys_of s.finished) ≡ false)
    parts = both_false (has_cluster cluster (keys_of s.queue)) (has_cluster cluster (keys_of s.finished)) unused

    ordered : IsOrdered s.queue
    ordered = (subst (λ (o : Option Awaited). Awaits p (parts_of s) o) (none_awaited s none) kept.linked.awaited).fits.queue

pub unused_goes : (p : Protocol) (P : AbstractStep → Type 0) (s : PoolState) (cluster : ℕ) (ads : List Attributes) (reading : ℕ) → P (Time (max s.latest reading)) → IsKept p s → s.pending ≡ None → AreIdle ads → is_used s.queue s.finished cluster ≡ false
    → GoesOn p P (at_reading reading (record s { pending = Some (submission_of cluster ads s) }))
unused_goes p P s cluster ads reading time kept none idle unused =
    goes_after_reading p P s (at_reading reading (record s { pending = Some (submission_of cluster ads s) })) reading time kept
    (λ q now. submitted_goes q P (at_reading reading s) cluster ads now none idle unused)
