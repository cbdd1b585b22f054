-- What is known of a run and of a claim, by its place.
use Rattle.std.proofs.Common.{◌≡◌, ℕ, List, Option, Some, slice_get, ap, sym, ◌∙◌}
use Rattle.claim_id.specs.declared.numbers.ClaimNo.{ClaimNo}
use Rattle.claim_id.specs.declared.numbers.JobId.{JobId}
use Rattle.claim_id.specs.declared.numbers.RunNo.{RunNo}
use Rattle.schedd_plan.specs.declared.claims.KeptClaim.{KeptClaim}
use Rattle.schedd_plan.specs.declared.runs.KeptRun.{KeptRun}
use Rattle.schedd_plan.specs.KeptClaims.{place_of_claim}
use Rattle.schedd_plan.specs.KeptRuns.{enlivened, place_of_job, place_of_run, run_of}
use Rattle.schedd_state.specs.Schedds.{ScheddValue}
use Rattle.schedd_core.specs.Logging.{run_at_place, run_in, run_of_job}
use Rattle.schedd_core.specs.Rows.{known_at, known_job, known_stage, noted, noted_in, run_at, run_known, stage_known}

-- the lists in which a place is looked up, and what is there, are the schedd's
pub run_of_place : (runs first second : List KeptRun) (job : JobId) (place : ℕ) (r : KeptRun) (run : RunNo)
    → first ≡ runs → second ≡ runs → Some place ≡ place_of_job job first → Some r ≡ slice_get second place → run ≡ run_of r → Some run ≡ run_of_job runs job
run_of_place runs first second job place r run one two at there is =
    ap (λ (x : RunNo). Some x) is ∙ ap run_in there ∙ ap (λ (l : List KeptRun). run_in (slice_get l place)) two ∙ ap (run_at_place runs) (at ∙ ap (place_of_job job) one)

pub job_of_place : (v : ScheddValue) (first second : List KeptRun) (run : RunNo) (place : ℕ) (r : KeptRun)
    → first ≡ v.runs → second ≡ v.runs → Some place ≡ place_of_run run first → Some r ≡ slice_get second place → Some (place, r.job) ≡ run_known v run
job_of_place v first second run place r one two at there =
    ap (known_job place) there ∙ ap (λ (l : List KeptRun). known_job place (slice_get l place)) two ∙ ap (run_at v.runs) (at ∙ ap (place_of_run run) one)

pub stage_of_place : (v : ScheddValue) (first second : List KeptClaim) (claim : ClaimNo) (place : ℕ) (c : KeptClaim)
    → first ≡ v.claims → second ≡ v.claims → Some place ≡ place_of_claim claim first → Some c ≡ slice_get second place → Some (place, c.stage) ≡ stage_known v claim
stage_of_place v first second claim place c one two at there =
    ap (known_stage place) there ∙ ap (λ (l : List KeptClaim). known_stage place (slice_get l place)) two ∙ ap (known_at v.claims) (at ∙ ap (place_of_claim claim) one)

-- a run that is alive is as found as it was
pub alive_noted : (v : ScheddValue) (place reading : ℕ) (r : KeptRun) → Some r ≡ slice_get v.runs place
    → record v { runs = enlivened (slice_get v.runs place) place reading r.found v.runs } ≡ noted place reading v
alive_noted v place reading r there =
    ap (λ (o : Option KeptRun). record v { runs = enlivened o place reading r.found v.runs }) (sym there) ∙ ap (λ (o : Option KeptRun). noted_in o place reading v) there
