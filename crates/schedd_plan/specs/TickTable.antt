-- What is due at a reading: of a run, of a claim, and the first of all.
use Rattle.std.specs.Prelude.{ℕ, Bool, true, false, ◌+◌, ◌&&◌, ◌||◌, List, [], position, Option, Some, None, nat_lt, nat_le, if◌then◌else◌}
use Rattle.ad_value.specs.Content.{Content, integer}
use Rattle.ad_value.specs.declared.names.job.TheConstants.{JOB_LEASE_DURATION}
use Rattle.ad_tree.specs.Ad.{Attributes}
use Rattle.ad_eval.specs.Mean.{attribute_value}
use Rattle.claim_id.specs.declared.numbers.JobId.{JobId}
use Rattle.pool_mail.specs.declared.settings.Settings.{Settings}
use Rattle.pool_mail.specs.declared.settings.TheConstants.{MAX_SECONDS}
use Rattle.queue_tx.specs.declared.key.Key.TheVariants.{Proc}
use Rattle.queue_tx.specs.Queues.{KeyedAds, ad_at}
use Rattle.schedd_plan.specs.JobAttributes.{lease_until, natural}
use Rattle.schedd_plan.specs.declared.claims.KeptClaim.{KeptClaim}
use Rattle.schedd_plan.specs.declared.claims.Stage.{Stage}
use Rattle.schedd_plan.specs.declared.claims.Stage.TheVariants.{Asked, Ready, Leaving}
use Rattle.schedd_plan.specs.declared.runs.KeptRun.{KeptRun}
use Rattle.schedd_plan.specs.declared.tick.ClaimLine.{ClaimLine}
use Rattle.schedd_plan.specs.declared.tick.ClaimLine.TheVariants as of_claim
use Rattle.schedd_plan.specs.declared.tick.RunLine.{RunLine}
use Rattle.schedd_plan.specs.declared.tick.RunLine.TheVariants as of_run
use Rattle.schedd_plan.specs.declared.tick.TickLine.{TickLine}
use Rattle.schedd_plan.specs.declared.tick.TickLine.TheVariants as line
use Rattle.schedd_plan.specs.JobPlaces.{is_idle_at}
use Rattle.schedd_plan.specs.KeptRuns.{has_job_under}

-- at or past so many seconds after a reading
abbrev pub is_after : ℕ → ℕ → ℕ → Bool
is_after since seconds reading = nat_le (since + seconds) reading

-- ---- leases
abbrev pub is_lease : ℕ → Bool
is_lease n = nat_lt 0 n && nat_le n MAX_SECONDS

abbrev pub lease_or : Option ℕ → ℕ → ℕ
lease_or None otherwise = otherwise
lease_or (Some n) otherwise = if is_lease n then n else otherwise

-- an integer from 1 to the most seconds, or otherwise
abbrev pub seconds_of : Content → ℕ → ℕ
seconds_of (integer n) otherwise = lease_or (natural n) otherwise
seconds_of v otherwise = otherwise

-- JobLeaseDuration, by the job's own ad
abbrev pub lease_seconds : Attributes → Settings → ℕ → ℕ
lease_seconds ad set reading =
    seconds_of (attribute_value ad [] reading JOB_LEASE_DURATION.now) set.job_lease

unfoldable pub lease_end : Attributes → Settings → ℕ → ℕ
lease_end ad set reading = reading + lease_seconds ad set reading

-- ---- a run
abbrev pub is_past : Option ℕ → ℕ → Bool
is_past None reading = false
is_past (Some until) reading = nat_le until reading

-- it was not heard of for a while, or was found when the schedd came back
abbrev pub is_quiet : KeptRun → Settings → ℕ → Bool
is_quiet r set reading = r.found || is_after r.alive set.alive_interval reading

abbrev pub line_of_run : Bool → Bool → RunLine
line_of_run past quiet = if past then of_run.Past
    else (if quiet then of_run.Lengthen else of_run.Nothing)

abbrev pub run_line_by : Option Attributes → KeptRun → Settings → ℕ → RunLine
run_line_by None r set reading = of_run.Nothing
run_line_by (Some ad) r set reading =
    line_of_run (is_past (lease_until ad) reading) (is_quiet r set reading)

unfoldable pub run_line : KeptRun → KeyedAds → Settings → ℕ → RunLine
run_line r q set reading = run_line_by (ad_at (Proc r.job) q) r set reading

abbrev pub is_run_act : RunLine → Bool
is_run_act of_run.Past = true
is_run_act of_run.Lengthen = true
is_run_act of_run.Nothing = false

abbrev pub is_run_due : KeyedAds → Settings → ℕ → KeptRun → Bool
is_run_due q set reading r = is_run_act (run_line r q set reading)

abbrev pub due_run : List KeptRun → KeyedAds → Settings → ℕ → Option ℕ
due_run runs q set reading = position (is_run_due q set reading) runs

-- ---- a claim
abbrev pub asked_line : Bool → ClaimLine
asked_line waited = if waited then of_claim.GiveUp else of_claim.Nothing

-- the job that it names, where that is idle, and else another
abbrev pub ready_line : Bool → Bool → ClaimLine
ready_line under idle = if under then of_claim.Nothing
    else (if idle then of_claim.Regrant else of_claim.Seek)

abbrev pub leaving_line : Bool → ClaimLine
leaving_line under = if under then of_claim.Nothing else of_claim.GiveUp

abbrev pub staged_line : Stage → Bool → Bool → Settings → ℕ → ClaimLine
staged_line (Asked at) under idle set reading = asked_line (is_after at set.claim_lease reading)
staged_line Ready under idle set reading = ready_line under idle
staged_line Leaving under idle set reading = leaving_line under

unfoldable pub claim_line
    : KeptClaim → List KeptRun → KeyedAds → Settings → ℕ → ClaimLine
claim_line c runs q set reading =
    staged_line c.stage (has_job_under c.claim.no runs) (is_idle_at q c.job) set reading

abbrev pub is_claim_act : ClaimLine → Bool
is_claim_act of_claim.Regrant = true
is_claim_act of_claim.Seek = true
is_claim_act of_claim.GiveUp = true
is_claim_act of_claim.Nothing = false

abbrev pub is_claim_due : List KeptRun → KeyedAds → Settings → ℕ → KeptClaim → Bool
is_claim_due runs q set reading c = is_claim_act (claim_line c runs q set reading)

abbrev pub due_claim
    : List KeptClaim → List KeptRun → KeyedAds → Settings → ℕ → Option ℕ
due_claim claims runs q set reading = position (is_claim_due runs q set reading) claims

-- ---- the first of all: over the jobs in order, and then over the claims in order
abbrev pub line_at_run : ℕ → RunLine → TickLine
line_at_run place of_run.Past = line.Past place
line_at_run place of_run.Lengthen = line.Lengthen place
line_at_run place of_run.Nothing = line.Nothing

abbrev pub line_at_claim : ℕ → JobId → ClaimLine → TickLine
line_at_claim place job of_claim.Regrant = line.Regrant place job
line_at_claim place job of_claim.Seek = line.Seek place
line_at_claim place job of_claim.GiveUp = line.GiveUp place
line_at_claim place job of_claim.Nothing = line.Nothing
