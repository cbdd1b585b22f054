-- The first line of a tick that is due.
use Rattle.std.specs.Prelude.{ℕ, Bool, true, false, Option, Some, None, slice_get, if◌then◌else◌}
use Rattle.claim_id.specs.declared.numbers.JobId.{JobId}
use Rattle.pool_mail.specs.declared.settings.Settings.{Settings}
use Rattle.queue_tx.specs.Queues.{KeyedAds}
use Rattle.schedd_plan.specs.declared.claims.KeptClaim.{KeptClaim}
use Rattle.schedd_plan.specs.declared.runs.KeptRun.{KeptRun}
use Rattle.schedd_plan.specs.declared.tick.TickLine.{TickLine}
use Rattle.schedd_plan.specs.declared.tick.TickLine.TheVariants as line
use Rattle.schedd_plan.specs.KeptRuns.{is_before}
use Rattle.schedd_plan.specs.TickTable.{run_line, due_run, claim_line, due_claim, line_at_run, line_at_claim}
use Rattle.schedd_state.specs.Schedds.{ScheddValue}

-- ---- the first line that is due
abbrev pub line_of_known : Option KeptRun → KeyedAds → Settings → ℕ → ℕ → TickLine
line_of_known None q set place reading = line.Nothing
line_of_known (Some r) q set place reading = line_at_run place (run_line r q set reading)

abbrev pub line_of_place : ScheddValue → KeyedAds → ℕ → ℕ → TickLine
line_of_place v q place reading =
    line_of_known (slice_get v.runs place) q v.settings place reading

abbrev pub line_in_claim : Option KeptClaim → ScheddValue → KeyedAds → ℕ → ℕ → TickLine
line_in_claim None v q place reading = line.Nothing
line_in_claim (Some c) v q place reading =
    line_at_claim place c.job (claim_line c v.runs q v.settings reading)

abbrev pub line_of_claim : ScheddValue → KeyedAds → ℕ → ℕ → TickLine
line_of_claim v q place reading = line_in_claim (slice_get v.claims place) v q place reading

abbrev pub line_of_due_claim : Option ℕ → ScheddValue → KeyedAds → ℕ → TickLine
line_of_due_claim None v q reading = line.Nothing
line_of_due_claim (Some place) v q reading = line_of_claim v q place reading

abbrev pub line_of_claims : ScheddValue → KeyedAds → ℕ → TickLine
line_of_claims v q reading =
    line_of_due_claim (due_claim v.claims v.runs q v.settings reading) v q reading

-- whether a job comes before that of a run
abbrev pub comes_first : JobId → Option KeptRun → Bool
comes_first job None = true
comes_first job (Some r) = is_before job r.job

-- the first job that was left, and the first run of which something is due: that of the first job
abbrev pub line_of_jobs : Option JobId → Option ℕ → ScheddValue → KeyedAds → ℕ → TickLine
line_of_jobs None None v q reading = line_of_claims v q reading
line_of_jobs (Some job) None v q reading = line.Left job
line_of_jobs None (Some place) v q reading = line_of_place v q place reading
line_of_jobs (Some job) (Some place) v q reading = if comes_first job (slice_get v.runs place)
    then line.Left job
    else line_of_place v q place reading

unfoldable pub tick_line : ScheddValue → KeyedAds → ℕ → TickLine
tick_line v q reading =
    line_of_jobs (slice_get v.left 0) (due_run v.runs q v.settings reading) v q reading

abbrev pub is_act : TickLine → Bool
is_act line.Nothing = false
is_act (line.Left job) = true
is_act (line.Past place) = true
is_act (line.Lengthen place) = true
is_act (line.Regrant place job) = true
is_act (line.Seek place) = true
is_act (line.GiveUp place) = true

abbrev pub is_due : ScheddValue → KeyedAds → ℕ → Bool
is_due v q reading = is_act (tick_line v q reading)
