-- What a schedd reads of a job's ad (HTCondor manual, Job ClassAd Attributes): only literals count.
use Rattle.std.specs.Prelude.{ℕ, ℤ, pos, negsuc, ◌==◌, int_lt, unsigned_abs, List, Option, Some, None, if◌then◌else◌}
use Rattle.std.specs.Str.{bytes_eq}
use Rattle.ad_value.specs.Content.{integer, text}
use Rattle.ad_value.specs.declared.names.job.TheConstants.{JOB_STATUS}
use Rattle.ad_value.specs.declared.names.pool.TheConstants.{HOLD_REASON, LEASE_UNTIL, RUN_NUMBER}
use Rattle.ad_tree.specs.Tree.{Tree, literal}
use Rattle.ad_tree.specs.Ad.{Attributes, lookup}
use Rattle.schedd_plan.specs.declared.reason.Reason.{Reason}
use Rattle.schedd_plan.specs.declared.reason.Reason.TheVariants.{ByCommand, ByPolicy, FailedToStart}
use Rattle.schedd_plan.specs.declared.reason.TheConstants.{BY_COMMAND, BY_POLICY, FAILED_TO_START}
use Rattle.schedd_plan.specs.declared.status.JobStatus.{JobStatus}
use Rattle.schedd_plan.specs.declared.status.JobStatus.TheVariants as status

-- ---- JobStatus
abbrev pub natural_status : ℕ → JobStatus
natural_status n = if n == 1 then status.Idle
    else (if n == 2 then status.Running
    else (if n == 3 then status.Removed
    else (if n == 4 then status.Completed
    else (if n == 5 then status.Held else status.Other))))

abbrev pub status_numbered : ℤ → JobStatus
status_numbered (pos n) = natural_status n
status_numbered (negsuc n) = status.Other

abbrev pub status_in : Tree → JobStatus
status_in (literal (integer n)) = status_numbered n
status_in e = status.Other

abbrev pub status_by : Option Tree → JobStatus
status_by None = status.Other
status_by (Some e) = status_in e

abbrev pub status_of : Attributes → JobStatus
status_of ad = status_by (lookup JOB_STATUS.now ad)

-- ---- HoldReason
abbrev pub reason_text : Reason → List ℕ
reason_text ByCommand = BY_COMMAND.now
reason_text ByPolicy = BY_POLICY.now
reason_text FailedToStart = FAILED_TO_START.now

-- words that the schedd doesn't write count as a user's
abbrev pub reason_worded : List ℕ → Reason
reason_worded words = if bytes_eq words BY_POLICY.now then ByPolicy
    else (if bytes_eq words FAILED_TO_START.now then FailedToStart else ByCommand)

abbrev pub reason_in : Tree → Reason
reason_in (literal (text words)) = reason_worded words
reason_in e = ByCommand

abbrev pub reason_by : Option Tree → Reason
reason_by None = ByCommand
reason_by (Some e) = reason_in e

abbrev pub reason_of : Attributes → Reason
reason_of ad = reason_by (lookup HOLD_REASON.now ad)

-- ---- numbers
-- where it is at least 0
abbrev pub natural : ℤ → Option ℕ
natural n = if int_lt n (pos 0) then None else Some (unsigned_abs n)

abbrev pub natural_in : Tree → Option ℕ
natural_in (literal (integer n)) = natural n
natural_in e = None

abbrev pub natural_by : Option Tree → Option ℕ
natural_by None = None
natural_by (Some e) = natural_in e

-- the literal integer under a name, where it is at least 0
abbrev pub natural_at : List ℕ → Attributes → Option ℕ
natural_at name ad = natural_by (lookup name ad)

abbrev pub lease_until : Attributes → Option ℕ
lease_until ad = natural_at LEASE_UNTIL.now ad

abbrev pub run_number : Attributes → Option ℕ
run_number ad = natural_at RUN_NUMBER.now ad
