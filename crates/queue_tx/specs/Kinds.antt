-- What the ad of a proc makes of its job (HTCondor manual, Job ClassAd Attributes, JobStatus).
use Rattle.std.specs.Prelude.{ℤ, pos, negsuc, ◌==◌, ◌||◌, is_some, Option, Some, None, if◌then◌else◌}
use Rattle.ad_value.specs.Content.{integer}
use Rattle.ad_value.specs.declared.names.job.TheConstants.{JOB_STATUS}
use Rattle.ad_value.specs.declared.names.pool.TheConstants.{RUN_CLAIM}
use Rattle.ad_tree.specs.Tree.{Tree, literal}
use Rattle.ad_tree.specs.Ad.{Attributes, lookup}
use Rattle.queue_tx.specs.declared.kind.JobKind.{JobKind}
use Rattle.queue_tx.specs.declared.kind.JobKind.TheVariants.{Idle, Held, Under}

-- what a JobStatus says of a job that is under no claim: 1 and 2 are idle, 5 is held
abbrev pub kind_numbered : ℤ → Option JobKind
kind_numbered (pos n) =
    if n == 1 || n == 2 then Some Idle else (if n == 5 then Some Held else None)
kind_numbered (negsuc n) = None

-- only a literal number counts
abbrev pub status_kind : Tree → Option JobKind
status_kind (literal (integer n)) = kind_numbered n
status_kind e = None

abbrev pub kind_by : Option Tree → Option JobKind
kind_by None = None
kind_by (Some status) = status_kind status

-- a job that has RunClaim is under a claim
abbrev pub kind_of : Attributes → Option JobKind
kind_of ad =
    if is_some (lookup RUN_CLAIM.now ad) then Some Under
    else kind_by (lookup JOB_STATUS.now ad)
