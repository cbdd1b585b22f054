-- The ads of a load's jobs (HTCondor manual, "Job ClassAd Attributes").
use Rattle.std.specs.Prelude.{ℕ, zero, suc, ◌+◌, ◌*◌, ◌/◌, ◌%◌, List, [], ◌∷◌, ◌++◌, codes}
use Rattle.ad_value.specs.declared.names.job.TheConstants.{ARGS, CLUSTER_ID, CMD, ERR, IN, IWD, JOB_PRIO, JOB_STATUS, JOB_UNIVERSE, OUT, OWNER, PROC_ID, Q_DATE, REQUEST_CPUS, REQUEST_DISK, REQUEST_MEMORY}
use Rattle.ad_value.specs.declared.names.matching.TheConstants.{RANK, REQUIREMENTS}
use Rattle.ad_rows.specs.Requests.{enough}
use Rattle.ad_rows.specs.Rows.{integer_literal, text_literal}
use Rattle.ad_tree.specs.Ad.{Attributes}
use Rattle.claim_id.specs.declared.numbers.JobId.{JobId}

-- the ad of a job that asks for so many MiB
abbrev pub load_ad : JobId → List ℕ → ℕ → ℕ → Attributes
load_ad job owner now memory =
    (CLUSTER_ID.now, integer_literal job.cluster)
    ∷ (PROC_ID.now, integer_literal job.proc)
    ∷ (OWNER.now, text_literal owner)
    ∷ (Q_DATE.now, integer_literal now)
    ∷ (JOB_UNIVERSE.now, integer_literal 5)
    ∷ (JOB_STATUS.now, integer_literal 1)
    ∷ (CMD.now, text_literal (codes "/bin/true"))
    ∷ (ARGS.now, text_literal [])
    ∷ (IWD.now, text_literal [])
    ∷ (IN.now, text_literal [])
    ∷ (OUT.now, text_literal [])
    ∷ (ERR.now, text_literal [])
    ∷ (JOB_PRIO.now, integer_literal 0)
    ∷ (REQUIREMENTS.now, enough)
    ∷ (RANK.now, integer_literal 0)
    ∷ (REQUEST_CPUS.now, integer_literal 1)
    ∷ (REQUEST_MEMORY.now, integer_literal memory)
    ∷ (REQUEST_DISK.now, integer_literal 1024)
    ∷ []

abbrev pub next_number : ℕ → ℕ
next_number x = (x * 1103515245 + 12345) % 2147483648

-- a load's number after so many jobs
unfoldable pub number_after : ℕ → ℕ → ℕ
number_after number zero = number
number_after number (suc jobs) = next_number (number_after number jobs)

-- how many MiB a job asks for
abbrev pub memory_of : ℕ → ℕ
memory_of x = 1 + x / 65536 % 256

-- the ad of a load's job of that number in its cluster, from 0
abbrev pub job_of_load : ℕ → ℕ → List ℕ → ℕ → ℕ → Attributes
job_of_load number cluster owner now proc =
    load_ad (record { cluster = cluster; proc = proc }) owner now
    (memory_of (number_after number (proc + 1)))

-- the ads of the first jobs of a load
unfoldable pub load_ads : ℕ → ℕ → List ℕ → ℕ → ℕ → List Attributes
load_ads number cluster owner now zero = []
load_ads number cluster owner now (suc jobs) =
    load_ads number cluster owner now jobs ++ job_of_load number cluster owner now jobs ∷ []
