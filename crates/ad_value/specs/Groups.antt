-- Names of attributes by what they are for.
use Rattle.std.specs.Prelude.{ℕ, List, [], ◌∷◌}
use Rattle.ad_value.specs.declared.names.job.TheConstants.{CLUSTER_ID, PROC_ID, Q_DATE, JOB_STATUS, CMD, ARGS, ARGUMENTS, IWD, IN, OUT, ERR, USER_LOG, JOB_PRIO}
use Rattle.ad_value.specs.declared.names.pool.TheConstants.{HOLD_REASON, EXIT_BY_SIGNAL, EXIT_CODE, EXIT_SIGNAL, RUN_CLAIM, RUN_NUMBER, LEASE_UNTIL}

-- what a job has only while it runs
abbrev pub run_names : List (List ℕ)
run_names = RUN_CLAIM.now ∷ RUN_NUMBER.now ∷ LEASE_UNTIL.now ∷ []

-- what the pool itself sets
abbrev pub pool_names : List (List ℕ)
pool_names =
    JOB_STATUS.now ∷ HOLD_REASON.now
    ∷ EXIT_BY_SIGNAL.now ∷ EXIT_CODE.now ∷ EXIT_SIGNAL.now
    ∷ run_names

-- where jobs that ask for the same may differ
abbrev pub names_beside_request : List (List ℕ)
names_beside_request =
    CLUSTER_ID.now ∷ PROC_ID.now ∷ Q_DATE.now
    ∷ CMD.now ∷ ARGS.now ∷ ARGUMENTS.now
    ∷ IWD.now ∷ IN.now ∷ OUT.now ∷ ERR.now ∷ USER_LOG.now
    ∷ JOB_PRIO.now ∷ JOB_STATUS.now ∷ HOLD_REASON.now
    ∷ run_names
