-- The entries so far, and whatever the other jobs' are, are those of all jobs.
use Rattle.std.proofs.Common.{◌-◌, ◌++◌, ℕ, List, string_bytes}
use Rattle.pool_master.specs.UserLog.{AreEntries}
use Rattle.pool_master.proofs.user_log.entries.Given as goal

abbrev pub invariant-procs : goal.invariant-procs
invariant-procs l = (more : List ℕ) → AreEntries l.cluster l.proc (l.count - l.proc) l.reading more → AreEntries l.cluster 0 l.count l.reading (string_bytes l.text ++ more)
