-- What a whole run leaves.
use Rattle.std.specs.Prelude.{◌≡◌, ◌⊎◌, ℕ, List, [], ◌∷◌, ◌++◌, take, Bool, true, false, Option, Some, None}
use Rattle.pool_outer.specs.Cause.{Rose}
use Rattle.thin_pool.specs.declared.history.History.{History}
use Rattle.thin_pool.specs.declared.history.Step.{Step}
use Rattle.thin_pool.specs.Histories.{LeadsTo, ends_in_close}
use Rattle.thin_pool.specs.Moving.{EachMoves}
use Rattle.thin_pool.specs.PoolValue.{PoolValue}
use Rattle.thin_pool.specs.Reactions.{opening_pool, pool_after}
use Rattle.thin_pool.specs.Jobs.{has_unfinished}
use Rattle.pool_input.specs.declared.status.Status.{Status}
use Rattle.pool_input.specs.declared.status.Status.TheVariants as status
use Rattle.pool_input.specs.Readings.{AreRead}
use Rattle.pool_master.specs.Runs.{HaveEnded, runs_in, runs_on}
use Rattle.pool_master.specs.Seen.{SpawnerSeen, SinkSeen}
use Rattle.pool_master.specs.Follows.{Follows, HasLaunched, AreUntouched, AtEach}
use Rattle.pool_master.specs.UserLog.{IsUserLog}

-- the pool that a history leads to
abbrev pub last_pool : PoolValue → List Step → PoolValue
last_pool p [] = p
last_pool p (s ∷ ss) = last_pool (pool_after p s.event) ss

-- a job is left in the queue
abbrev pub job_left : PoolValue → Bool
job_left p = has_unfinished p.jobs

abbrev pub ClosesFrom : Option PoolValue → List Step → Bool → Type 0
ClosesFrom None list left = ⊥
ClosesFrom (Some opening) list left = (ends_in_close list ≡ true)
    × (job_left (last_pool opening list) ≡ left)

-- the history ends in a Close, and then a job is left or none is
abbrev pub IsClosed : History → Bool → Type 0
IsClosed history left = ClosesFrom history.opening history.list left

abbrev pub ReplaysFrom : Option PoolValue → List Step → Type 0
ReplaysFrom None list = list ≡ []
ReplaysFrom (Some opening) list = (opening ≡ opening_pool opening.slots)
    × LeadsTo opening list (last_pool opening list)

-- the history begins at the opening of a pool, without a load, and each of its events does what is
-- defined; without a pool it is empty
pub record IsReplay (history : History) : Type 0 where
  pub replays : ReplaysFrom history.opening history.list
  pub no_load : history.load ≡ false

abbrev pub IsSafeFrom : Option PoolValue → List Step → Type 0
IsSafeFrom None list = Unit {0}
IsSafeFrom (Some opening) list = EachMoves opening list

-- each event moves the abstract pool by steps, and each pool of the history is safe
abbrev pub IsSafe : History → Type 0
IsSafe history = IsSafeFrom history.opening history.list

-- nothing was written besides, or a prefix of the history's user log
abbrev pub WritesPart : History → List ℕ → List ℕ → Type 0
WritesPart history old new = (new ≡ old)
    ⊎ ((text : List ℕ) × (n : ℕ) × IsUserLog history text × (new ≡ old ++ take n text))

-- it is the history's user log
pub record WritesAll (history : History) (old new : List ℕ) : Type 0 where
  pub text : List ℕ
  pub is_log : IsUserLog history text
  pub written : new ≡ old ++ text

-- the statuses of a run whose whole log is written: it came to its close, or a disk fault or a
-- limit ended it
abbrev pub IsAllWritten : Status → Type 0
IsAllWritten status.Done = Unit {0}
IsAllWritten status.Stuck = Unit {0}
IsAllWritten status.DiskFault = Unit {0}
IsAllWritten (status.Limit which) = Unit {0}
IsAllWritten _ = ⊥

-- no pool was opened, and nothing has happened
pub record HasNothing (history : History) : Type 0 where
  pub no_opening : history.opening ≡ None
  pub none : history.list ≡ []

-- what a pool's part of a run leaves, whatever its files are: its history beside the clock, the
-- spawners that were first and are now, the output before and after, and the statuses that come of
-- it
pub record PoolRuns {P K : Type 0} (allows : ℕ → Type 0)
    (spawner : P → SpawnerSeen) (first now : List P) (sink : K → SinkSeen) (o q : K)
    (status_is : Status) (history : History) : Type 0 where
  pub replay : IsReplay history
  pub safe : IsSafe history
  pub read : AreRead allows history.list
  pub follows :
      AtEach first now
      (λ m s t. Follows (spawner s) (spawner t) (runs_on m (runs_in history.list)))
  pub untouched : AreUntouched first now (runs_in history.list)
  pub all_launched : (left : Bool) → IsClosed history left
      → AtEach first now (λ m s t. HasLaunched (spawner t) (runs_on m (runs_in history.list)))
  pub all_ended : (left : Bool) → IsClosed history left → HaveEnded (runs_in history.list)
  pub written : (sink o).tells ≡ true → WritesPart history (sink o).written (sink q).written
  pub all_written : (sink o).tells ≡ true → IsAllWritten status_is
      → WritesAll history (sink o).written (sink q).written
  pub done : status_is ≡ status.Done
      → IsClosed history false × ((sink q).faults ≡ (sink o).faults)
  pub done_comes : IsClosed history false → ¬ Rose (sink o).faults (sink q).faults
      → (status_is ≡ status.Done) ⊎ (status_is ≡ status.Memory)
  pub stuck : status_is ≡ status.Stuck
      → IsClosed history true × ((sink q).faults ≡ (sink o).faults)
  pub stuck_comes : IsClosed history true → ¬ Rose (sink o).faults (sink q).faults
      → (status_is ≡ status.Stuck) ⊎ (status_is ≡ status.Memory)
  pub out_fault : status_is ≡ status.OutFault
      → Rose (sink o).faults (sink q).faults × ((left : Bool) × IsClosed history left)

-- how a run ends whose pool was closed, with a job left or not, by the output's count of faults
-- before and after
abbrev pub IsPrinted : Bool → ℕ → ℕ → Status → Type 0
IsPrinted left before now status.Done = (left ≡ false) × (now ≡ before)
IsPrinted left before now status.Stuck = (left ≡ true) × (now ≡ before)
IsPrinted left before now status.OutFault = Rose before now
IsPrinted left before now status.Memory = Unit {0}
IsPrinted left before now _ = ⊥
