-- What a history has to do with the run's spawners.
use Rattle.std.specs.Prelude.{◌≡◌, ◌≢◌, ◌⊎◌, ℕ, ◌≤◌, ◌+◌, List, [], ◌++◌, length, true, false, Option, Some, IfSome, slice_get}
use Rattle.std.specs.Option.{option_map}
use Rattle.pool_outer.specs.Cause.{Rose, RoseBy}
use Rattle.pool_outer.specs.declared.spawner.Launch.{Launch}
use Rattle.pool_mail.specs.declared.end.End.{End}
use Rattle.pool_mail.specs.declared.end.End.TheVariants.{NotStarted}
use Rattle.pool_master.specs.Runs.{JobRun, runs_on, child_runs, possible_runs, not_started_count, run_launches, child_state, HaveEnded, IsLaunched, EndAsSeen, child_launch}
use Rattle.pool_master.specs.Seen.{SpawnerSeen}

-- what a spawner that tells was asked by the runs of its machine, and what was seen of its children
pub record Serves (spawner : SpawnerSeen) (runs : List JobRun) : Type 0 where
  pub launched : IsLaunched runs spawner.launches
  pub ended : EndAsSeen runs spawner.seen
  pub spared : (child : ℕ) → spawner.killed child ≡ false

-- as many children were launched as runs did start, or as may have
abbrev pub IsChildCount : List JobRun → ℕ → Type 0
IsChildCount runs count = (count ≡ length (child_runs runs))
    ⊎ (count ≡ length (possible_runs runs))

-- all of it, of a machine's spawner as it was first and as it is
pub record Follows (first spawner : SpawnerSeen) (runs : List JobRun) : Type 0 where
  pub told : spawner.tells ≡ first.tells
  pub served : first.tells ≡ true → Serves spawner runs
  pub counted : IsChildCount runs spawner.count
  pub not_started : RoseBy (not_started_count runs) first.faults spawner.faults

-- each run of the machine that did start was launched, and no other child
pub record HasLaunched (spawner : SpawnerSeen) (runs : List JobRun) : Type 0 where
  pub launched : spawner.tells ≡ true → spawner.launches ≡ run_launches (child_runs runs)
  pub counted : spawner.count ≡ length (child_runs runs)

-- ---- all spawners: machine m has the one at place m

abbrev pub spawner_at : {P : Type 0} → (P → SpawnerSeen) → List P → ℕ → Option SpawnerSeen
spawner_at spawner spawners machine = option_map spawner (slice_get spawners machine)

-- no run is under way
pub record IsBetween {P : Type 0} (spawner : P → SpawnerSeen) (spawners : List P)
    (runs : List JobRun) : Type 0 where
  pub ended : HaveEnded runs
  pub launched :
      (machine : ℕ) → IfSome (spawner_at spawner spawners machine)
      (λ s. HasLaunched s (runs_on machine runs))

-- each spawner that followed some runs goes on doing so
abbrev pub EachGoesOn : {P : Type 0} → (P → SpawnerSeen) → List P → List P → List JobRun
    → List JobRun → Type 0
EachGoesOn spawner old new before after = (machine : ℕ) (first : SpawnerSeen)
    → IfSome (spawner_at spawner old machine) (λ s. Follows first s (runs_on machine before))
    → IfSome (spawner_at spawner new machine) (λ s. Follows first s (runs_on machine after))

-- the spawners of machines without runs are as they were
abbrev pub AreUntouched : {P : Type 0} → List P → List P → List JobRun → Type 0
AreUntouched first now runs = (machine : ℕ) → runs_on machine runs ≡ []
    → slice_get now machine ≡ slice_get first machine

-- they stay so
abbrev pub StayUntouched : {P : Type 0} → List P → List P → List JobRun → List JobRun → Type 0
StayUntouched {P} old new before after = (first : List P)
    → AreUntouched first old before → AreUntouched first new after

-- of machine m's spawner, as it was handed over and as it is left
abbrev pub AtEach : {P : Type 0} → List P → List P → (ℕ → P → P → Type 0) → Type 0
AtEach {P} before after claim = (machine : ℕ) (s t : P) → slice_get before machine ≡ Some s
    → slice_get after machine ≡ Some t → claim machine s t

-- ---- one run on one spawner

-- what became of the spawner of that machine
abbrev pub RunsOne : {P : Type 0} → (P → SpawnerSeen) → ℕ → List P → List P
    → (SpawnerSeen → SpawnerSeen → Type 0) → Type 0
RunsOne {P} spawner machine old new claim = (s t : P) → slice_get old machine ≡ Some s
    → slice_get new machine ≡ Some t → claim (spawner s) (spawner t)

-- what a launch and the looks at its child do to a spawner
pub record RunsChild (what : Launch) (end : End) (old now : SpawnerSeen) : Type 0 where
  pub told : now.tells ≡ old.tells
  pub all : old.tells ≡ true → length old.launches ≡ old.count
  pub counted : now.count ≡ old.count + length (child_launch what end)
  pub launched : old.tells ≡ true → now.launches ≡ old.launches ++ child_launch what end
  pub looked : old.tells ≡ true → end ≢ NotStarted → now.seen old.count ≡ child_state end
  pub others : old.tells ≡ true → (k : ℕ) → k ≢ old.count → now.seen k ≡ old.seen k
  pub spared : old.tells ≡ true → (k : ℕ) → now.killed k ≡ old.killed k
  pub not_started : end ≡ NotStarted → Rose old.faults now.faults
  pub later : old.faults ≤ now.faults

-- and what a launch does for which there is no memory
pub record RunsNoChild (old now : SpawnerSeen) : Type 0 where
  pub told : now.tells ≡ old.tells
  pub all : old.tells ≡ true → length old.launches ≡ old.count
  pub counted : now.count ≡ old.count
  pub launched : old.tells ≡ true → now.launches ≡ old.launches
  pub others : old.tells ≡ true → (k : ℕ) → k ≢ old.count → now.seen k ≡ old.seen k
  pub spared : old.tells ≡ true → (k : ℕ) → now.killed k ≡ old.killed k
  pub later : old.faults ≤ now.faults
