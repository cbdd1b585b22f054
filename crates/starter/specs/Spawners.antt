-- What contracts say of a spawner, as one value, and what each call of it leaves.
use Rattle.std.specs.Prelude.{◌≡◌, ◌≢◌, ◌⊎◌, ℕ, ◌+◌, ◌≤◌, List, [], ◌∷◌, ◌++◌, Bool, true, Option, Some, None, if◌then◌else◌}
use Rattle.pool_mail.specs.declared.end.End.{End}
use Rattle.pool_mail.specs.declared.end.End.TheVariants.{Exited, Signalled, NotStarted}
use Rattle.pool_outer.specs.Cause.{Rose}
use Rattle.pool_outer.specs.Children.{Sees, SameSightings, Sightings}
use Rattle.pool_outer.specs.declared.spawner.ChildState.{ChildState}
use Rattle.pool_outer.specs.declared.spawner.ChildState.TheVariants as child_state
use Rattle.pool_outer.specs.declared.spawner.Launch.{Launch}

-- a spawner, as its trait speaks of it
pub record SpawnerValue : Type 0 where
  pub tells : Bool
  pub count : ℕ
  pub launches : List Launch
  pub seen : Sightings
  pub killed : ℕ → Bool
  pub faults : ℕ

-- the value of a spawner, by the members of its trait
abbrev pub spawner_value : {P : Type 0} → (P → Bool) → (P → ℕ) → (P → List Launch)
    → (P → Sightings) → (P → ℕ → Bool) → (P → ℕ) → P → SpawnerValue
spawner_value tells count launches seen killed faults p = record {
  tells = tells p;
  count = count p;
  launches = launches p;
  seen = seen p;
  killed = killed p;
  faults = faults p;
}

-- the state in which a child is seen that ended so
abbrev pub state_of : End → ChildState
state_of (Exited code) = child_state.Exited code
state_of (Signalled signal) = child_state.Signalled signal
state_of NotStarted = child_state.Running

-- who is to be killed is as it was
abbrev pub SameKilled : SpawnerValue → SpawnerValue → Type 0
SameKilled s t = (k : ℕ) → t.killed k ≡ s.killed k

-- the same children, and no fewer faults
pub record SameChildren (s t : SpawnerValue) : Type 0 where
  pub told : t.tells ≡ s.tells
  pub later : s.faults ≤ t.faults
  pub count : t.count ≡ s.count
  pub launches : s.tells ≡ true → t.launches ≡ s.launches

-- a launch: one child more where it was started, and nothing else
pub record Starts (what : Launch) (s t : SpawnerValue) (started : Bool) : Type 0 where
  pub told : t.tells ≡ s.tells
  pub later : s.faults ≤ t.faults
  pub count : t.count ≡ (if started then s.count + 1 else s.count)
  pub launches : s.tells ≡ true
      → t.launches ≡ (if started then s.launches ++ what ∷ [] else s.launches)
  pub seen : s.tells ≡ true → SameSightings s.seen t.seen
  pub killed : s.tells ≡ true → SameKilled s t

-- a look found no end: the child was running at that look, or the look failed; or it found this end
abbrev pub Finds : ℕ → SpawnerValue → SpawnerValue → Option End → Type 0
Finds number s t None = (s.tells ≡ true → Sees number child_state.Running s.seen t.seen)
    ⊎ ((s.tells ≡ true → SameSightings s.seen t.seen) × Rose s.faults t.faults)
Finds number s t (Some end) =
    (end ≢ NotStarted) × (s.tells ≡ true → Sees number (state_of end) s.seen t.seen)

pub record Looks (number : ℕ) (s t : SpawnerValue) (found : Option End) : Type 0 where
  pub same : SameChildren s t
  pub killed : s.tells ≡ true → SameKilled s t
  pub finds : Finds number s t found

-- a kill: the child is to be killed from then on, or the call failed; all others are as they were
pub record Kills (number : ℕ) (s t : SpawnerValue) : Type 0 where
  pub same : SameChildren s t
  pub seen : s.tells ≡ true → SameSightings s.seen t.seen
  pub done : (s.tells ≡ true → t.killed number ≡ true) ⊎ Rose s.faults t.faults
  pub others : s.tells ≡ true → (k : ℕ) → k ≢ number → t.killed k ≡ s.killed k
