-- What the clauses of a run say of its spawner and of its output, each as one value.
use Rattle.std.specs.Prelude.{ℕ, List, Bool}
use Rattle.pool_outer.specs.declared.spawner.ChildState.{ChildState}
use Rattle.pool_outer.specs.declared.spawner.Launch.{Launch}

pub record SpawnerSeen : Type 0 where
  pub tells : Bool
  pub count : ℕ
  pub launches : List Launch
  pub seen : ℕ → ChildState
  pub killed : ℕ → Bool
  pub faults : ℕ

-- a spawner, by the members of its trait
abbrev pub spawner_seen : {P : Type 0} → (P → Bool) → (P → ℕ) → (P → List Launch)
    → (P → ℕ → ChildState) → (P → ℕ → Bool) → (P → ℕ) → P → SpawnerSeen
spawner_seen tells count launches seen killed faults s = record {
  tells = tells s;
  count = count s;
  launches = launches s;
  seen = seen s;
  killed = killed s;
  faults = faults s;
}

pub record SinkSeen : Type 0 where
  pub tells : Bool
  pub written : List ℕ
  pub faults : ℕ

-- an output, by the members of its trait
abbrev pub sink_seen : {K : Type 0} → (K → Bool) → (K → List ℕ) → (K → ℕ) → K → SinkSeen
sink_seen tells written faults out = record {
  tells = tells out;
  written = written out;
  faults = faults out;
}
