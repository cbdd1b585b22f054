-- A pool that cases drive.
use Rattle.std.specs.Prelude.{◌≡◌, ℕ, ◌<◌, nat_lt, Bool, true, length, is_some}
use Rattle.pool_cases.specs.Marks.{HasMarks, RollMarks}
use Rattle.pool_outer.specs.declared.gate.Daemon.{Daemon}
use Rattle.pool_outer.specs.declared.gate.Daemon.TheVariants.{Schedd, Startd, Matchmaker}
use Rattle.pool_state.specs.declared.state.PoolState.{PoolState}
use Rattle.pool_tables.specs.DaemonTables.{daemon_state}

-- a pool of so many machines has the daemon
abbrev pub is_of : Daemon → ℕ → Bool
is_of Schedd machines = true
is_of (Startd machine) machines = nat_lt machine machines
is_of Matchmaker machines = true

-- it knows the cases' rolls, and there is one for each of its machines
pub record IsDriven (m : RollMarks) (s : PoolState) : Type 0 where
  pub marks : HasMarks m s
  pub startds : (machine : ℕ) → machine < length m.ends
      → is_some (daemon_state (Startd machine) s.daemons) ≡ true
