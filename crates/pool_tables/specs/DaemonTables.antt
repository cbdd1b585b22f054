-- Which daemons are up, and what is refused of those that are not.
use Rattle.std.specs.Prelude.{ℕ, zero, suc, ◌-◌, nat_lt, List, [], ◌∷◌, ◌++◌, Bool, true, false, not, ◌==◌, length, count_by, position, slice_get, slice_set, Option, Some, None, if◌then◌else◌}
use Rattle.pool_outer.specs.declared.gate.Daemon.{Daemon}
use Rattle.pool_outer.specs.declared.gate.Daemon.TheVariants.{Schedd, Startd, Matchmaker}
use Rattle.pool_tables.specs.declared.refusal.StepError.{StepError}
use Rattle.pool_tables.specs.declared.refusal.StepError.TheVariants.{Down, Up, OldBoot, NotDue}
use Rattle.pool_tables.specs.declared.states.DaemonState.{DaemonState}

pub record DaemonsValue : Type 0 where
  pub schedd : DaemonState
  pub startds : List DaemonState  -- by machine
  pub matchmaker : DaemonState

abbrev pub same_daemon : Daemon → Daemon → Bool
same_daemon Schedd Schedd = true
same_daemon Schedd (Startd other) = false
same_daemon Schedd Matchmaker = false
same_daemon (Startd machine) Schedd = false
same_daemon (Startd machine) (Startd other) = machine == other
same_daemon (Startd machine) Matchmaker = false
same_daemon Matchmaker Schedd = false
same_daemon Matchmaker (Startd other) = false
same_daemon Matchmaker Matchmaker = true

-- ---- at the opening

-- a daemon may crash once for each time that it is listed
abbrev pub first_state : ℕ → Daemon → List Daemon → DaemonState
first_state boot who crashes =
    record { boot = boot; up = true; crashes = count_by (same_daemon who) crashes }

abbrev pub first_startds : ℕ → ℕ → List Daemon → List DaemonState
first_startds zero boot crashes = []
first_startds (suc machine) boot crashes =
    first_startds machine boot crashes ++ first_state boot (Startd machine) crashes ∷ []

abbrev pub first_daemons : ℕ → ℕ → List Daemon → DaemonsValue
first_daemons machines boot crashes = record {
  schedd = first_state boot Schedd crashes;
  startds = first_startds machines boot crashes;
  matchmaker = first_state boot Matchmaker crashes;
}

-- ---- how they stand

abbrev pub daemon_state : Daemon → DaemonsValue → Option DaemonState
daemon_state Schedd d = Some d.schedd
daemon_state (Startd machine) d = slice_get d.startds machine
daemon_state Matchmaker d = Some d.matchmaker

abbrev pub is_up : Option DaemonState → Bool
is_up None = false
is_up (Some s) = s.up

abbrev pub is_down : DaemonState → Bool
is_down s = not s.up

abbrev pub startd_at : Option ℕ → Option Daemon → Option Daemon
startd_at None other = other
startd_at (Some machine) other = Some (Startd machine)

-- the schedd, a startd in the order of the machines, or the matchmaker
abbrev pub first_down : DaemonsValue → Option Daemon
first_down d = if d.schedd.up then startd_at (position is_down d.startds)
    (if d.matchmaker.up then None else Some Matchmaker)
    else Some Schedd

-- ---- what is refused

abbrev pub boot_refusal : ℕ → ℕ → Option StepError
boot_refusal asked current = if asked == current then None else Some (OldBoot asked current)

abbrev pub state_refusal : Daemon → ℕ → Option DaemonState → Option StepError
state_refusal who boot None = Some (Down who)
state_refusal who boot (Some s) = if s.up then boot_refusal boot s.boot else Some (Down who)

-- an event of a daemon that is down, or in another boot
abbrev pub daemon_refusal : Daemon → ℕ → DaemonsValue → Option StepError
daemon_refusal who boot d = state_refusal who boot (daemon_state who d)

abbrev pub crash_refusal_at : Daemon → Option DaemonState → Option StepError
crash_refusal_at who None = Some (Down who)
crash_refusal_at who (Some s) =
    if s.up then (if s.crashes == 0 then Some NotDue else None) else Some (Down who)

-- a crash of a daemon that is down, or that has crashed as often as it may
abbrev pub crash_refusal : Daemon → DaemonsValue → Option StepError
crash_refusal who d = crash_refusal_at who (daemon_state who d)

abbrev pub reopen_refusal_at : Daemon → Option DaemonState → Option StepError
reopen_refusal_at who None = Some (Down who)
reopen_refusal_at who (Some s) = if s.up then Some (Up who) else None

-- a daemon that is up doesn't come back
abbrev pub reopen_refusal : Daemon → DaemonsValue → Option StepError
reopen_refusal who d = reopen_refusal_at who (daemon_state who d)

-- ---- what changes

abbrev pub with_startd : ℕ → DaemonState → List DaemonState → List DaemonState
with_startd machine s startds =
    if nat_lt machine (length startds) then slice_set startds machine s else startds

abbrev pub set_state : Daemon → DaemonState → DaemonsValue → DaemonsValue
set_state Schedd s d = record d { schedd = s }
set_state (Startd machine) s d = record d { startds = with_startd machine s d.startds }
set_state Matchmaker s d = record d { matchmaker = s }

-- the daemon stands so, where it is of the pool
abbrev pub with_state : Daemon → Option DaemonState → DaemonsValue → DaemonsValue
with_state who None d = d
with_state who (Some s) d = set_state who s d

abbrev pub crashed : Option DaemonState → Option DaemonState
crashed None = None
crashed (Some s) = Some (record s { up = false; crashes = s.crashes - 1 })

abbrev pub reopened : ℕ → Option DaemonState → Option DaemonState
reopened boot None = None
reopened boot (Some s) = Some (record s { boot = boot; up = true })
