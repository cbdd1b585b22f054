-- A pool that a holder can have: it stands before the first event, and one that opens is such a pool.
use Rattle.std.proofs.Common.{◌≡◌, ℕ, ◌*◌, ◌^◌, ◌≤◌, ◌<◌, List, [], length, Option, Some, None, IsSome, IsSomeAnd, slice_get, true≢false, refl, sym, ◌∙◌, ap, subst, arith}
use Rattle.std.specs.Prelude.{option_map}
use Rattle.std.proofs.lemmas.Option.{slice_get-get_or, slice_get_within}
use Rattle.pool_core.specs.KeptPools.{IsKeptPool}
use Rattle.pool_outer.specs.declared.gate.Daemon.{Daemon}
use Rattle.pool_outer.specs.declared.gate.Daemon.TheVariants.{Schedd, Startd, Matchmaker}
use Rattle.desk.specs.Standing.{HasRoll, RunsStand, Stands, numbered}
use Rattle.pool_rules.proofs.PoolOpening.{so_many, startd_rests, startds_counted}
use Rattle.pool_state.specs.Openings.{CanOpen, IsOpenedBy, opening_startds}
use Rattle.pool_state.specs.declared.opening.Opening.{Opening}
use Rattle.pool_state.specs.declared.state.PoolState.{PoolState}
use Rattle.pool_tables.specs.DaemonTables.{DaemonsValue, first_startds}
use Rattle.pool_tables.specs.declared.states.DaemonState.{DaemonState}
use Rattle.receipt_roll.specs.Values.{RollMark}
use Rattle.startd_core.specs.Sound.{IsSound}
use Rattle.startd_core.specs.Startds.{StartdValue}
use Rattle.startd_slot.specs.SlotStates.{is_run}
use Rattle.desk.specs.SolePasses.{CanHold, HasHolder, IsAtRest, IsFree, StandsHere}

-- ---- before the first event
-- no run was launched, and none is on a slot
first_runs : (v : StartdValue) → IsSound v → IsAtRest v → RunsStand [] v
first_runs v sound rest = record {
  sound = sound;
  spent = λ run was. absurd (true≢false (sym was));
  launched = λ place slot run at here. absurd (true≢false (sym (sym (ap (λ o. is_run o run) (rest place slot at)) ∙ here)));
}

none_few : (n : ℕ) → 0 ≤ n
none_few n = omega arith

pub first_stands : (holder : Option Daemon) (s : PoolState) → CanHold holder s → IsKeptPool s → StandsHere holder [] s
first_stands holder s can kept = record { there = can.there; roll = can.roll; stands = by holder can.free }
  where
    by : (holder : Option Daemon) → IsFree holder s → Stands holder [] s
    by None free = tt
    by (Some Schedd) free = record { few = none_few s.next_tx; unlogged = ap (option_map numbered) (sym can.logged) }
    by (Some (Startd machine)) free = λ v at. first_runs v (kept.kept.linked.startds machine v at).sound (free v at)
    by (Some Matchmaker) free = tt

-- ---- at the opening
-- a startd of the pool is among the first ones
within : (xs : List DaemonState) (machine : ℕ) → IsSome (slice_get xs machine) → machine < length xs
within xs machine there = by (slice_get xs machine) refl there
  where
    by : (o : Option DaemonState) → slice_get xs machine ≡ o → IsSome o → machine < length xs
    by None at there = absurd (true≢false (sym there))
    by (Some x) at there = slice_get_within xs machine x at

-- so its roll of ends is there
rolled : (o : Opening) (s : PoolState) (machine : ℕ) → CanOpen o → IsOpenedBy o s → HasHolder (Some (Startd machine)) s → HasRoll (Some (Startd machine)) s
rolled o s machine can opened there =
    let startds : s.daemons.startds ≡ first_startds (length (opening_startds o)) (o.pool_boot * 2 ^ 32) o.allow.crashes = ap (λ (d : DaemonsValue). d.startds) opened.daemons in
    let few : machine < length s.daemons.startds = within s.daemons.startds machine there in
    let count : length s.daemons.startds ≡ length s.end_marks =
    ap (λ (xs : List DaemonState). length xs) startds ∙ (so_many (length (opening_startds o)) (o.pool_boot * 2 ^ 32) o.allow.crashes ∙ (startds_counted o can ∙ ap (λ (xs : List RollMark). length xs) (sym opened.end_marks))) in
    let at = slice_get-get_or s.end_marks machine s.log_mark (subst (λ n. machine < n) count few) in
    subst (λ (x : Option RollMark). IsSomeAnd x (λ mark. Unit {0})) (sym at) tt

pub can_be_held : (o : Opening) (s : PoolState) (holder : Option Daemon) → CanOpen o → IsOpenedBy o s → HasHolder holder s → CanHold holder s
can_be_held o s holder can opened there = record { there = there; roll = roll holder there; logged = opened.pending; free = free holder }
  where
    roll : (holder : Option Daemon) → HasHolder holder s → HasRoll holder s
    roll None there = tt
    roll (Some Schedd) there = tt
    roll (Some (Startd machine)) there = rolled o s machine can opened there
    roll (Some Matchmaker) there = tt

    free : (holder : Option Daemon) → IsFree holder s
    free None = tt
    free (Some Schedd) = tt
    free (Some (Startd machine)) = λ v at. startd_rests o machine v can (sym (ap (λ (vs : List StartdValue). slice_get vs machine) opened.machines) ∙ at)
    free (Some Matchmaker) = tt
