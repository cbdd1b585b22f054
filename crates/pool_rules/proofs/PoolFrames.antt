-- What is counted of a pool doesn't matter to what is kept; and moves one after the other.
use Rattle.std.proofs.Common.{ℕ, max, Bool, List, [], ◌∷◌, ◌++◌, sym, subst}
use Rattle.pool_rules.proofs.Going.{after_append, may_append}
use Rattle.pool_rules.proofs.ScheddKept.{time_linked}
use Rattle.pool_rules.specs.Parts.{parts_of}
use Rattle.pool_view.specs.Protocol.{Protocol}
use Rattle.pool_view.specs.ProtocolMove.{ProtocolMove, PassTime, MayAll, all_steps, protocol_after_all}
use Rattle.pool_state.specs.declared.state.Counts.{Counts}
use Rattle.pool_state.specs.declared.state.PoolState.{PoolState}
use Rattle.pool_view.specs.AbstractStep.{AbstractStep, Time}
use Rattle.pool_rules.specs.Kept.{IsKept, GoesOn, at_reading}
use Rattle.pool_rules.specs.Steps.{AreSteps}
use Rattle.pool_rules.proofs.StepKinds.{step_before, no_steps, steps_append, wider_steps}

-- ---- counts, the number of events, and whether the pool is closed
pub aside_kept : (p : Protocol) (s : PoolState) (c : Counts) (n : ℕ) (closed : Bool) → IsKept p s → IsKept p (record s { counts = c; events = n; closed = closed })
aside_kept p s c n closed k = record { linked = k.linked; pending = k.pending; addressed = k.addressed; passed = k.passed; boots = k.boots }

-- ---- moves
pub staying : (p : Protocol) (P : AbstractStep → Type 0) (s : PoolState) → IsKept p s → GoesOn p P s
staying p P s k = record { moves = []; may = tt; steps = no_steps P; kept = k }

pub going_on : (p : Protocol) (P : AbstractStep → Type 0) (ms : List ProtocolMove) (new : PoolState) → MayAll p ms → AreSteps P (all_steps p ms) → GoesOn (protocol_after_all p ms) P new → GoesOn p P new
going_on p P ms new may steps on = record {
  moves = ms ++ on.moves;
  may = may_append p ms on.moves may on.may;
  steps = steps_append P p ms on.moves steps on.steps;
  kept = subst (λ q. IsKept q new) (sym (after_append p ms on.moves)) on.kept;
}

pub aside_goes : (p : Protocol) (P : AbstractStep → Type 0) (s : PoolState) (c : Counts) (n : ℕ) (closed : Bool) → GoesOn p P s → GoesOn p P (record s { counts = c; events = n; closed = closed })
aside_goes p P s c n closed on = record { moves = on.moves; may = on.may; steps = on.steps; kept = aside_kept (protocol_after_all p on.moves) s c n closed on.kept }

-- the steps may be of more kinds
pub goes_of_more : (p : Protocol) (P Q : AbstractStep → Type 0) (s : PoolState) → ((k : AbstractStep) → P k → Q k) → GoesOn p P s → GoesOn p Q s
goes_of_more p P Q s more on = record { moves = on.moves; may = on.may; steps = wider_steps P Q (all_steps p on.moves) more on.steps; kept = on.kept }

-- a reading is taken first
pub read_on : (p : Protocol) (P : AbstractStep → Type 0) (s new : PoolState) (reading : ℕ) → P (Time (max s.latest reading)) → IsKept p s
    → ((q : Protocol) → IsKept q (at_reading reading s) → GoesOn q P new) → GoesOn p P new
read_on p P s new reading time k rest =
    let t = time_linked p (parts_of s) reading k.linked in
    let moment : ℕ = max s.latest reading in
    let ms : List ProtocolMove = PassTime moment ∷ [] in
    going_on p P ms new t.may (step_before P (Time moment) [] time (no_steps P)) (rest (protocol_after_all p ms) (record { linked = t.linked; pending = k.pending; addressed = k.addressed; passed = k.passed; boots = k.boots }))
