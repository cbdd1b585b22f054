-- What always holds of a pool.
use Rattle.std.specs.Prelude.{◌≡◌, ℕ, max, List, slice_get, Option, Some, IfSome}
use Rattle.pool_mail.specs.Mails.{receivers_of}
use Rattle.pool_outer.specs.declared.gate.Daemon.TheVariants.{Startd}
use Rattle.pool_parts.specs.declared.pending.Pending.{Pending}
use Rattle.pool_parts.specs.declared.pending.Unfinished.{Unfinished}
use Rattle.pool_parts.specs.declared.pending.Unfinished.TheVariants.{Submission, Plan}
use Rattle.pool_view.specs.Protocol.{Protocol}
use Rattle.pool_view.specs.ProtocolMove.{ProtocolMove, MayAll, all_steps, protocol_after_all}
use Rattle.pool_state.specs.declared.state.PoolState.{PoolState}
use Rattle.pool_state.specs.Readings.{boot_of}
use Rattle.pool_tables.specs.DaemonTables.{DaemonsValue, daemon_state}
use Rattle.pool_tables.specs.declared.sent.Sent.{Sent}
use Rattle.pool_view.specs.AbstractPool.{IsIn}
use Rattle.pool_view.specs.AbstractStep.{AbstractStep}
use Rattle.queue_tx.specs.Operations.{Operation}
use Rattle.schedd_state.specs.DueChecks.{IsPassed}
use Rattle.schedd_plan.specs.Plans.{plan_ops}
use Rattle.startd_core.specs.Startds.{StartdValue}
use Rattle.pool_rules.specs.Linked.{IsLinked}
use Rattle.pool_rules.specs.Parts.{parts_of}
use Rattle.pool_rules.specs.Steps.{AreSteps}

-- a plan that is to be logged has its own transaction
abbrev pub IsTxOf : Unfinished → List Operation → Type 0
IsTxOf (Submission cluster count) tx = Unit {0}
IsTxOf (Plan p) tx = tx ≡ plan_ops p

abbrev pub IsPendingTx : Option Pending → Type 0
IsPendingTx pending = IfSome pending (λ p. IsTxOf p.what p.tx)

-- each mail goes to one of those for whom it is
abbrev pub AreAddressed : List Sent → Type 0
AreAddressed sent = (s : Sent) → IsIn s sent → IsIn s.to (receivers_of s.mail)

-- each startd is in the boot of its machine
abbrev pub AreInBoot : DaemonsValue → List StartdValue → Type 0
AreInBoot daemons vs = (machine : ℕ) (v : StartdValue) → slice_get vs machine ≡ Some v
    → boot_of (daemon_state (Startd machine) daemons) ≡ v.machine.boot

-- The parts of a pool are linked to the protocol of its daemons, and what else its events rest on.
pub record IsKept (p : Protocol) (s : PoolState) : Type 0 where
  pub linked : IsLinked p (parts_of s)
  pub pending : IsPendingTx s.pending
  pub addressed : AreAddressed s.mails.sent
  -- each job up to the schedd's mark was looked at
  pub passed : IsPassed s.queue s.schedd
  pub boots : AreInBoot s.daemons s.machines

-- moves of the protocol that may be made, and whose steps are such ones, lead to one to which the
-- pool is kept
pub record GoesOn (p : Protocol) (P : AbstractStep → Type 0) (new : PoolState) : Type 0 where
  pub moves : List ProtocolMove
  pub may : MayAll p moves
  pub steps : AreSteps P (all_steps p moves)
  pub kept : IsKept (protocol_after_all p moves) new

-- a reading was taken
abbrev pub at_reading : ℕ → PoolState → PoolState
at_reading reading s = record s { latest = max s.latest reading }
