-- What a pool counts, when it opens and by a step.
use Rattle.std.proofs.Common.{◌≤◌, Result, Ok, Err, sym, subst}
use Rattle.std.specs.Prelude.{IfOk, OnOk}
use Rattle.pool_core.specs.KeptPools.{IsKeptPool}
use Rattle.pool_parts.specs.declared.answer.Stepped.{Stepped}
use Rattle.pool_parts.specs.declared.event.Event.{Event}
use Rattle.pool_parts.specs.declared.size.TheConstants.{MAX_BYTES}
use Rattle.pool_rules.specs.Happens.{Reacts}
use Rattle.pool_rules.specs.Limits.{IsWithin}
use Rattle.pool_rules.specs.Counted.{CountsBytes}
use Rattle.pool_rules.proofs.Counting.{event_counts}
use Rattle.pool_rules.proofs.Readers.{some_reads}
use Rattle.pool_state.specs.Openings.{CanOpen, IsOpenedBy}
use Rattle.pool_state.specs.declared.opening.Opening.{Opening}
use Rattle.pool_state.specs.declared.state.PoolState.{PoolState}
use Rattle.pool_tables.specs.declared.refusal.StepError.{StepError}

pub opening_within : (o : Opening) (s : PoolState) → CanOpen o → IsOpenedBy o s → IsWithin s
opening_within o s can opened = subst (λ n. n ≤ MAX_BYTES) (sym opened.bytes) can.bytes

pub step_counts : (e : Event) (s new : PoolState) (result : Result Stepped StepError) → IsKeptPool s → IfOk result (λ r. Reacts s e r new) → OnOk result (CountsBytes e s new)
step_counts e s new (Ok r) k reacts = event_counts some_reads.0 some_reads.1 k.protocol s new e r k.kept k.counted reacts
step_counts e s new (Err x) k reacts = tt
