-- What an event of the schedd would make of a pool where that has too many bytes of ads.
use Rattle.std.proofs.Common.{ℕ, ◌+◌, ◌<◌, Bool, [], Option, Some, None, IsSomeAnd, refl}
use Rattle.claim_id.specs.declared.numbers.JobId.{JobId}
use Rattle.pool_parts.specs.Sizes.{mails_count}
use Rattle.pool_parts.specs.declared.size.TheConstants.{MAX_BYTES}
use Rattle.pool_rules.specs.Deeds.{at_rest, schedd_acts, schedd_answer}
use Rattle.pool_rules.specs.Limits.{IsTooLarge}
use Rattle.pool_rules.specs.Schedds.{ScheddLooks, ScheddReceives, ScheddTicks, after_look, after_receipt_of}
use Rattle.pool_state.specs.declared.state.PoolState.{PoolState}
use Rattle.pool_tables.specs.declared.sent.Sent.{Sent}
use Rattle.queue_tx.specs.Queues.{IsQueue}
use Rattle.schedd_core.specs.Checks.{after_check}
use Rattle.schedd_core.specs.Rows.{after_mail as schedd_mail}
use Rattle.schedd_state.specs.Schedds.{ScheddValue}
use Rattle.schedd_core.specs.Ticks.{IsTicked}
use Rattle.schedd_state.specs.declared.answer.ScheddStep.{ScheddStep}
use Rattle.schedd_steps.proofs.MarkMoves.{mark_moves}

pub ticks_too_large : (s : PoolState) (reading : ℕ) (v : ScheddValue) (step : ScheddStep) → IsTicked s.schedd s.queue reading v step → MAX_BYTES < s.counts.bytes + mails_count step.mails
    → IsTooLarge (ScheddTicks (at_rest s) reading)
ticks_too_large s reading v step ticked above = record {
  new = schedd_acts v step [] (at_rest s);
  answer = schedd_answer (at_rest s) step;
  makes = record { schedd = v; step = step; ticked = ticked; pool = refl; answer = refl };
  above = above;
}

pub looks_too_large : (s : PoolState) (job : JobId) (reading : ℕ) → IsQueue s.queue → MAX_BYTES < s.counts.bytes + mails_count (after_check s.schedd s.queue job reading).step.mails
    → IsTooLarge (ScheddLooks (at_rest s) job reading)
looks_too_large s job reading ordered above =
    let a = after_check s.schedd s.queue job reading in
    let moved = mark_moves s.queue a.schedd.checked a.schedd.passed ordered in
    record {
      new = after_look a moved.0 (at_rest s);
      answer = schedd_answer (at_rest s) a.step;
      makes = record { mark = moved.0; passes = moved.1; pool = refl; answer = refl };
      above = above;
    }

pub receipt_too_large : (index : ℕ) (known : Bool) (reading : ℕ) (m : Option Sent) (s : PoolState)
    → IsSomeAnd m (λ sent. MAX_BYTES < s.counts.bytes + mails_count (schedd_mail s.schedd s.queue sent.mail reading).step.mails)
    → IsTooLarge (λ new r. IsSomeAnd m (λ sent. ScheddReceives (at_rest s) index sent.mail known reading new r))
receipt_too_large index known reading (Some sent) s above =
    let a = schedd_mail s.schedd s.queue sent.mail reading in
    record {
      new = after_receipt_of index sent.mail known a (at_rest s);
      answer = schedd_answer (at_rest s) a.step;
      makes = record { pool = refl; answer = refl };
      above = above;
    }
receipt_too_large index known reading None s above = absurd above
