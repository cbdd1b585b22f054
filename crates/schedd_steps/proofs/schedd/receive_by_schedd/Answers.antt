use Rattle.std.proofs.Common.{◌≤◌, ℕ, Err, ap, refl, slice_get, subst, sym}
use Rattle.pool_state.specs.declared.state.PoolState.{PoolState}
use Rattle.pool_parts.specs.declared.size.TheConstants.{MAX_BYTES}
use Rattle.pool_tables.specs.declared.refusal.StepError.{StepError}
use Rattle.pool_tables.specs.declared.refusal.StepError.TheVariants as error
use Rattle.pool_steps.proofs.Posting.{receivable}
use Rattle.schedd_steps.proofs.Received.{received_so}
use Rattle.schedd_steps.proofs.Refused.{at_err, is_limit, limit_passed, no_bytes, no_err, no_ok, not_done, same_error}
use Rattle.schedd_steps.proofs.TooLarge.{receipt_too_large}
use Rattle.schedd_steps.proofs.schedd.receive_by_schedd.Goals as goal

pub returns-clause-within : goal.returns-clause-within
returns-clause-within c = subst (λ (n : ℕ). n ≤ MAX_BYTES) (sym c.in_ok-stepped.ensures.bytes) c.in_ok-deed.ensures.limit

pub returns-clause-large : goal.returns-clause-large
returns-clause-large c = λ is. no_err _ error.Bytes is

pub returns-in_err-stepped : goal.returns-in_err-stepped
returns-in_err-stepped c =
    let r = c.from_residual-in_err-stepped.result in
    let memory = c.from_residual-in_err-stepped.ensures.1 in
    record {
      received = no_ok _ error.Memory r memory;
      within = not_done _ error.Memory r memory;
      large = λ is. no_bytes _ r memory is;
      refused = is_limit r memory;
      kept = at_err r c.in_err-stepped.ensures.kept;
    }

pub returns-in_err-deed : goal.returns-in_err-deed
returns-in_err-deed c =
    let e = c.in_err-deed.field-0.0 in
    let r = c.from_residual.result in
    let is_e = c.from_residual.ensures.1 in
    record {
      received = no_ok _ e r is_e;
      within = not_done _ e r is_e;
      large = λ is.
          receipt_too_large c.args.index c.args.known c.args.reading (slice_get c.args.state.now.mails.sent c.args.index) c.args.state.now
          (c.in_err-deed.ensures.large (ap (λ (x : StepError). Err x) (same_error e error.Bytes r is_e is)));
      refused = limit_passed e r is_e c.in_err-deed.ensures.refused;
      kept = at_err r refl;
    }

pub receive-requires : goal.receive-requires
receive-requires c =
    receivable c.args.state.now.mails.sent c.in_ok-deed.deed.prepared.step.mails c.take_deed.new.state.mails.sent c.args.index (ap (λ (s : PoolState). s.mails.sent) c.in_ok-stepped.ensures.pool) c.requires

pub returns-clause-received : goal.returns-clause-received
returns-clause-received c =
    received_so c.args.index c.args.known c.args.reading (slice_get c.args.state.now.mails.sent c.args.index) c.args.state.now c.take_deed.new.state c.in_ok-deed.deed c.receive.new.self c.in_ok-stepped.stepped
    c.in_ok-deed.ensures.ready c.in_ok-stepped.ensures.pool c.receive.ensures c.in_ok-stepped.ensures.answer
