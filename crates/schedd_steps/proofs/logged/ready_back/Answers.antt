use Rattle.std.proofs.Common.{inl}
use Rattle.pool_tables.specs.declared.refusal.StepError.TheVariants as error
use Rattle.schedd_state.specs.PreparedSchedds.{schedd_after}
use Rattle.schedd_steps.proofs.Refused.{is_limit, limit_passed, no_bytes, no_err, no_ok}
use Rattle.schedd_steps.proofs.logged.ready_back.Goals as goal

pub returns : goal.returns
returns c = record {
  schedd = c.in_ok-prepared.ensures.schedd;
  claims = c.in_ok-prepared.ensures.room;
  bytes = c.in_ok-bytes.ensures.same;
  limit = c.in_ok-bytes.ensures.within;
  large = λ is. no_err _ error.Bytes is;
  refused = tt;
}

pub returns-in_err-bytes : goal.returns-in_err-bytes
returns-in_err-bytes c =
    let e = c.in_err-bytes.field-0.0 in
    let r = c.from_residual-in_err-bytes.result in
    let is_e = c.from_residual-in_err-bytes.ensures.1 in
    record {
      schedd = no_ok _ e r is_e;
      claims = no_ok _ e r is_e;
      bytes = no_ok _ e r is_e;
      limit = no_ok _ e r is_e;
      large = λ is. record { back = schedd_after c.in_ok-prepared.prepared c.args.state.now.schedd; is = c.in_ok-prepared.ensures.schedd; above = c.in_err-bytes.ensures.large };
      refused = limit_passed e r is_e (inl c.in_err-bytes.ensures.refused);
    }

pub returns-in_err-prepared : goal.returns-in_err-prepared
returns-in_err-prepared c =
    let r = c.from_residual.result in
    let memory = c.from_residual.ensures.1 in
    record {
      schedd = no_ok _ error.Memory r memory;
      claims = no_ok _ error.Memory r memory;
      bytes = no_ok _ error.Memory r memory;
      limit = no_ok _ error.Memory r memory;
      large = λ is. no_bytes _ r memory is;
      refused = is_limit r memory;
    }
