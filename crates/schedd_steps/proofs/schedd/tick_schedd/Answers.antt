use Rattle.std.proofs.Common.{◌∙◌, ◌+◌, ◌<◌, ◌≤◌, ℕ, Err, List, ap, refl, subst, sym}
use Rattle.claim_id.specs.declared.numbers.JobId.{JobId}
use Rattle.pool_parts.specs.Sizes.{mails_count}
use Rattle.pool_parts.specs.declared.size.TheConstants.{MAX_BYTES}
use Rattle.pool_tables.specs.declared.refusal.StepError.{StepError}
use Rattle.pool_tables.specs.declared.refusal.StepError.TheVariants as error
use Rattle.schedd_state.specs.declared.prepared.PreparedSchedd.{PreparedSchedd}
use Rattle.schedd_state.specs.PreparedSchedds.{schedd_after}
use Rattle.schedd_core.specs.Ticks.{IsTicked}
use Rattle.pool_rules.specs.Deeds.{schedd_acts}
use Rattle.schedd_steps.proofs.DeedReady.{begun_for, bytes_for, claims_for}
use Rattle.schedd_steps.proofs.Refused.{at_err, is_limit, limit_passed, no_bytes, no_err, no_ok, not_done, same_error}
use Rattle.schedd_steps.proofs.TooLarge.{ticks_too_large}
use Rattle.schedd_steps.proofs.schedd.tick_schedd.Goals as goal

pub returns : goal.returns
returns c =
    let old = c.args.state.now in
    let p = c.in_ok-deed.deed.prepared in
    let taken = c.in_ok-stepped.ensures in
    record {
      ticked = record {
        schedd = schedd_after p old.schedd;
        step = p.step;
        ticked = subst (λ (q : PreparedSchedd). IsTicked old.schedd old.queue c.args.reading (schedd_after q old.schedd) q.step) (sym c.in_ok-deed.ensures.prepared) c.in_ok-prepared.ensures.ticked;
        pool = taken.pool ∙ ap (λ (jobs : List JobId). schedd_acts (schedd_after p old.schedd) p.step jobs old) c.in_ok-deed.ensures.ordered;
        answer = taken.answer;
      };
      within = subst (λ (n : ℕ). n ≤ MAX_BYTES) (sym taken.bytes) c.in_ok-deed.ensures.limit;
      large = λ is. no_err _ error.Bytes is;
      refused = tt;
      kept = tt;
    }

pub returns-in_err-stepped : goal.returns-in_err-stepped
returns-in_err-stepped c =
    let r = c.from_residual-in_err-stepped.result in
    let memory = c.from_residual-in_err-stepped.ensures.1 in
    record {
      ticked = no_ok _ error.Memory r memory;
      within = not_done _ error.Memory r memory;
      large = λ is. no_bytes _ r memory is;
      refused = is_limit r memory;
      kept = at_err r c.in_err-stepped.ensures.kept;
    }

pub returns-in_err-deed : goal.returns-in_err-deed
returns-in_err-deed c =
    let old = c.args.state.now in
    let p = c.in_ok-prepared.prepared in
    let e = c.in_err-deed.field-0.0 in
    let r = c.from_residual-in_err-deed.result in
    let is_e = c.from_residual-in_err-deed.ensures.1 in
    record {
      ticked = no_ok _ e r is_e;
      within = not_done _ e r is_e;
      large = λ is.
          let above : MAX_BYTES < old.counts.bytes + mails_count p.step.mails =
          c.in_err-deed.ensures.large (ap (λ (x : StepError). Err x) (same_error e error.Bytes r is_e is)) in
          ticks_too_large old c.args.reading (schedd_after p old.schedd) p.step c.in_ok-prepared.ensures.ticked above;
      refused = limit_passed e r is_e c.in_err-deed.ensures.refused;
      kept = at_err r refl;
    }

pub returns-in_err-prepared : goal.returns-in_err-prepared
returns-in_err-prepared c =
    let r = c.from_residual.result in
    let memory = c.from_residual.ensures.1 in
    record {
      ticked = no_ok _ error.Memory r memory;
      within = not_done _ error.Memory r memory;
      large = λ is. no_bytes _ r memory is;
      refused = is_limit r memory;
      kept = at_err r refl;
    }

pub take_deed-requires-clause-claims : goal.take_deed-requires-clause-claims
take_deed-requires-clause-claims c = claims_for c.in_ok-prepared.prepared c.in_ok-deed.deed.prepared c.args.state.now.schedd c.in_ok-deed.ensures.prepared c.in_ok-prepared.ensures.room

pub take_deed-requires-clause-begun : goal.take_deed-requires-clause-begun
take_deed-requires-clause-begun c = begun_for c.in_ok-prepared.prepared c.in_ok-deed.deed.prepared c.args.state.now.next_tx c.in_ok-deed.deed.begun c.in_ok-deed.ensures.prepared c.in_ok-deed.ensures.begun

pub take_deed-requires-clause-bytes : goal.take_deed-requires-clause-bytes
take_deed-requires-clause-bytes c = bytes_for c.in_ok-prepared.prepared c.in_ok-deed.deed.prepared c.args.state.now.counts.bytes c.in_ok-deed.deed.bytes c.in_ok-deed.ensures.prepared c.in_ok-deed.ensures.bytes
