use Rattle.std.proofs.Common.{Err, ap, refl}
use Rattle.pool_rules.specs.Deeds.{at_rest}
use Rattle.pool_state.specs.declared.state.PoolState.{PoolState}
use Rattle.pool_tables.specs.declared.refusal.StepError.{StepError}
use Rattle.pool_tables.specs.declared.refusal.StepError.TheVariants as error
use Rattle.schedd_steps.proofs.Refused.{at_err, is_limit, limit_passed, no_bytes, no_ok, not_done, same_error, no_err}
use Rattle.schedd_steps.proofs.UnfinishedDone.{logged_submission, plan_too_large, submission_too_large, grows_so, undone_so}
use Rattle.schedd_steps.proofs.logged.take_logged.Goals as goal

pub returns-in_err-what : goal.returns-in_err-what
returns-in_err-what c =
    let r = c.from_residual.result in
    let memory = c.from_residual.ensures.1 in
    record {
      logged = no_ok _ error.Memory r memory;
      within = not_done _ error.Memory r memory;
      large = λ is. no_bytes _ r memory is;
      refused = is_limit r memory;
      kept = at_err r refl;
    }

pub returns-in_err-log_submission-in-Submission : goal.returns-in_err-log_submission-in-Submission
returns-in_err-log_submission-in-Submission c =
    let e = c.in_err-log_submission-in-Submission.field-0.0 in
    let r = c.from_residual-in_err-log_submission-in-Submission.result in
    let is_e = c.from_residual-in_err-log_submission-in-Submission.ensures.1 in
    record {
      logged = no_ok _ e r is_e;
      within = not_done _ e r is_e;
      large = λ is.
          submission_too_large c.in_ok-what.field-0 c.in-Submission.cluster c.in-Submission.count c.args.state.now.pending c.args.state.now c.in-Submission.is c.in_ok-what.ensures
          (c.in_err-log_submission-in-Submission.ensures.large (ap (λ (x : StepError). Err x) (same_error e error.Bytes r is_e is)));
      refused = limit_passed e r is_e c.in_err-log_submission-in-Submission.ensures.refused;
      kept = at_err r (ap (λ (s : PoolState). at_rest s) c.in_err-log_submission-in-Submission.ensures.kept);
    }

pub returns-in_err-log_plan-in-Plan : goal.returns-in_err-log_plan-in-Plan
returns-in_err-log_plan-in-Plan c =
    let e = c.in_err-log_plan-in-Plan.field-0.0 in
    let r = c.from_residual-in_err-log_plan-in-Plan.result in
    let is_e = c.from_residual-in_err-log_plan-in-Plan.ensures.1 in
    record {
      logged = no_ok _ e r is_e;
      within = not_done _ e r is_e;
      large = λ is.
          plan_too_large c.in_ok-what.field-0 _ c.args.state.now.pending c.args.state.now c.in-Plan.is c.in_ok-what.ensures
          (c.in_err-log_plan-in-Plan.ensures.large (ap (λ (x : StepError). Err x) (same_error e error.Bytes r is_e is)));
      refused = limit_passed e r is_e c.in_err-log_plan-in-Plan.ensures.refused;
      kept = at_err r c.in_err-log_plan-in-Plan.ensures.kept;
    }

pub returns-in_ok-log_submission-in-Submission-clause-logged : goal.returns-in_ok-log_submission-in-Submission-clause-logged
returns-in_ok-log_submission-in-Submission-clause-logged c =
    logged_submission c.in_ok-what.field-0 c.in-Submission.cluster c.in-Submission.count c.args.state.now.pending c.args.state.now c.log_submission.new.state c.nothing_asked.result c.in-Submission.is c.in_ok-what.ensures
    c.in_ok-log_submission-in-Submission.ensures.pool c.nothing_asked.ensures

pub log_submission-requires-clause-undo : goal.log_submission-requires-clause-undo
log_submission-requires-clause-undo c = undone_so c.in_ok-what.field-0 c.args.state.now.pending c.args.state.now c.in_ok-what.ensures

pub log_submission-requires-clause-growth : goal.log_submission-requires-clause-growth
log_submission-requires-clause-growth c = grows_so c.in_ok-what.field-0 c.args.state.now.pending c.args.state.now c.in_ok-what.ensures

pub log_plan-requires-clause-undo : goal.log_plan-requires-clause-undo
log_plan-requires-clause-undo c = undone_so c.in_ok-what.field-0 c.args.state.now.pending c.args.state.now c.in_ok-what.ensures

pub log_plan-requires-clause-growth : goal.log_plan-requires-clause-growth
log_plan-requires-clause-growth c = grows_so c.in_ok-what.field-0 c.args.state.now.pending c.args.state.now c.in_ok-what.ensures

pub returns-in_ok-log_submission-in-Submission-clause-large : goal.returns-in_ok-log_submission-in-Submission-clause-large
returns-in_ok-log_submission-in-Submission-clause-large c = λ is. no_err _ error.Bytes is

pub returns-in_ok-log_plan-in-Plan-clause-large : goal.returns-in_ok-log_plan-in-Plan-clause-large
returns-in_ok-log_plan-in-Plan-clause-large c = λ is. no_err _ error.Bytes is
