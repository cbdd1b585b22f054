use Rattle.std.proofs.Common.{Err, ap, refl, subst, sym, List, ◌∙◌}
use Rattle.pool_rules.specs.Limits.{IsWithin}
use Rattle.pool_tables.specs.declared.refusal.StepError.{StepError}
use Rattle.pool_tables.specs.declared.refusal.StepError.TheVariants as error
use Rattle.queue_tx.specs.Queues.{with_changes}
use Rattle.claim_id.specs.declared.numbers.JobId.{JobId}
use Rattle.pool_state.specs.declared.state.PoolState.{PoolState}
use Rattle.pool_steps.specs.Growing.{HasPlaces}
use Rattle.schedd_steps.proofs.Counted.{submitted_so}
use Rattle.schedd_steps.proofs.Refused.{at_err, is_limit, limit_passed, no_bytes, no_err, not_done, same_error}
use Rattle.schedd_steps.proofs.logged.log_submission.Goals as goal

pub returns : goal.returns
returns c =
    let old = c.args.state.now in
    let e = c.in_ok-bytes.ensures in
    record {
      pool = submitted_so c.args.counts old c.change_queue.new.state c.commit.new.state (with_changes old.queue c.args.queue.change) c.args.cluster c.args.count c.in_ok-bytes.bytes
          c.in_ok-jobs.jobs c.join.new.list c.note_new.new.self e.queue e.bytes c.commit.ensures c.note_new.ensures c.join.ensures c.in_ok-jobs.ensures.items;
      within = subst IsWithin (sym c.commit.ensures) e.limit;
      large = λ is. no_err _ error.Bytes is;
      refused = tt;
      kept = tt;
    }

pub returns-in_err-bytes : goal.returns-in_err-bytes
returns-in_err-bytes c =
    let e = c.in_err-bytes.field-0.0 in
    let r = c.from_residual-in_err-bytes.result in
    let is_e = c.from_residual-in_err-bytes.ensures.1 in
    record {
      pool = not_done _ e r is_e;
      within = not_done _ e r is_e;
      large = λ is. c.in_err-bytes.ensures.large (ap (λ (x : StepError). Err x) (same_error e error.Bytes r is_e is));
      refused = limit_passed e r is_e c.in_err-bytes.ensures.refused;
      kept = at_err r c.in_err-bytes.ensures.kept;
    }

pub returns-in_err-jobs : goal.returns-in_err-jobs
returns-in_err-jobs c =
    let r = c.from_residual.result in
    let memory = c.from_residual.ensures.1 in
    record {
      pool = not_done _ error.Memory r memory;
      within = not_done _ error.Memory r memory;
      large = λ is. no_bytes _ r memory is;
      refused = is_limit r memory;
      kept = at_err r refl;
    }

pub join-requires : goal.join-requires
join-requires c =
    subst (λ (jobs : List JobId). HasPlaces jobs c.in_ok-jobs.jobs)
    (sym (ap (λ (s : PoolState). s.acked) c.commit.ensures ∙ ap (λ (s : PoolState). s.acked) c.in_ok-bytes.ensures.queue)) c.in_ok-jobs.ensures.places
