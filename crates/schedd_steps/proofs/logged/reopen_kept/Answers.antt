use Rattle.std.proofs.Common.{◌≡◌, ℕ, Err, ap, refl, subst, sym, ◌∙◌}
use Rattle.schedd_state.specs.PreparedSchedds.{schedd_after, HasClaimRoom}
use Rattle.pool_state.specs.declared.state.PoolState.{PoolState}
use Rattle.queue_tx.specs.Queues.{with_changes}
use Rattle.schedd_state.specs.Schedds.{ScheddValue}
use Rattle.pool_rules.specs.Deeds.{at_rest}
use Rattle.pool_rules.specs.Limits.{IsWithin}
use Rattle.pool_tables.specs.declared.refusal.StepError.{StepError}
use Rattle.pool_tables.specs.declared.refusal.StepError.TheVariants as error
use Rattle.schedd_steps.specs.Counting.{bytes_after, with_counts}
use Rattle.schedd_steps.proofs.Refused.{at_err, is_limit, limit_passed, no_bytes, no_err, no_ok, not_done, same_error}
use Rattle.schedd_steps.proofs.UnfinishedDone.{back_too_large, back_with, grows_so, undone_so}
use Rattle.schedd_steps.proofs.logged.reopen_kept.Goals as goal

pub returns-clause-within : goal.returns-clause-within
returns-clause-within c = subst IsWithin (sym c.commit.ensures) c.in_ok-prepared.ensures.limit

pub returns-clause-large : goal.returns-clause-large
returns-clause-large c = λ is. no_err _ error.Bytes is

pub returns-in_err-prepared : goal.returns-in_err-prepared
returns-in_err-prepared c =
    let e = c.in_err-prepared.field-0.0 in
    let r = c.from_residual-in_err-prepared.result in
    let is_e = c.from_residual-in_err-prepared.ensures.1 in
    record {
      back = no_ok _ e r is_e;
      within = not_done _ e r is_e;
      large = λ is.
          back_too_large c.in_ok-queue.field-0 c.args.state.now.pending c.args.state.now c.args.reading c.in_ok-queue.ensures
          (c.in_err-prepared.ensures.large (ap (λ (x : StepError). Err x) (same_error e error.Bytes r is_e is)));
      refused = limit_passed e r is_e c.in_err-prepared.ensures.refused;
      kept = at_err r c.in_err-prepared.ensures.kept;
    }

pub returns-in_err-queue : goal.returns-in_err-queue
returns-in_err-queue c =
    let r = c.from_residual.result in
    let memory = c.from_residual.ensures.1 in
    record {
      back = no_ok _ error.Memory r memory;
      within = not_done _ error.Memory r memory;
      large = λ is. no_bytes _ r memory is;
      refused = is_limit r memory;
      kept = at_err r refl;
    }

pub returns-clause-back : goal.returns-clause-back
returns-clause-back c =
    let old = c.args.state.now in
    let deed = c.in_ok-queue.field-0 in
    let d = deed.counts in
    let q = with_changes old.queue deed.queue.change in
    let p = c.in_ok-prepared.field-0.prepared in
    let b = c.in_ok-prepared.field-0.bytes in
    let v = schedd_after p old.schedd in
    let x = c.commit-step.new.self in
    let queue = c.in_ok-prepared.ensures.queue in
    let schedd : x ≡ v =
    c.commit-step.ensures.schedd ∙ ap (λ (s : PoolState). schedd_after p s.schedd) c.commit.ensures ∙ ap (λ (s : PoolState). schedd_after p s.schedd) queue in (
      back_with deed old.pending old (record c.commit.new.state { schedd = x }) c.args.reading v c.in_ok-queue.ensures c.in_ok-prepared.ensures.schedd
          (
          ap (λ (s : PoolState). at_rest (record s { schedd = x })) c.commit.ensures
          ∙ ap (λ (s : PoolState). at_rest (record (with_counts d b s.queue s) { schedd = x })) queue
          ∙ ap (λ (n : ℕ). at_rest (record (with_counts d n q old) { schedd = x })) c.in_ok-prepared.ensures.bytes
          ∙ ap (λ (y : ScheddValue). at_rest (record (with_counts d (bytes_after q old) q old) { schedd = y })) schedd),
      c.nothing_asked.ensures,
    )

pub go_on_back-requires-clause-undo : goal.go_on_back-requires-clause-undo
go_on_back-requires-clause-undo c = undone_so c.in_ok-queue.field-0 c.args.state.now.pending c.args.state.now c.in_ok-queue.ensures

pub go_on_back-requires-clause-growth : goal.go_on_back-requires-clause-growth
go_on_back-requires-clause-growth c = grows_so c.in_ok-queue.field-0 c.args.state.now.pending c.args.state.now c.in_ok-queue.ensures

pub commit-step-requires : goal.commit-step-requires
commit-step-requires c =
    subst (λ (v : ScheddValue). HasClaimRoom c.in_ok-prepared.field-0.prepared v)
    (sym (ap (λ (s : PoolState). s.schedd) c.commit.ensures ∙ ap (λ (s : PoolState). s.schedd) c.in_ok-prepared.ensures.queue)) c.in_ok-prepared.ensures.claims
