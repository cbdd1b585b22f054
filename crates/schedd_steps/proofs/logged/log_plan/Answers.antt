use Rattle.std.proofs.Common.{◌≡◌, ℕ, Err, List, ap, subst, sym, ◌∙◌}
use Rattle.schedd_state.specs.PreparedSchedds.{schedd_after, HasClaimRoom}
use Rattle.pool_mail.specs.declared.mail.Mail.{Mail}
use Rattle.pool_state.specs.declared.state.PoolState.{PoolState}
use Rattle.pool_tables.specs.MailLists.{MailsValue}
use Rattle.queue_tx.specs.Queues.{with_changes}
use Rattle.schedd_state.specs.declared.answer.ScheddStep.{ScheddStep}
use Rattle.schedd_state.specs.Schedds.{ScheddValue}
use Rattle.pool_rules.specs.Deeds.{posts, rested}
use Rattle.pool_rules.specs.Limits.{IsWithin}
use Rattle.pool_tables.specs.declared.refusal.StepError.{StepError}
use Rattle.pool_tables.specs.declared.refusal.StepError.TheVariants as error
use Rattle.schedd_steps.specs.Counting.{bytes_planned, logged_by, with_counts}
use Rattle.pool_steps.proofs.Posting.{posted_all}
use Rattle.schedd_steps.proofs.Refused.{at_err, limit_passed, no_err, not_done, same_error}
use Rattle.schedd_steps.proofs.logged.log_plan.Goals as goal

pub returns-clause-within : goal.returns-clause-within
returns-clause-within c = subst IsWithin (sym c.commit.ensures) c.in_ok-prepared.ensures.limit

pub returns-clause-large : goal.returns-clause-large
returns-clause-large c = λ is. no_err _ error.Bytes is

pub returns-in_err-prepared : goal.returns-in_err-prepared
returns-in_err-prepared c =
    let e = c.in_err-prepared.field-0.0 in
    let r = c.from_residual.result in
    let is_e = c.from_residual.ensures.1 in
    record {
      pool = not_done _ e r is_e;
      within = not_done _ e r is_e;
      large = λ is. c.in_err-prepared.ensures.large (ap (λ (x : StepError). Err x) (same_error e error.Bytes r is_e is));
      refused = limit_passed e r is_e c.in_err-prepared.ensures.refused;
      kept = at_err r c.in_err-prepared.ensures.kept;
    }

pub returns-clause-pool : goal.returns-clause-pool
returns-clause-pool c =
    let old = c.args.state.now in
    let end = c.commit.new.state in
    let d = c.args.counts in
    let q = with_changes old.queue c.args.queue.change in
    let a = logged_by q old in
    let p = c.in_ok-prepared.field-0.prepared in
    let b = c.in_ok-prepared.field-0.bytes in
    let x = c.commit-step.new.self in
    let rm = rested c.put_all.new.self in
    let mails = c.into_parts-mails.result.0 in
    let queue = c.in_ok-prepared.ensures.queue in
    let are : mails ≡ a.step.mails =
    ap (λ t. t.0) c.into_parts-mails.ensures ∙ ap (λ (s : ScheddStep). s.mails) c.commit-step.ensures.step ∙ ap (λ (s : ScheddStep). s.mails) c.in_ok-prepared.ensures.step in
    let sent : rm ≡ posts a.step.mails old.mails =
    ap rested c.put_all.ensures
    ∙ posted_all mails end.mails
    ∙ ap (λ (s : PoolState). posts mails s.mails) c.commit.ensures
    ∙ ap (λ (s : PoolState). posts mails s.mails) queue
    ∙ ap (λ (ms : List Mail). posts ms old.mails) are in
    let schedd : x ≡ a.schedd =
    c.commit-step.ensures.schedd
    ∙ ap (λ (s : PoolState). schedd_after p s.schedd) c.commit.ensures
    ∙ ap (λ (s : PoolState). schedd_after p s.schedd) queue
    ∙ c.in_ok-prepared.ensures.schedd in
    ap (λ (s : PoolState). record s { schedd = x; mails = rm }) c.commit.ensures
    ∙ ap (λ (s : PoolState). record (with_counts d b s.queue s) { schedd = x; mails = rm }) queue
    ∙ ap (λ (n : ℕ). record (with_counts d n q old) { schedd = x; mails = rm }) c.in_ok-prepared.ensures.bytes
    ∙ ap (λ (v : ScheddValue). record (with_counts d (bytes_planned q old) q old) { schedd = v; mails = rm }) schedd
    ∙ ap (λ (m : MailsValue). record (with_counts d (bytes_planned q old) q old) { schedd = a.schedd; mails = m }) sent

pub commit-step-requires : goal.commit-step-requires
commit-step-requires c =
    subst (λ (v : ScheddValue). HasClaimRoom c.in_ok-prepared.field-0.prepared v)
    (sym (ap (λ (s : PoolState). s.schedd) c.commit.ensures ∙ ap (λ (s : PoolState). s.schedd) c.in_ok-prepared.ensures.queue)) c.in_ok-prepared.ensures.claims
