use Rattle.std.proofs.Common.{◌≡◌, true, Option, IfSome, sym, subst}
use Rattle.claim_id.specs.declared.numbers.JobId.{JobId}
use Rattle.schedd_state.specs.DueChecks.{is_check_due, job_of_key, IsFirstDue, IsPassed}
use Rattle.schedd_state.specs.Schedds.{ScheddValue}
use Rattle.schedd_state.proofs.DueFirst.{job_due, job_first}
use Rattle.schedd_state.proofs.schedd.Schedd.first_check.Goals as goal

pub returns-clause-due : goal.returns-clause-due
returns-clause-due c =
    let q = c.args.queue.now in
    let s = c.self.inside in
    let w : ScheddValue = record {
      settings = s.settings;
      next_run = s.next_run;
      left = s.left;
      claims = s.claims.items;
      runs = s.runs.items;
      checked = s.checked;
      passed = s.passed;
      waiting = s.waiting;
    } in
    subst (λ (o : Option JobId). IfSome o (λ job. is_check_due c.args.self.now q job c.args.reading ≡ true)) (sym c.job_of_key.ensures)
    (subst (λ (v : ScheddValue). IfSome (job_of_key c.first_due.result) (λ job. is_check_due v q job c.args.reading ≡ true)) c.self.view_is
    (job_due w q c.args.reading c.first_due.result c.first_due.ensures.due))

pub returns-clause-first : goal.returns-clause-first
returns-clause-first c =
    let q = c.args.queue.now in
    let s = c.self.inside in
    let w : ScheddValue = record {
      settings = s.settings;
      next_run = s.next_run;
      left = s.left;
      claims = s.claims.items;
      runs = s.runs.items;
      checked = s.checked;
      passed = s.passed;
      waiting = s.waiting;
    } in
    subst (λ (o : Option JobId). IsPassed q c.args.self.now → IsFirstDue c.args.self.now q c.args.reading o) (sym c.job_of_key.ensures)
    (subst (λ (v : ScheddValue). IsPassed q v → IsFirstDue v q c.args.reading (job_of_key c.first_due.result)) c.self.view_is
    (λ to. job_first w q c.args.reading c.first_due.result (c.first_due.ensures.first to)))
