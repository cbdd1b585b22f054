use Rattle.std.proofs.Common.{rules, ◌≡◌, None, Some, ap, sym, ◌∙◌, slice_get, List, subst}
use Rattle.claim_id.specs.declared.numbers.JobId.{JobId}
use Rattle.schedd_plan.specs.LeftOrder.{IsNextJob}
use Rattle.schedd_plan.proofs.LeftLists.{none_first, some_first, first_is_next}
use Rattle.schedd_plan.proofs.left.LeftJobs.first.Goals as goal

pub returns-in_err-job-clause-first : goal.returns-in_err-job-clause-first
returns-in_err-job-clause-first c =
    let none : c.from_residual.result ≡ None = search rules in
    none ∙ none_first c.self.inside.jobs c.in_err-job.ensures.first ∙ ap (λ jobs. slice_get jobs 0) c.self.view_is

pub returns-in_err-job-clause-next : goal.returns-in_err-job-clause-next
returns-in_err-job-clause-next c =
    let none : c.from_residual.result ≡ None = search rules in
    subst (IsNextJob None c.args.self.now) (sym none)
    (subst (λ (jobs : List JobId). IsNextJob None jobs None) c.self.view_is
    (first_is_next c.self.inside.jobs c.in_err-job.ensures.sorted None c.in_err-job.ensures.first))

pub returns-clause-first : goal.returns-clause-first
returns-clause-first c =
    some_first c.self.inside.jobs (c.in_ok-job.job.now, c.in_ok-job.field-0-1.now) c.in_ok-job.ensures.first
    ∙ ap (λ jobs. slice_get jobs 0) c.self.view_is

pub returns-clause-next : goal.returns-clause-next
returns-clause-next c =
    subst (λ (jobs : List JobId). IsNextJob None jobs (Some c.in_ok-job.job.now)) c.self.view_is
    (first_is_next c.self.inside.jobs c.in_ok-job.ensures.sorted (Some (c.in_ok-job.job.now, c.in_ok-job.field-0-1.now)) c.in_ok-job.ensures.first)
