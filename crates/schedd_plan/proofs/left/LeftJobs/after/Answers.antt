use Rattle.std.proofs.Common.{rules, ◌≡◌, None, Some, sym, List, subst}
use Rattle.claim_id.specs.declared.numbers.JobId.{JobId}
use Rattle.schedd_plan.specs.LeftOrder.{IsNextJob}
use Rattle.schedd_plan.proofs.LeftLists.{after_is_next}
use Rattle.schedd_plan.proofs.left.LeftJobs.after.Goals as goal

pub returns-in_err-next-clause-next : goal.returns-in_err-next-clause-next
returns-in_err-next-clause-next c =
    let none : c.from_residual.result ≡ None = search rules in
    subst (IsNextJob (Some c.args.job) c.args.self.now) (sym none)
    (subst (λ (jobs : List JobId). IsNextJob (Some c.args.job) jobs None) c.self.view_is
    (after_is_next c.args.job c.self.inside.jobs c.in_err-next.ensures.sorted None c.in_err-next.ensures.first))

pub returns-clause-next : goal.returns-clause-next
returns-clause-next c =
    subst (λ (jobs : List JobId). IsNextJob (Some c.args.job) jobs (Some c.in_ok-next.next.now)) c.self.view_is
    (after_is_next c.args.job c.self.inside.jobs c.in_ok-next.ensures.sorted (Some (c.in_ok-next.next.now, c.in_ok-next.field-0-1.now)) c.in_ok-next.ensures.first)
