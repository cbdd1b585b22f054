use Rattle.std.proofs.Common.{◌∙◌, List, sym, subst}
use Rattle.std.proofs.lemmas.List.Kept.{IsStrictlySortedBy-filter}
use Rattle.claim_id.specs.declared.numbers.JobId.{JobId}
use Rattle.schedd_plan.specs.LeftOrder.{AreInOrder, job_cmp}
use Rattle.schedd_state.specs.Reopening.{is_under_at}
use Rattle.schedd_core.proofs.reopened.still_left.Goals as goal

pub of-requires : goal.of-requires
of-requires c =
    subst (λ (jobs : List JobId). AreInOrder jobs) (sym (c.deref.ensures.value ∙ c.keep_under.ensures))
    (IsStrictlySortedBy-filter job_cmp (is_under_at c.args.queue.now) c.in_ok-jobs.jobs.items c.in_ok-jobs.ensures.order)
