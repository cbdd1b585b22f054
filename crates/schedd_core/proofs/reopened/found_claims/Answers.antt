use Rattle.std.proofs.Common.{List, sym, ◌∙◌}
use Rattle.std.proofs.lemmas.List.{at_drop_all}
use Rattle.schedd_plan.specs.declared.runs.KeptRun.{KeptRun}
use Rattle.schedd_state.specs.Reopening.{claims_behind}
use Rattle.schedd_core.proofs.FoundJobs.{run_gone_over}
use Rattle.schedd_core.proofs.reopened.found_claims.Goals as goal

pub loop-run-preserved : goal.loop-run-preserved
loop-run-preserved c =
    run_gone_over c.args.queue.now c.args.runs.now c.loop-run.run-index _
    c.loop-run.claims.items c.push_claim.new.claims.items c.loop-run-test.true c.in_ok-push_claim.ensures
    ∙ c.loop-run.invariant

pub returns : goal.returns
returns c =
    sym (at_drop_all (λ (rs : List KeptRun). claims_behind c.args.queue.now rs c.loop-run.claims.items) c.args.runs.now c.loop-run.run-index c.loop-run-test.false)
    ∙ c.loop-run.invariant
