use Rattle.std.proofs.Common.{◌∙◌, Some, ap, sym}
use Rattle.pool_mail.specs.declared.end.End.{End}
use Rattle.pool_master.specs.Runs.{is_not_started}
use Rattle.pool_master.proofs.Walks.{ended_here, did_start}
use Rattle.pool_master.proofs.user_log.never_starts.Goals as goal

pub returns-in-NotStarted : goal.returns-in-NotStarted
returns-in-NotStarted c =
    sym (ended_here c.args.job c.in-Ended.other c.in-Ended.end c.in-Ended.reading c.args.steps.now c.loop-step.step-index c.step-item.result c.eq.result c.loop-step-test.true c.step-item.is c.in-Ended.is c.eq.ensures c.if-eq.true c.loop-step.invariant
    ∙ ap (λ (e : End). is_not_started (Some e)) c.in-NotStarted.is)

pub returns-in_default-matches : goal.returns-in_default-matches
returns-in_default-matches c =
    sym (ended_here c.args.job c.in-Ended.other c.in-Ended.end c.in-Ended.reading c.args.steps.now c.loop-step.step-index c.step-item.result c.eq.result c.loop-step-test.true c.step-item.is c.in-Ended.is c.eq.ensures c.if-eq.true c.loop-step.invariant
    ∙ did_start c.in-Ended.end c.in_default-matches.not-NotStarted)
