use Rattle.std.proofs.Common.{◌<◌, ◌^◌, sym, subst}
use Rattle.submit_file.specs.declared.statement.Statement.{Statement}
use Rattle.submit_file.specs.Errors.{UnlessMemory}
use Rattle.submit_file.specs.JobMacros.{variable_in, AreJobMacros}
use Rattle.submit_file.specs.OneJob.{common}
use Rattle.submit_file.specs.SubmittedJobs.{AddsJobs, items_of}
use Rattle.submit_file.proofs.JobMacros.{are_blocked, job_spared}
use Rattle.submit_file.proofs.copies.add_jobs.Goals as goal

pub add_planned-requires-clause-reading : goal.add_planned-requires-clause-reading
add_planned-requires-clause-reading c = subst (λ (s : Statement). s.heading.now < 2 ^ 63) (sym c.in_ok-plan.ensures.statement) c.requires.reading

pub add_planned-requires-clause-plan : goal.add_planned-requires-clause-plan
add_planned-requires-clause-plan c = λ t are.
    let over = c.args.queue.now.over in
    c.in_ok-plan.ensures.plan t
    (job_spared (variable_in over) c.args.statement.file.now.table c.args.table.now t c.requires.blocked (subst (λ (s : Statement). AreJobMacros (variable_in over) s.file.now.table t) c.in_ok-plan.ensures.statement are))

pub add_planned-requires-clause-table : goal.add_planned-requires-clause-table
add_planned-requires-clause-table c =
    let over = c.args.queue.now.over in
    subst (λ (s : Statement). AreJobMacros (variable_in over) s.file.now.table c.args.table.now) (sym c.in_ok-plan.ensures.statement)
    (are_blocked (variable_in over) c.args.statement.file.now.table c.args.table.now c.requires.blocked)

pub returns : goal.returns
returns c =
    subst (λ (s : Statement). UnlessMemory (AddsJobs (common s.heading) s.file.now s.line (items_of c.args.queue.now.copies c.args.queue.now.over) c.args.ads.now c.add_planned.new.ads) c.add_planned.result) c.in_ok-plan.ensures.statement c.add_planned.ensures
