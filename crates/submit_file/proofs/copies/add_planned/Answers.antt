use Rattle.std.proofs.Common.{◌≤◌, ◌+◌, length, sym, subst}
use Rattle.submit_file.specs.declared.error.TheConstants.{MAX_JOBS}
use Rattle.submit_file.specs.Errors.{UnlessMemory}
use Rattle.submit_file.specs.OneJob.{common}
use Rattle.submit_file.specs.JobMacros.{variable_in, AreJobMacros}
use Rattle.submit_file.specs.SubmittedJobs.{AddsJobs, items_of, jobs_in}
use Rattle.submit_file.proofs.copies.add_planned.Goals as goal

pub add_items-requires-clause-few : goal.add_items-requires-clause-few
add_items-requires-clause-few c =
    subst (λ o. length c.args.ads.now + jobs_in c.args.queue.now.copies o ≤ MAX_JOBS) c.in-Some.is c.requires.few

pub add_items-requires-clause-plan : goal.add_items-requires-clause-plan
add_items-requires-clause-plan c = λ t are. c.requires.plan t (subst (λ o. AreJobMacros (variable_in o) c.args.plan.now.statement.file.now.table t) (sym c.in-Some.is) are)

pub add_items-requires-clause-table : goal.add_items-requires-clause-table
add_items-requires-clause-table c =
    subst (λ o. AreJobMacros (variable_in o) c.args.plan.now.statement.file.now.table c.args.table.now) c.in-Some.is c.requires.table

pub add_copies-requires-clause-few : goal.add_copies-requires-clause-few
add_copies-requires-clause-few c =
    subst (λ o. length c.args.ads.now + jobs_in c.args.queue.now.copies o ≤ MAX_JOBS) c.in-None.is c.requires.few

pub add_copies-requires-clause-plan : goal.add_copies-requires-clause-plan
add_copies-requires-clause-plan c = λ t are. c.requires.plan t (subst (λ o. AreJobMacros (variable_in o) c.args.plan.now.statement.file.now.table t) (sym c.in-None.is) are)

pub add_copies-requires-clause-table : goal.add_copies-requires-clause-table
add_copies-requires-clause-table c =
    subst (λ o. AreJobMacros (variable_in o) c.args.plan.now.statement.file.now.table c.args.table.now) c.in-None.is c.requires.table

pub returns-in-Some : goal.returns-in-Some
returns-in-Some c =
    subst (λ o. UnlessMemory (AddsJobs (common c.args.plan.now.statement.heading) c.args.plan.now.statement.file.now c.args.plan.now.statement.line (items_of c.args.queue.now.copies o) c.args.ads.now c.add_items.new.ads) c.add_items.result) (sym c.in-Some.is) c.add_items.ensures

pub returns-in-None : goal.returns-in-None
returns-in-None c =
    subst (λ o. UnlessMemory (AddsJobs (common c.args.plan.now.statement.heading) c.args.plan.now.statement.file.now c.args.plan.now.statement.line (items_of c.args.queue.now.copies o) c.args.ads.now c.add_copies.new.ads) c.add_copies.result) (sym c.in-None.is) c.add_copies.ensures.made
