-- The jobs of the items so far, and the macros of the last of them.
use Rattle.std.proofs.Common.{◌≡◌, ◌+◌, ◌*◌, Ok, Some, length, take}
use Rattle.submit_file.specs.OneJob.{common}
use Rattle.submit_file.specs.SubmittedJobs.{over_items, AddsJobs}
use Rattle.submit_file.specs.JobMacros.{AreJobMacros}
use Rattle.submit_file.proofs.copies.add_items.Given as goal

abbrev pub invariant-loop-item : goal.invariant-loop-item
invariant-loop-item l = record {
  made : AddsJobs (common l.plan.statement.heading) l.plan.statement.file.now l.plan.statement.line (over_items l.copies l.over.variable (take l.item-index l.over.items)) l.initial.ads l.ads (Ok tt);
  count : length l.ads ≡ length l.initial.ads + l.copies * l.item-index;
  table : AreJobMacros (Some l.over.variable) l.plan.statement.file.now.table l.table;
}
