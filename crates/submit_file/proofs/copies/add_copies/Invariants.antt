-- The jobs so far, and the macros of the last of them.
use Rattle.std.proofs.Common.{◌≡◌, ◌+◌, Ok, length, replicate}
use Rattle.submit_file.specs.OneJob.{common}
use Rattle.submit_file.specs.JobMacros.{item_of, variable_of, AreJobMacros}
use Rattle.submit_file.specs.SubmittedJobs.{AddsJobs}
use Rattle.submit_file.proofs.copies.add_copies.Given as goal

abbrev pub invariant-loop : goal.invariant-loop
invariant-loop l = record {
  made : AddsJobs (common l.plan.statement.heading) l.plan.statement.file.now l.plan.statement.line (replicate l.counter (item_of l.item)) l.initial.ads l.ads (Ok tt);
  count : length l.ads ≡ length l.initial.ads + l.counter;
  table : AreJobMacros (variable_of (item_of l.item)) l.plan.statement.file.now.table l.table;
}
