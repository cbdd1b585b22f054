-- What is taken of the parts that are left is taken of all.
use Rattle.std.proofs.Common.{drop}
use Rattle.submit_file.specs.Drafts.{JobDraft, draft_of}
use Rattle.submit_file.specs.OneJob.{common, TakesAll}
use Rattle.submit_file.specs.Plans.{origins_of}
use Rattle.submit_file.proofs.plan.Plan.take_parts.Given as goal

abbrev pub invariant-loop-part : goal.invariant-loop-part
invariant-loop-part l =
    (g : JobDraft) → TakesAll (common l.self.statement.heading) l.self.statement.file.now l.table l.self.statement.line (origins_of (drop l.part-index l.self.parts.items)) (draft_of l.draft) g → TakesAll (common l.self.statement.heading) l.self.statement.file.now l.table l.self.statement.line (origins_of l.self.parts.items) (draft_of l.initial.draft) g
