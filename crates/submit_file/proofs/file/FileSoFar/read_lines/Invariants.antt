-- What comes of the lines that are left comes of all.
use Rattle.std.proofs.Common.{List, ◌++◌, drop}
use Rattle.line_text.specs.declared.logical.Line.{Line}
use Rattle.submit_file.specs.OneJob.{common}
use Rattle.submit_file.specs.SubmittedJobs.{AdsResult, Reads}
use Rattle.submit_file.proofs.file.FileSoFar.read_lines.Given as goal

abbrev pub invariant-loop-line : goal.invariant-loop-line
invariant-loop-line l =
    (rest : List Line) (r : AdsResult) → Reads (common l.heading) (drop l.line-index l.lines ++ rest) l.self r → Reads (common l.heading) (l.lines ++ rest) l.initial.self r
