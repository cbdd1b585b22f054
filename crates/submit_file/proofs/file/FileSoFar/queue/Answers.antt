use Rattle.std.proofs.Common.{ap, sym, ◌∙◌}
use Rattle.submit_lines.specs.Queue.{queue_of}
use Rattle.submit_file.specs.Errors.{Replaced}
use Rattle.submit_file.specs.OneJob.{common}
use Rattle.submit_file.specs.SubmittedJobs.{Queues, TakesQueue, unreadable, no_form}
use Rattle.submit_file.proofs.MadeJobs.{unless_map}
use Rattle.submit_file.proofs.Readings.{statement_taken}
use Rattle.submit_file.proofs.file.FileSoFar.queue.Goals as goal

pub returns-in-Some : goal.returns-in-Some
returns-in-Some c =
    statement_taken (common c.args.heading) c.args.self.now c.take.new.self c.args.line c.args.text.now c.in-Ok.text c.in-Some.queue c.take.result c.in-Ok.ensures (ap queue_of (sym c.as_str.ensures) ∙ sym c.in_ok-queue-in-Ok.ensures ∙ c.in-Some.is) c.take.ensures

pub returns-in-Ok : goal.returns-in-Ok
returns-in-Ok c = no_form c.in-Ok.ensures (ap queue_of (sym c.as_str.ensures) ∙ sym c.in_ok-queue-in-Ok.ensures ∙ c.in-None.is)

pub returns : goal.returns
returns c =
    unless_map (Replaced c.args.self.now.lines.table c.args.text.now c.args.line) (TakesQueue (Queues (common c.args.heading) c.args.self.now c.args.line c.args.text.now) c.args.self.now c.args.self.now) c.in-Err.error (λ g. unreadable g) c.in-Err.ensures
