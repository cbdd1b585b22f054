use Rattle.submit_file.specs.SubmittedJobs.{ended, no_queue}
use Rattle.submit_file.proofs.file.FileSoFar.into_ads.Goals as goal

pub returns-then-has_queue : goal.returns-then-has_queue
returns-then-has_queue c = λ h. ended c.if-has_queue.true

pub returns : goal.returns
returns c = λ h. no_queue c.if-has_queue.false
