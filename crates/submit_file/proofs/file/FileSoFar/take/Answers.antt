use Rattle.std.proofs.Common.{◌≡◌, ◌<◌, refl, rules, arith}
use Rattle.submit_file.specs.OneJob.{common}
use Rattle.submit_file.specs.SubmittedJobs.{jobs_in, too_many, no_program, no_jobs}
use Rattle.submit_file.proofs.Readings.{not_if_true, not_if_false, jobs_added}
use Rattle.submit_file.proofs.file.FileSoFar.take.Goals as goal

pub returns-then-is_too_many : goal.returns-then-is_too_many
returns-then-is_too_many c = too_many (not_if_true c.is_too_many.result c.is_too_many.ensures c.if-is_too_many.true)

pub returns-then-not-has_program : goal.returns-then-not-has_program
returns-then-not-has_program c =
    let none : jobs_in c.args.queue.now.copies c.args.queue.now.over ≡ 0 = omega (arith, c.jobs_in.ensures, c.if-jobs_in-eq0.true) in
    no_program (c.is_too_many.ensures.0 c.if-is_too_many.false) none (not_if_false c.has_program.result c.has_program.ensures (search rules))

pub returns-then-jobs_in-eq0 : goal.returns-then-jobs_in-eq0
returns-then-jobs_in-eq0 c =
    let none : jobs_in c.args.queue.now.copies c.args.queue.now.over ≡ 0 = omega (arith, c.jobs_in.ensures, c.if-jobs_in-eq0.true) in
    (no_jobs (c.is_too_many.ensures.0 c.if-is_too_many.false) none (c.has_program.ensures.0 (search rules)), refl)

pub returns : goal.returns
returns c =
    let some : 0 < jobs_in c.args.queue.now.copies c.args.queue.now.over = omega (arith, c.jobs_in.ensures, c.if-jobs_in-eq0.false) in
    jobs_added (common c.args.heading) c.args.self.now c.add_jobs.new.self c.args.line c.args.queue.now c.add_jobs.result (c.is_too_many.ensures.0 c.if-is_too_many.false) some c.add_jobs.ensures.made c.add_jobs.ensures.lines c.add_jobs.ensures.queue
