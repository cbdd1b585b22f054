use Rattle.std.proofs.Common.{arith}
use Rattle.submit_file.specs.OneJob.{common}
use Rattle.submit_file.specs.JobMacros.{item_of}
use Rattle.submit_file.proofs.MadeJobs.{copies_ok, copies_err}
use Rattle.submit_file.proofs.copies.add_copies.Goals as goal

pub returns-in-Err-clause-made : goal.returns-in-Err-clause-made
returns-in-Err-clause-made c = copies_err (common c.args.plan.now.statement.heading) c.args.plan.now.statement.file.now c.args.plan.now.statement.line (item_of c.args.item) c.args.copies c.loop.counter c.args.ads.now c.loop.ads c.add_job.new.ads c.in-Err.error c.loop-test.true c.loop.invariant.made c.in-Err.ensures.made

pub loop-preserved : goal.loop-preserved
loop-preserved c = record {
  made = copies_ok (common c.args.plan.now.statement.heading) c.args.plan.now.statement.file.now c.args.plan.now.statement.line (item_of c.args.item) c.loop.counter c.args.ads.now c.loop.ads c.add_job.new.ads c.loop.invariant.made c.in-Ok.ensures.made;
  count = omega (arith, c.loop.invariant.count, c.in-Ok.ensures.count);
  table = c.in-Ok.ensures.table;
}
