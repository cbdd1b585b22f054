use Rattle.thin_pool.proofs.Idle.{passed_job, counted_job, found_job}
use Rattle.thin_pool.proofs.jobs.idle_job.Goals as goal

pub loop-id-preserved : goal.loop-id-preserved
loop-id-preserved c =
    counted_job c.loop-id.id-iterator c.args.jobs.now.entries (c.in-Some.id.now, c.in-Some.job.now) c.next.new.self c.loop-id.left c.args.place c.in-Some.ensures.steps c.if-not-is_idle.ensures c.if-left-eq0.false c.loop-id.invariant

pub loop-id-preserved-then-not-is_idle : goal.loop-id-preserved-then-not-is_idle
loop-id-preserved-then-not-is_idle c =
    passed_job c.loop-id.id-iterator c.args.jobs.now.entries (c.in-Some.id.now, c.in-Some.job.now) c.next.new.self c.loop-id.left c.args.place c.in-Some.ensures.steps c.if-not-is_idle.ensures c.loop-id.invariant

pub returns-then-left-eq0 : goal.returns-then-left-eq0
returns-then-left-eq0 c =
    found_job c.loop-id.id-iterator c.args.jobs.now.entries (c.in-Some.id.now, c.in-Some.job.now) c.next.new.self c.loop-id.left c.args.place c.in-Some.ensures.steps c.if-not-is_idle.ensures c.if-left-eq0.true c.loop-id.invariant
