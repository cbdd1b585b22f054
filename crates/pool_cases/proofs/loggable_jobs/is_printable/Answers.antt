use Rattle.std.proofs.Common.{refl}
use Rattle.pool_cases.proofs.Logging.{printable_from}
use Rattle.pool_cases.proofs.loggable_jobs.is_printable.Goals as goal

pub loop-place-preserved : goal.loop-place-preserved
loop-place-preserved c = λ like rest.
    c.loop-place.invariant like
    (printable_from c.args.job.now c.loop-place.place (c.if-not-is_printable_at.ensures refl like) rest)
