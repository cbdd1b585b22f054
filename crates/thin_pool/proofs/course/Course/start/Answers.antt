use Rattle.std.proofs.Common.{◌∙◌, ◌++◌, ◌∷◌, [], sym, ap}
use Rattle.pool_outer.specs.declared.spawner.Launch.{Launch}
use Rattle.job_launch.specs.Launches.{launch_of}
use Rattle.thin_pool.specs.declared.answer.Kept.TheVariants as kept
use Rattle.thin_pool.specs.declared.event.Event.TheVariants.{Start}
use Rattle.thin_pool.proofs.course.Course.start.Goals as goal

pub returns-in-Ok-clause-same : goal.returns-in-Ok-clause-same
returns-in-Ok-clause-same c = tt

pub returns-in-Ok-clause-list : goal.returns-in-Ok-clause-list
returns-in-Ok-clause-list c =
    c.in-Ok.ensures.list
    ∙ ap (λ (what : Launch). c.args.self.now.list ++ record { event = Start c.args.pair.job c.args.pair.slot c.args.pair.judged c.args.reading; kept = kept.Launch what } ∷ []) (sym (c.in_ok-what.ensures ∙ ap launch_of c.job.ensures))
