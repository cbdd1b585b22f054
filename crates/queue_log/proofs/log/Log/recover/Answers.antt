use Rattle.queue_log.proofs.Recovery.{solid_opening}
use Rattle.queue_log.proofs.log.Log.recover.Goals as goal

pub returns-in-Ok-clause-any_moment : goal.returns-in-Ok-clause-any_moment
returns-in-Ok-clause-any_moment g c tells synced =
    let m = g.D.Store in
    solid_opening m.file m.solid m.moment m.left_since c.args.name.now c.args.reading c.args.store c.begin_or_resume.new.store synced (c.begin_or_resume.ensures.any_moment tells)

pub returns-in-Err-clause-any_moment : goal.returns-in-Err-clause-any_moment
returns-in-Err-clause-any_moment g c tells synced =
    let m = g.D.Store in
    solid_opening m.file m.solid m.moment m.left_since c.args.name.now c.args.reading c.args.store c.begin_or_resume.new.store synced (c.begin_or_resume.ensures.any_moment tells)

pub returns-in-Ok-clause-others : goal.returns-in-Ok-clause-others
returns-in-Ok-clause-others g c tells = (c.begin_or_resume.ensures.others tells).same

pub returns-in-Ok-clause-quiet : goal.returns-in-Ok-clause-quiet
returns-in-Ok-clause-quiet g c tells = (c.begin_or_resume.ensures.others tells).quiet

pub returns-in-Err-clause-others : goal.returns-in-Err-clause-others
returns-in-Err-clause-others g c tells = (c.begin_or_resume.ensures.others tells).same

pub returns-in-Err-clause-quiet : goal.returns-in-Err-clause-quiet
returns-in-Err-clause-quiet g c tells = (c.begin_or_resume.ensures.others tells).quiet
