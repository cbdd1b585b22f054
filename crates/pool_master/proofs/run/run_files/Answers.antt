use Rattle.std.proofs.Common.{◌≡◌, arith}
use Rattle.pool_input.specs.Input.{IsRefusedOf}
use Rattle.pool_input.specs.Status.{stage_of}
use Rattle.pool_input.specs.Words.{file_names}
use Rattle.pool_master.proofs.Spawners.{all_at}
use Rattle.pool_master.proofs.PoolRun.{nothing_runs, files_no_close, files_today, of_files, of_no_files, refusal_of, late_no_refusal, late_not_early, late_today, late_no_fault}
use Rattle.pool_master.proofs.run.run_files.Goals as goal

pub returns-in-Err-clause-runs : goal.returns-in-Err-clause-runs
returns-in-Err-clause-runs g c =
    nothing_runs _ _ _ _ _ c.in-Err.status c.no_history.result c.no_history.ensures.nothing c.no_history.ensures.load (files_no_close (stage_of c.in-Err.status) c.in-Err.ensures.early)
    (λ m s is. let zero = all_at (λ x. g.P.Spawner.count x ≡ 0) c.args.spawners.now m s c.requires.idle is in record { none = zero; all = g.met.P.Spawner.counted s; spared = λ told k. (g.met.P.Spawner.unborn s k told (omega arith)).1 })

pub returns-in-Err-clause-refused : goal.returns-in-Err-clause-refused
returns-in-Err-clause-refused g c = λ told refuses. refusal_of (IsRefusedOf (g.C.Clock.allows c.args.clock.now) (g.D.Store.file c.args.store.now) c.args.named.now.config.now (file_names c.args.named.now.submits.items)) c.in-Err.status refuses (c.in-Err.ensures.refused told)

pub returns-in-Ok-clause-files : goal.returns-in-Ok-clause-files
returns-in-Ok-clause-files g c = λ told. of_files (g.C.Clock.allows c.args.clock.now) (g.D.Store.file c.args.store.now) c.args.named.now.config.now (file_names c.args.named.now.submits.items) c.in-Ok.course.opening c.run_course.result.1.opening c.in-Ok.course.list c.run_course.result.1.list c.run_course.ensures.opening c.run_course.ensures.submits (c.in-Ok.ensures.ok told)

pub returns-in-Ok-clause-refused : goal.returns-in-Ok-clause-refused
returns-in-Ok-clause-refused g c = λ told refuses. absurd (late_no_refusal c.run_course.result.0 c.run_course.ensures.late refuses)

pub returns-in-Ok-clause-refused_comes : goal.returns-in-Ok-clause-refused_comes
returns-in-Ok-clause-refused_comes g c = λ told s refused. absurd (c.in-Ok.ensures.refused_comes told s refused)

pub returns-in-Err-clause-refused_comes : goal.returns-in-Err-clause-refused_comes
returns-in-Err-clause-refused_comes g c = λ told s refused. c.in-Err.ensures.refused_comes told s refused

pub returns-in-Err-clause-today : goal.returns-in-Err-clause-today
returns-in-Err-clause-today g c = files_today c.in-Err.status c.in-Err.ensures.early

pub returns-in-Err-clause-files : goal.returns-in-Err-clause-files
returns-in-Err-clause-files g c = λ told. of_no_files _ _ _ _ c.no_history.result.opening c.no_history.result.list c.no_history.ensures.nothing.no_opening

pub returns-in-Ok-clause-early : goal.returns-in-Ok-clause-early
returns-in-Ok-clause-early g c = λ early. absurd (late_not_early (stage_of c.run_course.result.0) c.run_course.ensures.late early)

pub returns-in-Ok-clause-today : goal.returns-in-Ok-clause-today
returns-in-Ok-clause-today g c = late_today c.run_course.result.0 c.run_course.ensures.late

pub returns-in-Ok-clause-disk_fault : goal.returns-in-Ok-clause-disk_fault
returns-in-Ok-clause-disk_fault g c = λ is. absurd (late_no_fault c.run_course.result.0 c.run_course.ensures.late is)
