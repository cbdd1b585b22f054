use Rattle.std.proofs.Common.{◌≡◌, ◌≢◌, ◌∙◌, true, true≢false, [], Some, refl, sym, ap, subst}
use Rattle.thin_pool.specs.PoolValue.{PoolValue}
use Rattle.thin_pool.specs.Histories.{submissions_in}
use Rattle.thin_pool.specs.Reactions.{opening_pool}
use Rattle.pool_master.specs.Runs.{runs_in}
use Rattle.pool_master.proofs.RunLists.{submits_no_runs}
use Rattle.pool_master.proofs.Spawners.{all_at, between_none}
use Rattle.pool_master.proofs.PoolRun.{played, follows_all, printed_after, open_after, printed_late, none_below}
use Rattle.pool_master.proofs.run.run_course.Goals as goal

pub play-played-requires : goal.play-played-requires
play-played-requires g c =
    let none : runs_in c.args.course.list ≡ [] = ap runs_in c.requires.submitted.steps ∙ submits_no_runs (submissions_in c.args.course.list) in
    record {
      resting = c.requires.submitted.rests;
      placed = rw (c.requires.submitted.slots, c.requires.machines) c.requires.submitted.placed;
      between = between_none _ _ _ none (λ m s is. let zero = all_at (λ x. g.P.Spawner.count x ≡ 0) c.args.spawners.now m s c.requires.idle is in record { none = zero; all = g.met.P.Spawner.counted s; spared = λ told k. (g.met.P.Spawner.unborn s k told (none_below zero)).1 });
    }

pub print-requires : goal.print-requires
print-requires g c = rw c.finish-history.ensures.list (c.in-Ok.ensures.read c.requires.submitted.read).in_range

pub returns-in-Ok-clause-runs : goal.returns-in-Ok-clause-runs
returns-in-Ok-clause-runs g c =
    let end = c.finish-history.ensures in
    let play = c.in-Ok.ensures in
    let none : runs_in c.args.course.list ≡ [] = ap runs_in c.requires.submitted.steps ∙ submits_no_runs (submissions_in c.args.course.list) in
    let o = c.play-played.new.course.opening in
    let opened : o ≡ opening_pool o.slots = subst (λ (q : PoolValue). q ≡ opening_pool q.slots) (sym play.opening) c.requires.submitted.opened in
    let is = played o c.play-played.new.course.list c.finish-history.result.0 c.finish-history.result.1 opened end.list end.history end.safe end.shows in
    let closed : c.finish-history.result.1.closed ≡ true = ap (λ (p : PoolValue). p.closed) end.pool ∙ play.closed.0 refl in
    printed_after _ _ _ _ _ _ _ c.print.result c.finish-history.result.0 c.finish-history.result.1 c.play-played.new.course.list is end.list closed
    (play.read c.requires.submitted.read)
    (follows_all _ _ _ (runs_in c.args.course.list) (runs_in c.play-played.new.course.list) none (λ m s is. let zero = all_at (λ x. g.P.Spawner.count x ≡ 0) c.args.spawners.now m s c.requires.idle is in record { none = zero; all = g.met.P.Spawner.counted s; spared = λ told k. (g.met.P.Spawner.unborn s k told (none_below zero)).1 }) play.follows)
    (play.untouched c.args.spawners.now (λ m none. refl))
    play.between
    c.print.ensures.written c.print.ensures.all_written c.print.ensures.printed

pub returns-in-Ok-clause-opening : goal.returns-in-Ok-clause-opening
returns-in-Ok-clause-opening g c =
    let o = c.play-played.new.course.opening in
    let opened : o ≡ opening_pool o.slots = rw c.in-Ok.ensures.opening c.requires.submitted.opened in
    c.finish-history.ensures.history.opening ∙ (ap Some (sym opened) ∙ ap Some c.in-Ok.ensures.opening)

pub returns-in-Ok-clause-submits : goal.returns-in-Ok-clause-submits
returns-in-Ok-clause-submits g c = ap submissions_in c.finish-history.ensures.list ∙ c.in-Ok.ensures.submits

pub returns-in-Ok-clause-late : goal.returns-in-Ok-clause-late
returns-in-Ok-clause-late g c = printed_late _ _ _ c.print.result c.print.ensures.printed

pub returns-clause-runs : goal.returns-clause-runs
returns-clause-runs g c =
    let end = c.finish-history.ensures in
    let play = c.in-Err.ensures in
    let none : runs_in c.args.course.list ≡ [] = ap runs_in c.requires.submitted.steps ∙ submits_no_runs (submissions_in c.args.course.list) in
    let o = c.play-played.new.course.opening in
    let opened : o ≡ opening_pool o.slots = subst (λ (q : PoolValue). q ≡ opening_pool q.slots) (sym play.opening) c.requires.submitted.opened in
    let is = played o c.play-played.new.course.list c.finish-history.result.0 c.finish-history.result.1 opened end.list end.history end.safe end.shows in
    let left_open : c.finish-history.result.1.closed ≢ true = λ closed. true≢false (sym (play.closed.1 (ap (λ (p : PoolValue). p.closed) (sym end.pool) ∙ closed))) in
    open_after _ _ _ _ _ _ c.finish-history.result.0 c.finish-history.result.1 c.play-played.new.course.list is end.list left_open
    (play.read c.requires.submitted.read)
    (follows_all _ _ _ (runs_in c.args.course.list) (runs_in c.play-played.new.course.list) none (λ m s is. let zero = all_at (λ x. g.P.Spawner.count x ≡ 0) c.args.spawners.now m s c.requires.idle is in record { none = zero; all = g.met.P.Spawner.counted s; spared = λ told k. (g.met.P.Spawner.unborn s k told (none_below zero)).1 }) play.follows)
    (play.untouched c.args.spawners.now (λ m none. refl))

pub returns-clause-opening : goal.returns-clause-opening
returns-clause-opening g c =
    let o = c.play-played.new.course.opening in
    let opened : o ≡ opening_pool o.slots = rw c.in-Err.ensures.opening c.requires.submitted.opened in
    c.finish-history.ensures.history.opening ∙ (ap Some (sym opened) ∙ ap Some c.in-Err.ensures.opening)

pub returns-clause-submits : goal.returns-clause-submits
returns-clause-submits g c = ap submissions_in c.finish-history.ensures.list ∙ c.in-Err.ensures.submits
