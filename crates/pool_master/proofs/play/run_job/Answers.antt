-- A start that the pool accepts, the child that it launches, and the ending that it is seen to have.
use Rattle.std.proofs.Common.{◌≡◌, ◌<◌, ◌∙◌, None, length, ap, sym, subst}
use Rattle.thin_pool.specs.CourseValue.{CourseValue}
use Rattle.thin_pool.specs.PoolValue.{PoolValue}
use Rattle.thin_pool.specs.declared.event.Event.TheVariants.{Ended}
use Rattle.thin_pool.specs.Reactions.{refusal}
use Rattle.pool_master.proofs.Playing.{start_submits, end_submits, start_read, end_read, started, has_run, machine_below}
use Rattle.pool_master.proofs.Spawners.{goes_on, between_again, stays_untouched, follows_ended, follows_open, follows_no_child}
use Rattle.pool_master.proofs.RunLists.{run_with}
use Rattle.pool_master.proofs.play.run_job.Goals as goal

pub run_on-requires : goal.run_on-requires
run_on-requires g c = machine_below c.args.course.now.pool.slots _ c.args.pair.slot c.requires.placed (c.starts_are_placed.ensures c.args.course.now.pool _ _ _ _ c.requires.accepted)

pub returns-in_err-what-clause-open : goal.returns-in_err-what-clause-open
returns-in_err-what-clause-open g c = ap (λ (v : CourseValue). v.pool.closed) c.in_err-what.ensures.same ∙ c.requires.resting.is_open

-- out of memory for the child

pub returns-in_err-end-clause-follows : goal.returns-in_err-end-clause-follows
returns-in_err-end-clause-follows g c =
    let runs = started _ _ _ _ _ c.args.course.now.list c.start.new.self.list c.in_ok-what.ensures.list c.requires.between.ended in
    let below : c.args.pair.slot.machine < length c.args.spawners.now = machine_below c.args.course.now.pool.slots _ c.args.pair.slot c.requires.placed (c.starts_are_placed.ensures c.args.course.now.pool _ _ _ _ c.requires.accepted) in
    goes_on _ _ _ _ _ (run_with c.args.pair.job c.args.pair.slot c.in_ok-what.what None) runs below c.in_err-end.ensures.others c.requires.between
    (λ s t was now first ended has follow. follows_no_child c.args.pair.job c.args.pair.slot c.in_ok-what.what first _ _ _ (c.in_err-end.ensures.not_run s t was now) has follow)

pub returns-in_err-end-clause-untouched : goal.returns-in_err-end-clause-untouched
returns-in_err-end-clause-untouched g c =
    let runs = started _ _ _ _ _ c.args.course.now.list c.start.new.self.list c.in_ok-what.ensures.list c.requires.between.ended in
    stays_untouched _ _ _ _ (run_with c.args.pair.job c.args.pair.slot c.in_ok-what.what None) runs c.in_err-end.ensures.others

pub returns-in_err-end-clause-read : goal.returns-in_err-end-clause-read
returns-in_err-end-clause-read g c = start_read _ _ _ _ _ _ c.args.course.now.list c.start.new.self.list c.in_ok-what.ensures.list c.requires.allowed c.requires.in_range

pub returns-in_err-end-clause-submits : goal.returns-in_err-end-clause-submits
returns-in_err-end-clause-submits g c = start_submits _ _ _ _ _ _ _ c.in_ok-what.ensures.list

pub returns-in_err-end-clause-open : goal.returns-in_err-end-clause-open
returns-in_err-end-clause-open g c = ap (λ (p : PoolValue). p.closed) c.in_ok-what.ensures.pool ∙ c.requires.resting.is_open

pub act-requires : goal.act-requires
act-requires g c = subst (λ (p : PoolValue). refusal p (Ended c.args.pair.job c.in_ok-end.end c.read-reading.result) ≡ None) (sym c.in_ok-what.ensures.pool) (c.runs_end_in_rest.ensures.may_end c.args.course.now.pool _ _ _ _ c.requires.resting c.requires.accepted c.in_ok-end.end c.read-reading.result)

-- out of memory for its ending

pub returns-in_err-act-clause-follows : goal.returns-in_err-act-clause-follows
returns-in_err-act-clause-follows g c =
    let runs = started _ _ _ _ _ c.args.course.now.list c.start.new.self.list c.in_ok-what.ensures.list c.requires.between.ended in
    let below : c.args.pair.slot.machine < length c.args.spawners.now = machine_below c.args.course.now.pool.slots _ c.args.pair.slot c.requires.placed (c.starts_are_placed.ensures c.args.course.now.pool _ _ _ _ c.requires.accepted) in
    rw c.in_err-act.ensures.same
    (goes_on _ _ _ _ _ (run_with c.args.pair.job c.args.pair.slot c.in_ok-what.what None) runs below c.in_ok-end.ensures.others c.requires.between
    (λ s t was now first ended has follow. follows_open c.args.pair.job c.args.pair.slot c.in_ok-what.what c.in_ok-end.end first _ _ _ ended (c.in_ok-end.ensures.ran s t was now) has follow))

pub returns-in_err-act-clause-untouched : goal.returns-in_err-act-clause-untouched
returns-in_err-act-clause-untouched g c =
    let runs = started _ _ _ _ _ c.args.course.now.list c.start.new.self.list c.in_ok-what.ensures.list c.requires.between.ended in
    rw c.in_err-act.ensures.same (stays_untouched _ _ _ _ (run_with c.args.pair.job c.args.pair.slot c.in_ok-what.what None) runs c.in_ok-end.ensures.others)

pub returns-in_err-act-clause-read : goal.returns-in_err-act-clause-read
returns-in_err-act-clause-read g c = rw c.in_err-act.ensures.same (start_read _ _ _ _ _ _ c.args.course.now.list c.start.new.self.list c.in_ok-what.ensures.list c.requires.allowed c.requires.in_range)

pub returns-in_err-act-clause-submits : goal.returns-in_err-act-clause-submits
returns-in_err-act-clause-submits g c = rw c.in_err-act.ensures.same (start_submits _ _ _ _ _ _ _ c.in_ok-what.ensures.list)

pub returns-in_err-act-clause-open : goal.returns-in_err-act-clause-open
returns-in_err-act-clause-open g c = rw c.in_err-act.ensures.same (ap (λ (p : PoolValue). p.closed) c.in_ok-what.ensures.pool ∙ c.requires.resting.is_open)

-- the run has ended

pub returns-clause-follows : goal.returns-clause-follows
returns-clause-follows g c =
    let runs = has_run _ _ _ _ _ c.in_ok-end.end c.read-reading.result c.args.course.now.list c.start.new.self.list c.act.new.course.list c.in_ok-what.ensures.list c.in_ok-act.ensures.list c.requires.between.ended in
    let below : c.args.pair.slot.machine < length c.args.spawners.now = machine_below c.args.course.now.pool.slots _ c.args.pair.slot c.requires.placed (c.starts_are_placed.ensures c.args.course.now.pool _ _ _ _ c.requires.accepted) in
    goes_on _ _ _ _ _ (run_with c.args.pair.job c.args.pair.slot c.in_ok-what.what _) runs below c.in_ok-end.ensures.others c.requires.between
    (λ s t was now first ended has follow. follows_ended c.args.pair.job c.args.pair.slot c.in_ok-what.what c.in_ok-end.end first _ _ _ (c.in_ok-end.ensures.ran s t was now) has follow)

pub returns-clause-untouched : goal.returns-clause-untouched
returns-clause-untouched g c =
    let runs = has_run _ _ _ _ _ c.in_ok-end.end c.read-reading.result c.args.course.now.list c.start.new.self.list c.act.new.course.list c.in_ok-what.ensures.list c.in_ok-act.ensures.list c.requires.between.ended in
    stays_untouched _ _ _ _ (run_with c.args.pair.job c.args.pair.slot c.in_ok-what.what _) runs c.in_ok-end.ensures.others

pub returns-clause-between : goal.returns-clause-between
returns-clause-between g c =
    let runs = has_run _ _ _ _ _ c.in_ok-end.end c.read-reading.result c.args.course.now.list c.start.new.self.list c.act.new.course.list c.in_ok-what.ensures.list c.in_ok-act.ensures.list c.requires.between.ended in
    let below : c.args.pair.slot.machine < length c.args.spawners.now = machine_below c.args.course.now.pool.slots _ c.args.pair.slot c.requires.placed (c.starts_are_placed.ensures c.args.course.now.pool _ _ _ _ c.requires.accepted) in
    between_again _ _ _ _ _ c.args.pair.job c.args.pair.slot c.in_ok-what.what c.in_ok-end.end runs below c.in_ok-end.ensures.others c.requires.between c.in_ok-end.ensures.ran

pub returns-clause-read : goal.returns-clause-read
returns-clause-read g c = λ old.
    end_read _ _ c.in_ok-end.end c.read-reading.result c.start.new.self.list c.act.new.course.list c.in_ok-act.ensures.list c.read-reading.ensures.allowed c.read-reading.ensures.in_range
    (start_read _ _ _ _ _ _ c.args.course.now.list c.start.new.self.list c.in_ok-what.ensures.list c.requires.allowed c.requires.in_range old)

pub returns-clause-submits : goal.returns-clause-submits
returns-clause-submits g c = end_submits _ c.in_ok-end.end c.read-reading.result c.start.new.self.list c.act.new.course.list c.in_ok-act.ensures.list ∙ start_submits _ _ _ _ _ _ _ c.in_ok-what.ensures.list

pub returns-clause-resting : goal.returns-clause-resting
returns-clause-resting g c =
    rw (c.in_ok-act.ensures.pool, c.in_ok-what.ensures.pool) (c.runs_end_in_rest.ensures.rests c.args.course.now.pool _ _ _ _ c.requires.resting c.requires.accepted c.in_ok-end.end c.read-reading.result)

pub returns-clause-fewer : goal.returns-clause-fewer
returns-clause-fewer g c =
    rw (c.in_ok-act.ensures.pool, c.in_ok-what.ensures.pool) (c.runs_end_in_rest.ensures.fewer c.args.course.now.pool _ _ _ _ c.requires.resting c.requires.accepted c.in_ok-end.end c.read-reading.result)

pub returns-clause-open : goal.returns-clause-open
returns-clause-open g c =
    rw (c.in_ok-act.ensures.pool, c.in_ok-what.ensures.pool) (c.runs_end_in_rest.ensures.rests c.args.course.now.pool _ _ _ _ c.requires.resting c.requires.accepted c.in_ok-end.end c.read-reading.result).is_open

pub returns-clause-slots : goal.returns-clause-slots
returns-clause-slots g c =
    ap (λ (p : PoolValue). p.slots) c.in_ok-act.ensures.pool
    ∙ (c.events_keep_slots.ensures c.start.new.self.pool (Ended c.args.pair.job c.in_ok-end.end c.read-reading.result)
    ∙ ap (λ (p : PoolValue). p.slots) c.in_ok-what.ensures.pool)
