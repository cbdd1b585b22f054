use Rattle.std.proofs.Common.{◌≡◌, ◌∙◌, List, refl, sym, ap, subst, arith}
use Rattle.thin_pool.specs.CourseValue.{CourseValue}
use Rattle.thin_pool.specs.Histories.{submissions_in}
use Rattle.thin_pool.specs.PoolValue.{PoolValue}
use Rattle.thin_pool.specs.Resting.{IsResting}
use Rattle.thin_pool.specs.declared.history.Step.{Step}
use Rattle.pool_input.specs.Readings.{AreRead}
use Rattle.pool_master.proofs.Playing.{close_submits, close_read, closed_runs}
use Rattle.pool_master.proofs.Results.{none_ok, still_open, now_closed, close_accepted, start_accepted, placed_still}
use Rattle.pool_master.proofs.Spawners.{goes_on_same, between_same, untouched_same}
use Rattle.pool_master.specs.Runs.{runs_in}
use Rattle.pool_master.proofs.play.play.Goals as goal

pub turns-init : goal.turns-init
turns-init g c = record {
  resting = c.requires.resting;
  between = c.requires.between;
  follows = λ machine first old. old;
  untouched = λ first old. old;
  read = λ old. old;
  submits = refl;
  slots = refl;
  opening = refl;
}

pub run_each-requires : goal.run_each-requires
run_each-requires g c =
    let so_far = c.turns.invariant in
    record {
      resting = so_far.resting;
      placed = placed_still c.args.course.now.pool.slots c.turns.course.pool.slots _ _ so_far.slots c.turns.auto.spawners c.requires.placed;
      between = so_far.between;
    }

pub next-requires : goal.next-requires
next-requires g c = subst (λ (p : PoolValue). IsResting p) (sym c.pool.ensures) c.in_ok-run_each.ensures.resting

pub close-requires : goal.close-requires
close-requires g c = close_accepted c.pool.result.now c.run_each.new.course.pool c.read-reading.result c.in_ok-none.field-0 c.in-Close.none c.pool.ensures c.in-Close.is c.in_ok-none.ensures

pub run_job-requires : goal.run_job-requires
run_job-requires g c =
    let each = c.in_ok-run_each.ensures in
    let so_far = c.turns.invariant in
    record {
      resting = each.resting;
      accepted = start_accepted c.pool.result.now c.run_each.new.course.pool c.read-reading.result c.in_ok-none.field-0 c.in-Start.pair c.pool.ensures c.in-Start.is c.in_ok-none.ensures;
      placed = placed_still c.args.course.now.pool.slots c.run_each.new.course.pool.slots _ _ (each.slots ∙ so_far.slots) (c.run_each.auto.spawners ∙ c.turns.auto.spawners) c.requires.placed;
      allowed = c.read-reading.ensures.allowed;
      in_range = c.read-reading.ensures.in_range;
      between = each.between;
    }

pub returns-in_err-run_each : goal.returns-in_err-run_each
returns-in_err-run_each g c =
    let now = c.in_err-run_each.ensures in
    let so_far = c.turns.invariant in
    let r = c.from_residual.result in
    let err = c.from_residual.ensures.0 in
    record {
      follows = λ machine first old. now.follows machine first (so_far.follows machine first old);
      untouched = λ first old. now.untouched first (so_far.untouched first old);
      between = none_ok _ r err;
      read = λ old. now.read (so_far.read old);
      submits = now.submits ∙ so_far.submits;
      closed = still_open r c.run_each.new.course.pool.closed err now.open;
      opening = now.opening ∙ so_far.opening;
    }

pub returns-in_err-none : goal.returns-in_err-none
returns-in_err-none g c =
    let now = c.in_ok-run_each.ensures in
    let so_far = c.turns.invariant in
    let r = c.from_residual-in_err-none.result in
    let err = c.from_residual-in_err-none.ensures.0 in
    record {
      follows = λ machine first old. now.follows machine first (so_far.follows machine first old);
      untouched = λ first old. now.untouched first (so_far.untouched first old);
      between = none_ok _ r err;
      read = λ old. now.read (so_far.read old);
      submits = now.submits ∙ so_far.submits;
      closed = still_open r c.run_each.new.course.pool.closed err now.open;
      opening = now.opening ∙ so_far.opening;
    }

pub returns-in_err-close-in-Close : goal.returns-in_err-close-in-Close
returns-in_err-close-in-Close g c =
    let each = c.in_ok-run_each.ensures in
    let so_far = c.turns.invariant in
    let r = c.from_residual-in_err-close-in-Close.result in
    let err = c.from_residual-in_err-close-in-Close.ensures.0 in
    let same = c.in_err-close-in-Close.ensures.err in
    let list : c.close.new.course.list ≡ c.run_each.new.course.list = ap (λ (v : CourseValue). v.list) same in
    let runs = ap runs_in list in
    record {
      follows = λ machine first old. goes_on_same _ _ (runs_in c.run_each.new.course.list) (runs_in c.close.new.course.list) runs machine first (each.follows machine first (so_far.follows machine first old));
      untouched = λ first old. untouched_same first c.run_each.new.spawners (runs_in c.run_each.new.course.list) (runs_in c.close.new.course.list) runs (each.untouched first (so_far.untouched first old));
      between = none_ok _ r err;
      read = λ old. subst (λ (l : List Step). AreRead (g.C.Clock.allows c.args.clock.now) l) (sym list) (each.read (so_far.read old));
      submits = ap submissions_in list ∙ (each.submits ∙ so_far.submits);
      closed = still_open r c.close.new.course.pool.closed err (ap (λ (v : CourseValue). v.pool.closed) same ∙ each.open);
      opening = c.in_err-close-in-Close.ensures.opening ∙ (each.opening ∙ so_far.opening);
    }

pub returns-in-Close : goal.returns-in-Close
returns-in-Close g c =
    let each = c.in_ok-run_each.ensures in
    let so_far = c.turns.invariant in
    let e = c.in_ok-close-in-Close.ensures in
    let reading = c.read-reading.result in
    let none = c.in-Close.none in
    let old = c.run_each.new.course in
    let new = c.close.new.course in
    let runs : runs_in new.list ≡ runs_in old.list = closed_runs reading none old.list new.list e.list each.between.ended in
    record {
      follows = λ machine first was. goes_on_same _ _ (runs_in old.list) (runs_in new.list) runs machine first (each.follows machine first (so_far.follows machine first was));
      untouched = λ first was. untouched_same first c.run_each.new.spawners (runs_in old.list) (runs_in new.list) runs (each.untouched first (so_far.untouched first was));
      between = between_same _ _ (runs_in old.list) (runs_in new.list) runs each.between;
      read = λ was. close_read _ reading none old.list new.list e.list c.read-reading.ensures.allowed c.read-reading.ensures.in_range (each.read (so_far.read was));
      submits = close_submits reading none old.list new.list e.list ∙ (each.submits ∙ so_far.submits);
      closed = now_closed old.pool new.pool reading none e.pool;
      opening = e.opening ∙ (each.opening ∙ so_far.opening);
    }

pub returns-in_err-run_job-in-Start : goal.returns-in_err-run_job-in-Start
returns-in_err-run_job-in-Start g c =
    let now = c.in_err-run_job-in-Start.ensures in
    let each = c.in_ok-run_each.ensures in
    let so_far = c.turns.invariant in
    let r = c.from_residual-in_err-run_job-in-Start.result in
    let err = c.from_residual-in_err-run_job-in-Start.ensures.0 in
    record {
      follows = λ machine first old. now.follows machine first (each.follows machine first (so_far.follows machine first old));
      untouched = λ first old. now.untouched first (each.untouched first (so_far.untouched first old));
      between = none_ok _ r err;
      read = λ old. now.read (each.read (so_far.read old));
      submits = now.submits ∙ (each.submits ∙ so_far.submits);
      closed = still_open r c.run_job.new.course.pool.closed err now.open;
      opening = now.opening ∙ (each.opening ∙ so_far.opening);
    }

pub turns-smaller : goal.turns-smaller
turns-smaller g c =
    let fewer = c.in_ok-run_job-in-Start.ensures.fewer in
    let no_more = c.in_ok-run_each.ensures.no_more in
    omega arith

pub turns-preserved : goal.turns-preserved
turns-preserved g c =
    let now = c.in_ok-run_job-in-Start.ensures in
    let each = c.in_ok-run_each.ensures in
    let so_far = c.turns.invariant in
    record {
      resting = now.resting;
      between = now.between;
      follows = λ machine first old. now.follows machine first (each.follows machine first (so_far.follows machine first old));
      untouched = λ first old. now.untouched first (each.untouched first (so_far.untouched first old));
      read = λ old. now.read (each.read (so_far.read old));
      submits = now.submits ∙ (each.submits ∙ so_far.submits);
      slots = now.slots ∙ (each.slots ∙ so_far.slots);
      opening = now.opening ∙ (each.opening ∙ so_far.opening);
    }
