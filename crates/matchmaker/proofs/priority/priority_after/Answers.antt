use Rattle.std.proofs.Common.{◌≡◌, ◌-◌, ◌+◌, ap, sym, ◌∙◌, arith}
use Rattle.matchmaker.specs.Priority.{after_tick, priority_after}
use Rattle.matchmaker.proofs.Ticks.{settled, one_less, none_left}
use Rattle.matchmaker.proofs.priority.priority_after.Goals as goal

pub ticks-init : goal.ticks-init
ticks-init c =
    let all : c.args.ticks - 0 ≡ c.args.ticks = omega arith in
    (ap (λ k. priority_after k c.args.in_use c.args.real) all, c.requires.best, c.requires.worst)

pub after_tick-next-requires-clause-worst : goal.after_tick-next-requires-clause-worst
after_tick-next-requires-clause-worst c = c.ticks.invariant.2

pub returns-then-next-now-clause-ticks : goal.returns-then-next-now-clause-ticks
returns-then-next-now-clause-ticks c =
    let left = c.args.ticks - c.ticks._tick in
    let same : after_tick c.args.in_use c.ticks.now ≡ c.ticks.now = sym c.after_tick-next.ensures.tick ∙ c.if-next-now.true in
    sym (settled left c.args.in_use c.ticks.now same) ∙ c.ticks.invariant.0

pub ticks-preserved : goal.ticks-preserved
ticks-preserved c =
    let next = c.after_tick-next.ensures in
    let left = c.args.ticks - (c.ticks._tick + 1) in (
      ap (λ r. priority_after left c.args.in_use r) next.tick
          ∙ sym (one_less c.args.ticks c.ticks._tick c.args.in_use c.ticks.now c.ticks-test.true)
          ∙ c.ticks.invariant.0,
      next.best,
      next.worst,
    )

pub returns-clause-ticks : goal.returns-clause-ticks
returns-clause-ticks c =
    sym (none_left c.args.ticks c.ticks._tick c.args.in_use c.ticks.now (omega arith)) ∙ c.ticks.invariant.0

pub returns-clause-best : goal.returns-clause-best
returns-clause-best c = c.ticks.invariant.1

pub returns-clause-worst : goal.returns-clause-worst
returns-clause-worst c = c.ticks.invariant.2
