use Rattle.std.proofs.Common.{sym, ap, Option}
use Rattle.startd_core.proofs.Taken.{end_taken, nothing_taken, other_runs}
use Rattle.startd_core.specs.Startds.{ended_at}
use Rattle.startd_slot.specs.declared.slot.Slot.{Slot}
use Rattle.startd_core.proofs.startd.Startd.take_end_at.Goals as goal

pub take_reaction-requires : goal.take_reaction-requires
take_reaction-requires c = sym c.in-Some.ensures

pub returns-in_default : goal.returns-in_default
returns-in_default c =
    nothing_taken c.args.self.now c.nothing_done.result _ _ c.prepare_step.ensures c.nothing_done.ensures
    (ap (λ (o : Option Slot). ended_at c.args.self.now c.args.place o c.args.ending.now c.args.reading) c.in_default.ensures)

pub returns-then-not-runs : goal.returns-then-not-runs
returns-then-not-runs c =
    nothing_taken c.args.self.now c.nothing_done-then-not-runs.result _ _ c.prepare_step-then-not-runs.ensures c.nothing_done-then-not-runs.ensures
    (other_runs c.args.self.now c.args.place c.in-Some.slot.now c.args.ending.now c.args.reading c.in-Some.ensures c.if-not-runs.ensures)

pub returns : goal.returns
returns c =
    end_taken c.args.self.now c.args.place c.in-Some.slot.now c.args.ending.now c.args.reading c.in_ok-reaction.reaction _
    c.in-Some.ensures c.if-not-runs.ensures c.in_ok-reaction.ensures c.in_ok-prepared.ensures
