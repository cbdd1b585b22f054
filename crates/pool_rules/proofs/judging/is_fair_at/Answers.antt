use Rattle.std.specs.Option.{option_copied}
use Rattle.pool_rules.proofs.Judged.{fair_match, fair_nowhere, unfair_match}
use Rattle.pool_shown.specs.Slots.{slot_at}
use Rattle.pool_rules.proofs.judging.is_fair_at.Goals as goal

pub returns-else-is_judged_fairly : goal.returns-else-is_judged_fairly
returns-else-is_judged_fairly c =
    unfair_match (slot_at c.args.slot c.args.state.now.machines) c.args.ad.now c.args.reading (option_copied c.args.judged) (option_copied c.args.none) c.in-Some.slot.now c.in-Some.ensures
    c.if-is_judged_fairly.false c.is_judged_fairly.ensures

pub returns-then-is_judged_fairly : goal.returns-then-is_judged_fairly
returns-then-is_judged_fairly c =
    fair_match (slot_at c.args.slot c.args.state.now.machines) c.args.ad.now c.args.reading (option_copied c.args.judged) (option_copied c.args.none) c.in-Some.slot.now c.in-Some.ensures
    c.if-is_judged_fairly.true c.is_judged_fairly.ensures c.is_none_fairly.ensures

pub returns-in-None : goal.returns-in-None
returns-in-None c =
    fair_nowhere (slot_at c.args.slot c.args.state.now.machines) c.args.ad.now c.args.reading (option_copied c.args.judged) (option_copied c.args.none) c.in-None.ensures c.is_nothing_given.ensures
