use Rattle.std.proofs.Common.{Global, Vec, length, ap, ◌∙◌, arith}
use Rattle.negotiate.specs.Grouped.{all_ranked}
use Rattle.negotiate.specs.declared.grouping.Kept.{Kept}
use Rattle.negotiate.proofs.Judged.{judged_none, judged_yes, judged_no, judged_all}
use Rattle.matchmaker.specs.declared.snapshot.Offer.{Offer}
use Rattle.negotiate.proofs.grouping.judge_all.Goals as goal
use Rattle.negotiate.proofs.grouping.judge_all.Goals.{in-Some+in_ok-push, in_default}

pub loop-slot-init : goal.loop-slot-init
loop-slot-init g c = record {
  list = judged_none c.args.snapshot.now.now c.args.made.now c.args.request.now c.new-list.result.items c.new-list.ensures.items;
  cost = omega arith;
}

pub loop-slot-preserved : goal.loop-slot-preserved
loop-slot-preserved g c = record {
  list = elim c.match-branch-2.branch [
    | in-Some+in_ok-push w ↦ ap (λ (v : Vec Kept Global). all_ranked v.items) w.list-is
        ∙ judged_yes c.args.snapshot.now.now c.as_slice-slots.result.now c.args.made.now c.args.request.now c.loop-slot.slot-index c.slot-item.result c.in_ok-kept.field-0 w.in-Some.kept c.loop-slot.list.items w.push.new.self.items
        c.loop-slot-test.true c.slot-item.is c.in_ok-kept.ensures.kept w.in-Some.is w.in_ok-push.ensures.items c.loop-slot.invariant.list
    | in_default w ↦ ap (λ (v : Vec Kept Global). all_ranked v.items) w.list-is
        ∙ judged_no c.args.snapshot.now.now c.as_slice-slots.result.now c.args.made.now c.args.request.now c.loop-slot.slot-index c.slot-item.result c.in_ok-kept.field-0 c.loop-slot.list.items
        c.loop-slot-test.true c.slot-item.is c.in_ok-kept.ensures.kept w.in_default.is c.loop-slot.invariant.list
  ];
  cost = let a = c.kept_now.ensures.cost in let b = c.loop-slot.invariant.cost in omega arith;
}

pub returns-clause-kept : goal.returns-clause-kept
returns-clause-kept g c =
    judged_all c.args.snapshot.now.now c.as_slice-slots.result.now c.args.snapshot.now.slots c.args.made.now c.args.request.now c.loop-slot.slot-index c.loop-slot.list.items
    c.loop-slot-test.false c.as_slice-slots.ensures c.loop-slot.invariant.list

pub returns-clause-cost : goal.returns-clause-cost
returns-clause-cost g c =
    let whole = ap (length {A = Offer}) c.as_slice-slots.ensures in
    let within = c.loop-slot.auto.slot-index-end in
    let cost = c.loop-slot.invariant.cost in
    omega arith
