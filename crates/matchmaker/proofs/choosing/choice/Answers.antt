use Rattle.std.proofs.Common.{sym, ◌∙◌, ap, List}
use Rattle.std.specs.Prelude.{option_copied}
use Rattle.std.proofs.lemmas.List.{drop_all}
use Rattle.std.specs.List.{filter}
use Rattle.matchmaker.specs.Cycle.{choice, candidates, may_choose, first_of}
use Rattle.matchmaker.specs.Loops.{best_with, best_with_end}
use Rattle.matchmaker.proofs.Choices.{chosen_better, chosen_same}
use Rattle.matchmaker.specs.declared.snapshot.Offer.{Offer}
use Rattle.matchmaker.proofs.choosing.choice.Goals as goal
use Rattle.matchmaker.proofs.choosing.choice.Goals.{then-branch+in_ok-better, else-branch}

pub loop-slot-init : goal.loop-slot-init
unfolding choice candidates best_with
loop-slot-init g c = ap (λ (xs : List Offer). first_of c.args.snapshot.now.now c.args.request.now (filter (may_choose c.args.snapshot.now c.args.account.now c.args.made.now c.args.request.now) xs)) c.as_slice-slots.ensures

pub loop-slot-preserved : goal.loop-slot-preserved
loop-slot-preserved g c = elim c.if-branch.branch [
  | then-branch+in_ok-better w ↦
      chosen_better c.args.snapshot.now.now c.args.request.now c.loop-slot.best c.if-branch.best w.in_ok-better.field-0 (may_choose c.args.snapshot.now c.args.account.now c.args.made.now c.args.request.now) c.as_slice-slots.result.now
      c.loop-slot.slot-index c.slot-item.result c.in_ok-may_choose.field-0 c.loop-slot-test.true c.slot-item.is c.in_ok-may_choose.ensures w.if-branch.true w.best-is w.in_ok-better.ensures
      ∙ c.loop-slot.invariant
  | else-branch w ↦
      chosen_same c.args.snapshot.now.now c.args.request.now c.loop-slot.best c.if-branch.best (may_choose c.args.snapshot.now c.args.account.now c.args.made.now c.args.request.now) c.as_slice-slots.result.now
      c.loop-slot.slot-index c.slot-item.result c.in_ok-may_choose.field-0 c.loop-slot-test.true c.slot-item.is c.in_ok-may_choose.ensures w.if-branch.false w.best-is
      ∙ c.loop-slot.invariant
]

pub returns : goal.returns
returns g c = sym (best_with_end c.args.snapshot.now.now c.args.request.now (option_copied c.loop-slot.best))
    ∙ (sym (ap (λ (xs : List Offer). best_with c.args.snapshot.now.now c.args.request.now (option_copied c.loop-slot.best) (filter (may_choose c.args.snapshot.now c.args.account.now c.args.made.now c.args.request.now) xs))
    (drop_all c.loop-slot.slot-index c.as_slice-slots.result.now c.loop-slot-test.false))
    ∙ c.loop-slot.invariant)
