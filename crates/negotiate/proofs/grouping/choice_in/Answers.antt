use Rattle.std.proofs.Common.{◌∙◌, None, refl, sym}
use Rattle.negotiate.specs.Grouped.{is_free, choice_in}
use Rattle.negotiate.proofs.Judged.{chosen_begin, chosen_yes, chosen_no, chosen_end}
use Rattle.negotiate.proofs.grouping.choice_in.Goals as goal
use Rattle.negotiate.proofs.grouping.choice_in.Goals.{then-branch, else-branch}

pub loop-kept-init : goal.loop-kept-init
unfolding choice_in
loop-kept-init c = chosen_begin (is_free c.args.snapshot.now c.args.account.now c.args.made.now c.args.request.now) c.args.list.now None refl

pub loop-kept-preserved : goal.loop-kept-preserved
loop-kept-preserved c = elim c.if-branch.branch [
  | then-branch w ↦ rw w.best-is
      (chosen_yes (is_free c.args.snapshot.now c.args.account.now c.args.made.now c.args.request.now) c.args.list.now c.loop-kept.kept-index c.kept-item.result c.kept-item.result c.loop-kept.best w.better_kept.result
      c.loop-kept-test.true c.kept-item.is (sym c.in_ok-is_free.ensures ∙ w.if-branch.true) w.better_kept.ensures ∙ c.loop-kept.invariant)
  | else-branch w ↦ rw w.best-is
      (chosen_no (is_free c.args.snapshot.now c.args.account.now c.args.made.now c.args.request.now) c.args.list.now c.loop-kept.kept-index c.kept-item.result c.kept-item.result c.loop-kept.best
      c.loop-kept-test.true c.kept-item.is (sym c.in_ok-is_free.ensures ∙ w.if-branch.false) ∙ c.loop-kept.invariant)
]

pub returns : goal.returns
returns c = c.slot_of.ensures
    ∙ (sym (chosen_end (is_free c.args.snapshot.now c.args.account.now c.args.made.now c.args.request.now) c.args.list.now c.loop-kept.kept-index c.loop-kept.best c.loop-kept-test.false)
    ∙ c.loop-kept.invariant)
