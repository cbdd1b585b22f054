use Rattle.std.proofs.Common.{◌≡◌, ◌∙◌, ap, sym, arith}
use Rattle.matchmaker.proofs.Turning.{turn_ended, turn_stopped, loop_none, loop_some}
use Rattle.std.proofs.Common.{Vec, Global}
use Rattle.matchmaker.specs.declared.course.Made.{Made}
use Rattle.matchmaker.proofs.bidding.turn.Goals as goal
use Rattle.matchmaker.proofs.bidding.turn.Goals.{in-Some-2+in_ok-one+in_ok-push, in_default-2}

pub returns-in_default : goal.returns-in_default
returns-in_default g c =
    turn_ended c.args.snapshot.now c.args.account.now c.loop-most.most c.loop-most.left.items c.pop_front.new.self.items c.loop-most.made.items
    c.in_default.ensures.items (sym c.pop_front.new.self.ok.0 ∙ c.in_default.ensures.cases.1) ∙ c.loop-most.invariant

pub loop-most-preserved : goal.loop-most-preserved
loop-most-preserved g c = elim c.match-branch-2.branch [
  | in-Some-2+in_ok-one+in_ok-push w ↦
      loop_some c.args.snapshot.now c.args.account.now c.loop-most.most c.match-branch-2.most c.in-Some.request c.pop_front.new.self.items c.loop-most.left.items
      c.loop-most.made.items c.deref.result.now c.match-branch-2.made.items w.in_ok-one.one c.in_ok-slot.field-0 w.in-Some-2.slot
      c.loop-most-test.true c.in-Some.ensures.items c.deref.ensures.value c.in_ok-slot.ensures w.in-Some-2.is w.in_ok-one.ensures
      (ap (λ (v : Vec Made Global). v.items) w.made-is ∙ w.in_ok-push.ensures.items) w.most-is ∙ c.loop-most.invariant
  | in_default-2 w ↦
      loop_none c.args.snapshot.now c.args.account.now c.loop-most.most c.match-branch-2.most c.in-Some.request c.pop_front.new.self.items c.loop-most.left.items
      c.loop-most.made.items c.deref.result.now c.match-branch-2.made.items c.in_ok-slot.field-0
      c.loop-most-test.true c.in-Some.ensures.items c.deref.ensures.value c.in_ok-slot.ensures w.in_default-2.is
      (ap (λ (v : Vec Made Global). v.items) w.made-is) w.most-is ∙ c.loop-most.invariant
]

pub returns : goal.returns
returns g c =
    let zero : c.loop-most.most ≡ 0 = omega (arith, c.loop-most-test.false) in
    turn_stopped c.args.snapshot.now c.args.account.now c.loop-most.most c.loop-most.left.items c.loop-most.made.items zero ∙ c.loop-most.invariant
