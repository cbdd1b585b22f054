use Rattle.matchmaker.proofs.Choices.{better_new, better_old, better_first}
use Rattle.matchmaker.proofs.choosing.better.Goals as goal

pub returns-then-branch : goal.returns-then-branch
returns-then-branch c = better_new c.args.now c.args.request.now c.args.best c.in-Some.best c.args.slot.now c.in_ok-goes_before.field-0 c.in-Some.is c.in_ok-goes_before.ensures c.if-branch.true

pub returns-else-branch : goal.returns-else-branch
returns-else-branch c = better_old c.args.now c.args.request.now c.args.best c.in-Some.best c.args.slot.now c.in_ok-goes_before.field-0 c.in-Some.is c.in_ok-goes_before.ensures c.if-branch.false

pub returns-in_default : goal.returns-in_default
returns-in_default c = better_first c.args.now c.args.request.now c.args.best c.args.slot.now c.in_default.is
