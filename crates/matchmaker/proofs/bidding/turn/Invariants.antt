use Rattle.std.proofs.Common.{◌≡◌, length}
use Rattle.matchmaker.specs.Cycle as cycle
use Rattle.matchmaker.proofs.bidding.turn.Given as goal

-- what is left of the turn is the whole turn
abbrev pub invariant-loop-most : goal.invariant-loop-most
invariant-loop-most g l = cycle.turn l.snapshot l.account l.most l.left.items l.made.items
    ≡ cycle.turn l.fn.snapshot l.fn.account l.fn.most l.fn.left.items l.fn.made.items

abbrev pub decreases-loop-most : goal.decreases-loop-most
decreases-loop-most g l = length l.left.items
