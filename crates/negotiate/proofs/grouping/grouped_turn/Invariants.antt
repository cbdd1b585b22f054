use Rattle.std.proofs.Common.{length}
use Rattle.matchmaker.specs.Cycle.{turn}
use Rattle.negotiate.specs.Parties.{requests_of}
use Rattle.negotiate.proofs.ListTables.{TurnLeft}
use Rattle.negotiate.proofs.grouping.grouped_turn.Given as goal

abbrev pub invariant-loop-most : goal.invariant-loop-most
invariant-loop-most g l =
    TurnLeft l.snapshot l.account (turn l.fn.snapshot l.fn.account l.fn.most (requests_of l.fn.left.items) l.fn.made.items) l.fn.lists.items l.fn.steps
    l.most l.left.items l.made.items l.lists.items l.steps

abbrev pub decreases-loop-most : goal.decreases-loop-most
decreases-loop-most g l = length l.left.items
