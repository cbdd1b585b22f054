use Rattle.std.proofs.Common.{◌≡◌, drop}
use Rattle.std.specs.Prelude.{option_copied}
use Rattle.std.specs.List.{filter}
use Rattle.matchmaker.specs.Cycle as cycle
use Rattle.matchmaker.specs.Loops as loops
use Rattle.matchmaker.proofs.choosing.choice.Given as goal

-- what is left gives what the whole gives
abbrev pub invariant-loop-slot : goal.invariant-loop-slot
invariant-loop-slot g l =
    loops.best_with l.snapshot.now l.request (option_copied l.best) (filter (cycle.may_choose l.snapshot l.account l.made l.request) (drop l.slot-index l.slots))
    ≡ cycle.choice l.snapshot l.account l.made l.request
