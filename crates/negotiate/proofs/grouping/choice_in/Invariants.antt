use Rattle.std.proofs.Common.{◌≡◌}
use Rattle.std.specs.Prelude.{option_map}
use Rattle.negotiate.specs.Grouped.{ranked, all_ranked, is_free, best_kept, choice_in}
use Rattle.negotiate.proofs.Judged.{left_of}
use Rattle.negotiate.proofs.grouping.choice_in.Given as goal

-- what is left gives what the whole gives
abbrev pub invariant-loop-kept : goal.invariant-loop-kept
invariant-loop-kept l =
    best_kept (option_map ranked l.best) (left_of (is_free l.snapshot l.account l.made l.request) l.list l.kept-index)
    ≡ choice_in l.snapshot l.account l.made l.request (all_ranked l.list)
