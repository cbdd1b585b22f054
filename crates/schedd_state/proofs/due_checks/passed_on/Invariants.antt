-- All jobs up to the key so far were looked at.
use Rattle.schedd_state.proofs.Passing.{left_above, IsStillPassed}
use Rattle.schedd_state.proofs.due_checks.passed_on.Given as goal

abbrev pub invariant-passing : goal.invariant-passing
invariant-passing l = IsStillPassed l.queue l.looks l.fn.passed l.far

abbrev pub decreases-passing : goal.decreases-passing
decreases-passing l = left_above l.far l.queue
