-- The text so far, and whatever the other events print, is what all of them print.
use Rattle.std.proofs.Common.{◌≤◌, ◌+◌, ◌++◌, ℕ, List, string_bytes, length}
use Rattle.pool_input.specs.Readings.{AreReadings}
use Rattle.pool_master.specs.UserLog.{ArePrinted}
use Rattle.pool_master.proofs.user_log.events_text.Given as goal

abbrev pub invariant-steps : goal.invariant-steps
invariant-steps l = record {
  so_far : (more : List ℕ) → ArePrinted l.slots l.last l.rest more → ArePrinted l.slots 0 l.steps (string_bytes l.text ++ more);
  in_range : AreReadings l.rest;
  few : l.last + length l.rest ≤ length l.steps;
}

abbrev pub decreases-steps : goal.decreases-steps
decreases-steps l = length l.rest
