-- The own attributes among those that were looked at.
use Rattle.std.proofs.Common.{◌≡◌, ◌≤◌, take}
use Rattle.queue_tx.specs.Room.{own_count}
use Rattle.queue_tx.proofs.room.own_count.Given as goal

abbrev pub invariant-loop-place : goal.invariant-loop-place
invariant-loop-place l = record { counted : l.count ≡ own_count l.key (take l.place l.ad); within : l.count ≤ l.place }
