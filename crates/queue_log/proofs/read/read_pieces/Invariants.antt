-- What was read so far is what the first bytes of the file say, which the store still holds.
use Rattle.std.proofs.Common.{◌≡◌, ◌≤◌, ◌<◌, ◌-◌, ℕ, List, true, None, length, take}
use Rattle.pool_outer.specs.Files.{bytes_in}
use Rattle.queue_record.specs.ReadSoFar.{start, fed}
use Rattle.pool_store.specs.Moments.{KeepsFile}
use Rattle.queue_log.specs.Files.{IsSound}
use Rattle.queue_log.specs.Others.{KeepsOthers}
use Rattle.queue_log.proofs.read.read_pieces.Given as goal

abbrev pub invariant-pieces : goal.invariant-pieces
invariant-pieces g l = record {
  sound : IsSound l.reader;
  good : l.reader.refusal ≡ None;
  room : 0 < length l.piece.items;
  read : g.D.Store.tells l.fn.store ≡ true → l.reader ≡ fed start (take l.place (bytes_in (g.D.Store.file l.fn.store l.name)));
  within : g.D.Store.tells l.fn.store ≡ true → l.place ≤ length (bytes_in (g.D.Store.file l.fn.store l.name));
  keeps : g.D.Store.tells l.fn.store ≡ true → KeepsFile g.D.Store.file g.D.Store.solid g.D.Store.moment g.D.Store.left_since l.name l.fn.store l.store;
  others : g.D.Store.tells l.fn.store ≡ true → KeepsOthers g.D.Store.file g.D.Store.solid g.D.Store.moment g.D.Store.left_since l.name l.fn.store l.store;
  known : (other : List ℕ) → g.D.Store.known l.fn.store other ≡ true → g.D.Store.known l.store other ≡ true;
  told : g.D.Store.tells l.store ≡ g.D.Store.tells l.fn.store;
  later : g.D.Store.faults l.fn.store ≤ g.D.Store.faults l.store;
  steady : g.D.Store.faults l.store ≡ g.D.Store.faults l.fn.store;
}

abbrev pub decreases-pieces : goal.decreases-pieces
decreases-pieces g l = l.size - l.place
