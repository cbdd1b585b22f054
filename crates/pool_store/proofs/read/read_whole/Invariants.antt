-- What was read so far is a prefix of the file, which the store still holds.
use Rattle.std.proofs.Common.{◌≡◌, ◌<◌, ◌-◌, ◌^◌, ℕ, List, true, length, take, vec_len}
use Rattle.pool_outer.specs.Files.{bytes_in, SameFiles}
use Rattle.pool_store.specs.Moments.{KeepsFile}
use Rattle.pool_store.proofs.read.read_whole.Given as goal

abbrev pub invariant-pieces : goal.invariant-pieces
invariant-pieces g l = record {
  room : 0 < length l.piece.items;
  front : g.D.Store.tells l.fn.store ≡ true → l.bytes.items ≡ take (length l.bytes.items) (bytes_in (g.D.Store.file l.fn.store l.name));
  same : g.D.Store.tells l.fn.store ≡ true → SameFiles (g.D.Store.file l.fn.store) (g.D.Store.file l.store) (g.D.Store.solid l.fn.store) (g.D.Store.solid l.store);
  keeps : g.D.Store.tells l.fn.store ≡ true → (each : List ℕ) → KeepsFile g.D.Store.file g.D.Store.solid g.D.Store.moment g.D.Store.left_since each l.fn.store l.store;
  known : (other : List ℕ) → g.D.Store.known l.fn.store other ≡ true → g.D.Store.known l.store other ≡ true;
  told : g.D.Store.tells l.store ≡ g.D.Store.tells l.fn.store;
  calm : g.D.Store.faults l.store ≡ g.D.Store.faults l.fn.store;
}

abbrev pub decreases-pieces : goal.decreases-pieces
decreases-pieces g l = 2 ^ 63 - vec_len l.bytes
