-- What was read so far is a front of the file, which the store still holds.
use Rattle.std.proofs.Common.{length, vec_len, ◌-◌, ◌≡◌, ◌≤◌, true, take, Some}
use Rattle.std.specs.Option.{option_map}
use Rattle.pool_input.specs.declared.files.TheConstants.{MOST_BYTES}
use Rattle.pool_outer.specs.Files.{bytes_in, SameFiles}
use Rattle.pool_input.proofs.files.read_file.Given as goal

abbrev pub invariant-pieces : goal.invariant-pieces
invariant-pieces g l = record {
  size : g.D.Store.tells l.fn.store ≡ true → option_map length (g.D.Store.file l.fn.store l.name) ≡ Some l.size;
  front : g.D.Store.tells l.fn.store ≡ true → l.bytes.items ≡ take (length l.bytes.items) (bytes_in (g.D.Store.file l.fn.store l.name));
  short : l.size ≤ MOST_BYTES;
  room : g.D.Store.tells l.fn.store ≡ true → length l.bytes.items ≤ l.size;
  same : g.D.Store.tells l.fn.store ≡ true → SameFiles (g.D.Store.file l.fn.store) (g.D.Store.file l.store) (g.D.Store.solid l.fn.store) (g.D.Store.solid l.store);
  known : g.D.Store.known l.store l.name ≡ true;
  told : g.D.Store.tells l.store ≡ g.D.Store.tells l.fn.store;
  quiet : g.D.Store.faults l.store ≡ g.D.Store.faults l.fn.store;
}

abbrev pub decreases-pieces : goal.decreases-pieces
decreases-pieces g l = l.size - vec_len l.bytes
