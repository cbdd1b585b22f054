-- What was written so far is the front that is done.
use Rattle.std.proofs.Common.{length, ◌-◌, ◌≡◌, ◌≤◌, ◌++◌, true, take}
use Rattle.pool_master.proofs.output.write_all.Given as goal

abbrev pub invariant-writes : goal.invariant-writes
invariant-writes g l = record {
  fits : l.done ≤ length l.bytes;
  written : g.K.Sink.tells l.fn.out ≡ true → g.K.Sink.written l.out ≡ g.K.Sink.written l.fn.out ++ take l.done l.bytes;
  told : g.K.Sink.tells l.out ≡ g.K.Sink.tells l.fn.out;
  quiet : g.K.Sink.faults l.out ≡ g.K.Sink.faults l.fn.out;
}

abbrev pub decreases-writes : goal.decreases-writes
decreases-writes g l = length l.bytes - l.done
