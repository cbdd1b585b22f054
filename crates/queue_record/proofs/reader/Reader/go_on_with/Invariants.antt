-- What comes of the bytes that are left comes of all.
use Rattle.std.proofs.Common.{◌≡◌, length, None}
use Rattle.queue_record.specs.ReadSoFar.{fed}
use Rattle.queue_record.proofs.reader.Reader.go_on_with.Given as goal

abbrev pub invariant-loop-text : goal.invariant-loop-text
invariant-loop-text l = record {
  good : l.self.refusal ≡ None;
  rest : fed l.self l.rest ≡ fed l.fn.self l.piece;
}

abbrev pub decreases-loop-text : goal.decreases-loop-text
decreases-loop-text l = length l.rest
