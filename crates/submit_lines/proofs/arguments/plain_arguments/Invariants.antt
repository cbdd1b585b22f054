-- What is written so far, and what is left.
use Rattle.std.proofs.Common.{◌≡◌, ◌++◌, length, string_bytes, IsUtf8}
use Rattle.submit_lines.specs.Arguments.{plain_arguments}
use Rattle.submit_lines.proofs.arguments.plain_arguments.Given as goal

abbrev pub invariant-loop-rest : goal.invariant-loop-rest
invariant-loop-rest l = record { left : plain_arguments l.text ≡ string_bytes l.arguments ++ plain_arguments l.rest; utf8 : IsUtf8 l.rest }

abbrev pub decreases-loop-rest : goal.decreases-loop-rest
decreases-loop-rest l = length l.rest
