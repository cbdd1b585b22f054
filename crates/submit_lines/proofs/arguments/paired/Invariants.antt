-- What is written so far, and what is left.
use Rattle.std.proofs.Common.{◌≡◌, ◌++◌, length, string_bytes, option_map, IsUtf8}
use Rattle.submit_lines.specs.Arguments.{paired}
use Rattle.submit_lines.proofs.arguments.paired.Given as goal

abbrev pub invariant-loop-rest : goal.invariant-loop-rest
invariant-loop-rest l = record { left : paired l.text ≡ option_map (λ r. string_bytes l.arguments ++ r) (paired l.rest); utf8 : IsUtf8 l.rest }

abbrev pub decreases-loop-rest : goal.decreases-loop-rest
decreases-loop-rest l = length l.rest
