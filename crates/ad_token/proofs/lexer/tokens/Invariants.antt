-- The tokens so far, and those of what is left.
use Rattle.std.proofs.Common.{◌≡◌, ◌+◌, ◌++◌, length, IsUtf8}
use Rattle.ad_token.specs.Lexing.{tokens_from, tokens_of}
use Rattle.ad_token.proofs.lexer.tokens.Given as goal

abbrev pub invariant-loop-rest : goal.invariant-loop-rest
invariant-loop-rest l = (tokens_of l.text ≡ l.list.items ++ tokens_from l.at l.rest) × (l.at + length l.rest ≡ length l.text) × IsUtf8 l.rest

abbrev pub decreases-loop-rest : goal.decreases-loop-rest
decreases-loop-rest l = length l.rest
