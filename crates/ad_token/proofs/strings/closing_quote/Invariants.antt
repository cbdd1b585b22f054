-- The closing quote is among the bytes that are left.
use Rattle.std.proofs.Common.{◌≡◌, ◌+◌, drop, false}
use Rattle.std.specs.Option.{option_map}
use Rattle.ad_token.specs.Strings.{closing_quote}
use Rattle.ad_token.proofs.strings.closing_quote.Given as goal

abbrev pub invariant-loop-i : goal.invariant-loop-i
invariant-loop-i l = closing_quote false l.bytes ≡ option_map (λ n. n + l.i) (closing_quote l.escaped (drop l.i l.bytes))
