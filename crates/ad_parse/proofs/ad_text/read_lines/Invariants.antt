-- What the lines that are left make of the ad so far.
use Rattle.std.proofs.Common.{◌≡◌, ℕ, List}
use Rattle.ad_parse.specs.AdText.{ad_at, with_lines}
use Rattle.ad_parse.proofs.Lines.{AreLeft}
use Rattle.ad_parse.proofs.ad_text.read_lines.Given as goal

abbrev pub invariant-loop-line : goal.invariant-loop-line
invariant-loop-line l =
    (more : List (List ℕ)) × AreLeft l.line-iterator more × (ad_at l.text ≡ with_lines l.number l.ad more)
