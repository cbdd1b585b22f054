use Rattle.std.proofs.Common.{◌≡◌, ◌∙◌, Some, ap, length, rules, tests}
use Rattle.submit_lines.proofs.Pieces.{paired_done}
use Rattle.submit_lines.proofs.arguments.paired.Goals as goal

pub returns : goal.returns
returns c =
    let none : length c.loop-rest.rest.now ≡ 0 = search (rules, tests) in
    ap Some c.from.ensures ∙ paired_done _ _ c.loop-rest.rest.now c.loop-rest.invariant.left none
