use Rattle.std.proofs.Common.{◌≡◌, ◌∙◌, length, rules, tests}
use Rattle.submit_lines.proofs.Pieces.{plain_done}
use Rattle.submit_lines.proofs.arguments.plain_arguments.Goals as goal

pub returns : goal.returns
returns c =
    let none : length c.loop-rest.rest.now ≡ 0 = search (rules, tests) in
    c.from.ensures ∙ plain_done _ _ c.loop-rest.rest.now c.loop-rest.invariant.left none
