use Rattle.ad_tree.specs.Tree.{tree}
use Rattle.ad_parse.proofs.Reread.{printed_again}
use Rattle.ad_parse.proofs.print.print_expr.Goals as goal

pub returns-clause-again : goal.returns-clause-again
returns-clause-again c = printed_again c.canonical_text.result (tree c.args.expr.now) c.canonical_text.ensures
