use Rattle.std.proofs.Common.{◌∙◌, ap, option_map, sym, Ok}
use Rattle.ad_tree.specs.declared.tree.Expr.{Expr}
use Rattle.ad_tree.specs.Tree.{Tree, tree}
use Rattle.pool_config.specs.Settings.{with_value}
use Rattle.pool_config.proofs.value.set_expression.Goals as goal

pub returns-in-Some : goal.returns-in-Some
returns-in-Some c =
    ap (λ (e : Expr). Ok (tree e)) c.replace.ensures.after ∙ ap (with_value c.args.line (λ (e : Tree). e)) (ap (option_map tree) (sym c.in-Some.is) ∙ c.in_ok-said.ensures)

pub returns-in-None : goal.returns-in-None
returns-in-None c = ap (with_value c.args.line (λ (e : Tree). e)) (ap (option_map tree) (sym c.in-None.is) ∙ c.in_ok-said.ensures)
