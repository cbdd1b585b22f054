use Rattle.std.proofs.Common.{◌≡◌, ◌∙◌, Some, ap, option_map, sym}
use Rattle.ad_tree.specs.Tree.{tree}
use Rattle.pool_config.specs.Configuration.{machine_of}
use Rattle.pool_config.specs.Settings.{attribute_with, expression_in}
use Rattle.pool_config.proofs.Becoming.{attribute_becomes}
use Rattle.pool_config.proofs.config.Machine.set_attribute.Goals as goal

pub returns : goal.returns
returns c =
    let said : Some (tree c.in-Some.expr) ≡ expression_in c.args.text.now = ap (option_map tree) (sym c.in-Some.is) ∙ c.in_ok-expr.ensures in
    attribute_becomes c.args.name.now c.args.line (machine_of c.args.self.now) (tree c.in-Some.expr) c.set_own.new.attrs c.set_own.result _ said c.set_own.ensures

pub returns-in_default : goal.returns-in_default
returns-in_default c =
    ap (attribute_with c.args.name.now c.args.line (machine_of c.args.self.now)) (ap (option_map tree) (sym c.in_default.is) ∙ c.in_ok-expr.ensures)
