use Rattle.std.proofs.Common.{◌∙◌, ap, cond, Ok, Err}
use Rattle.ad_tree.specs.Ad.{with_attribute}
use Rattle.ad_tree.specs.Tree.{tree}
use Rattle.pool_config.specs.declared.error.ConfigError.TheVariants.{Full}
use Rattle.pool_config.proofs.Becoming.{full_refused}
use Rattle.pool_config.proofs.machine.set_own.Goals as goal

pub returns-then-is_full : goal.returns-then-is_full
returns-then-is_full c = ap (λ b. cond b (Err (Full c.args.line)) (Ok (with_attribute c.args.name.now (tree c.args.expr) c.args.attrs.now))) c.if-is_full.ensures

pub returns-in-Ok : goal.returns-in-Ok
returns-in-Ok c = ap (λ ad. Ok ad) c.in-Ok.ensures.ok ∙ ap (λ b. cond b (Err (Full c.args.line)) (Ok (with_attribute c.args.name.now (tree c.args.expr) c.args.attrs.now))) c.if-is_full.ensures

pub returns-in-Err-Full : goal.returns-in-Err-Full
returns-in-Err-Full c = full_refused c.args.name.now c.args.line (tree c.args.expr) c.args.attrs.now (c.in-Err-Full.ensures.full.0 (ap (λ e. Err e) c.in-Err-Full.field-0-is))
