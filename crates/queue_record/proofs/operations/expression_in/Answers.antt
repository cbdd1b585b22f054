use Rattle.std.proofs.Common.{◌≡◌, ◌≢◌, ℕ, List, Option, None, Result, Ok, Err, IfOk, ap, sym, ◌∙◌}
use Rattle.std.specs.Option.{option_map}
use Rattle.ad_value.specs.declared.memory.Memory.{Memory}
use Rattle.ad_tree.specs.declared.tree.Expr.{Expr}
use Rattle.ad_tree.specs.Tree.{tree}
use Rattle.ad_parse.specs.declared.error.ParseError.{ParseError}
use Rattle.ad_parse.specs.declared.error.ParseError.TheVariants as parse
use Rattle.ad_parse.specs.ExprText.{IsRefused, expression_at}
use Rattle.ad_parse.proofs.Texts.{said_is_read, cause_is_read}
use Rattle.queue_record.specs.Entries.{tree_in}
use Rattle.queue_record.proofs.operations.expression_in.Goals as goal

no_tree : (text : List ℕ) (f : ParseError) (r : Result (Option Expr) Memory) → IfOk r (λ e. (e ≡ None) × (f ≢ parse.Memory)) → (f ≢ parse.Memory → IsRefused text f)
    → IfOk r (λ e. option_map tree e ≡ tree_in (expression_at text))
no_tree text f (Ok e) is cause = ap (option_map tree) is.0 ∙ sym (ap tree_in (cause_is_read text f (cause is.1)))
no_tree text f (Err m) is cause = tt

pub returns-in-Ok : goal.returns-in-Ok
returns-in-Ok c = sym (ap tree_in (said_is_read c.args.text.now (tree c.in-Ok.expr) c.in-Ok.ensures.found))

pub returns-in-Err : goal.returns-in-Err
returns-in-Err c = no_tree c.args.text.now c.in-Err.error c.no_expression.result c.no_expression.ensures c.in-Err.ensures.refused
