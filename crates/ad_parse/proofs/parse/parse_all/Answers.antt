use Rattle.std.proofs.Common.{◌≡◌, ◌<◌, length, refl, rules}
use Rattle.std.proofs.lemmas.Result.{err_from_is_err_and}
use Rattle.ad_tree.specs.Tree.{tree}
use Rattle.ad_parse.proofs.Whole.{all_read, some_left, not_read}
use Rattle.ad_parse.proofs.parse.parse_all.Goals as goal

pub returns-in_err-expr : goal.returns-in_err-expr
returns-in_err-expr c =
    let p = err_from_is_err_and c.from_residual.result c.from_residual.ensures.1 in
    rw (p.1, p.2) (not_read c.args.end c.args.tokens.now _ _ c.in_err-expr.ensures.value refl)

pub returns-then-is_empty : goal.returns-then-is_empty
returns-then-is_empty c =
    let none : length c.in_ok-expr.rest.now ≡ 0 = search rules in
    all_read c.args.end c.args.tokens.now _ (tree c.in_ok-expr.expr) c.in_ok-expr.rest.now c.in_ok-expr.ensures.value none refl

pub returns-else-is_empty : goal.returns-else-is_empty
returns-else-is_empty c =
    let some : 0 < length c.in_ok-expr.rest.now = search rules in
    some_left c.args.end c.args.tokens.now _ (tree c.in_ok-expr.expr) c.in_ok-expr.rest.now c.refusal_of.result c.in_ok-expr.ensures.value some c.refusal_of.ensures refl
