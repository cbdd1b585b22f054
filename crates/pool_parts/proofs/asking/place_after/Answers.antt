use Rattle.std.proofs.Common.{◌≡◌, ◌<◌, true, false, length, sym, ◌∙◌, arith}
use Rattle.std.proofs.lemmas.Option.{slice_get_within}
use Rattle.ad_tree.specs.Tree.{tree}
use Rattle.pool_parts.proofs.RequestWalk.{beside_request, request_goes_on, request_ends}
use Rattle.pool_parts.proofs.asking.place_after.Goals as goal

pub overflow_add-result : goal.overflow_add-result
overflow_add-result c =
    let within : c.args.place < length c.args.request.now = slice_get_within c.args.request.now c.args.place _ (c.is_attribute_at.ensures.0 c.if-is_attribute_at.true) in
    omega arith

pub returns-then-is_run_name : goal.returns-then-is_run_name
returns-then-is_run_name c = (
  c.requires.place,
  beside_request c.args.request.now c.args.ad.now c.args.place c.args.own (c.in_ok-name.name.now, tree c.in_ok-name.expr.now) (sym c.in_ok-name.ensures) (sym c.is_run_name.ensures ∙ c.if-is_run_name.true),
)

pub returns-then-is_attribute_at : goal.returns-then-is_attribute_at
returns-then-is_attribute_at c =
    request_goes_on c.args.request.now c.args.ad.now c.args.place c.args.own (c.in_ok-name.name.now, tree c.in_ok-name.expr.now) (sym c.in_ok-name.ensures) (sym c.is_run_name.ensures ∙ c.if-is_run_name.false)
    (c.is_attribute_at.ensures.0 c.if-is_attribute_at.true)

pub returns : goal.returns
returns c =
    request_ends c.args.request.now c.args.ad.now c.args.place c.args.own (c.in_ok-name.name.now, tree c.in_ok-name.expr.now) (sym c.in_ok-name.ensures) (sym c.is_run_name.ensures ∙ c.if-is_run_name.false)
    (λ there. absurd (let no : true ≡ false = sym (c.is_attribute_at.ensures.1 there) ∙ c.if-is_attribute_at.false in cc))
