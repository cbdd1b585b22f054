use Rattle.std.proofs.Common.{◌<◌, ◌≤◌, [], ◌∷◌, ◌++◌, length, map, ap, sym, ◌∙◌, arith, refl}
use Rattle.std.proofs.lemmas.List.{append-nil, append_assoc, drop_all}
use Rattle.ad_value.specs.Content.{undefined}
use Rattle.ad_tree.specs.Tree.{literal}
use Rattle.pool_parts.specs.Submissions.{attribute_op, new_ad_op}
use Rattle.pool_parts.proofs.Pushing.{attribute_more}
use Rattle.pool_parts.proofs.submission.push_ad.Goals as goal

pub loop-place-init : goal.loop-place-init
loop-place-init c = refl

pub loop-place-preserved : goal.loop-place-preserved
loop-place-preserved c =
    let len = c.len-place-end.ensures.len in
    let less : c.loop-place.place < length c.args.ad.now = omega arith in
    attribute_more c.args.key c.args.ad.now c.loop-place.place ([], literal undefined) _ c.loop-place.tx c.push_attribute.new.tx less c.loop-place.invariant c.in_ok-push_attribute.ensures

pub returns : goal.returns
returns c =
    let len = c.len-place-end.ensures.len in
    let past : length c.args.ad.now ≤ c.loop-place.place = omega arith in
    let all = map (attribute_op c.args.key) c.args.ad.now in
    sym (append-nil c.loop-place.tx)
    ∙ ap (λ l. c.loop-place.tx ++ map (attribute_op c.args.key) l) (sym (drop_all c.loop-place.place c.args.ad.now past))
    ∙ c.loop-place.invariant
    ∙ ap (λ l. l ++ all) c.in_ok-push_new.ensures
    ∙ append_assoc c.args.tx.now (new_ad_op c.args.key ∷ []) all
