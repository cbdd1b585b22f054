use Rattle.std.proofs.Common.{◌≡◌, ◌<◌, length, sym, ◌∙◌, rules}
use Rattle.ad_tree.specs.Tree.{tree, rests, rests_of, chain}
use Rattle.ad_tree.specs.declared.tree.Expr.{the_lemmas}
use Rattle.ad_tree.specs.declared.tree.Expr.TheVariants.{Chain}
use Rattle.ad_tree.specs.declared.tree.RestList.{out-RestList}
use Rattle.ad_parse.proofs.Steps.{chain_of-none, chain_of-rests}
use Rattle.ad_parse.proofs.parse.chain_of.Goals as goal

pub returns-then-is_empty : goal.returns-then-is_empty
returns-then-is_empty c =
    let e : length (out-RestList c.args.rest).items.items ≡ 0 = search rules in
    sym (chain_of-none _ c.args.rest e)

pub returns : goal.returns
returns c =
    let e : 0 < length (out-RestList c.args.rest).items.items = search rules in
    let made : tree (Chain c.in_ok-first.first c.args.rest) ≡ chain (tree c.args.first) (rests_of (rests c.args.rest)) = search (rules, the_lemmas) in
    made ∙ sym (chain_of-rests _ c.args.rest e)
