-- What the loops of reading several operands or items give.
use Rattle.std.proofs.Common.{◌≡◌, ◌++◌, ◌+◌, ◌-◌, ◌≤◌, ◌∷◌, [], Ok, map, length, sym, ap, subst, ◌∙◌, arith, rules, Some, None}
use Rattle.std.proofs.lemmas.Result.{err_from_is_err_and}
use Rattle.std.proofs.lemmas.List.{map_push}
use Rattle.ad_tree.specs.Tree.{tree, rest, rests}
use Rattle.ad_tree.specs.declared.tree.Expr.{the_lemmas}
use Rattle.ad_tree.specs.declared.tree.RestList.{roll-RestList}
use Rattle.ad_parse.specs.Reader.{level_at, operand_at, cond_at, rests_at, infix_at, comma_at, more_items_at}
use Rattle.ad_parse.proofs.Steps.{fails_on, fails_with, after_rests, after_trees, infix_shorter, comma_shorter, rests_fail, rests_turn, rests_end, items_fail, items_turn, items_end, items_open}
use Rattle.ad_parse.proofs.parse.Parser.+parse.Goals as goal

pub parse_rests-returns-in_err-arg-clause-value : goal.parse_rests-returns-in_err-arg-clause-value
parse_rests-returns-in_err-arg-clause-value t c =
    let p = err_from_is_err_and c.from_residual.result c.from_residual.ensures.1 in
    let i = c.loop-op.invariant in
    let h : infix_at c.args.level c.loop-op.rest.now ≡ Some (c.in-Some.op, c.in-Some.after.now) = search rules in
    rw (p.1, p.2) (fails_on _ _ _ (rests_fail (level_at (operand_at c.args.self.end c.args.self.left) (c.args.level - 1)) c.args.level i.0 c.loop-op.rest.now c.in-Some.after.now (map rest c.loop-op.items.items) _ i.1 i.2 c.in-Some.op h) c.in_err-arg.ensures.value)

pub parse_rests-loop-op-preserved : goal.parse_rests-loop-op-preserved
parse_rests-loop-op-preserved t c =
    let i = c.loop-op.invariant in
    let operand = level_at (operand_at c.args.self.end c.args.self.left) (c.args.level - 1) in
    let h : infix_at c.args.level c.loop-op.rest.now ≡ Some (c.in-Some.op, c.in-Some.after.now) = search rules in
    let less : length c.in-Some.after.now + 1 ≤ length c.loop-op.rest.now = infix_shorter c.args.level c.loop-op.rest.now c.in-Some.after.now c.in-Some.op h in
    let turn = rests_turn operand c.args.level i.0 c.loop-op.rest.now c.in-Some.after.now (map rest c.loop-op.items.items) _ i.1 i.2 c.in-Some.op (tree c.in_ok-arg.arg) c.in_ok-arg.after.now h c.in_ok-arg.ensures.value in
    let pushed : map rest c.push.new.self.items ≡ map rest c.loop-op.items.items ++ (c.in-Some.op, tree c.in_ok-arg.arg) ∷ [] = rw (c.in_ok-push.ensures.items, map_push) (search (rules, the_lemmas)) in
    let shorter = c.in_ok-arg.ensures.shorter in
    (i.0 - 1, omega (arith, i.1), subst (λ rs. rests_at operand c.args.level (length c.args.tokens.now) c.args.tokens.now ≡ after_rests rs (rests_at operand c.args.level (i.0 - 1) c.in_ok-arg.after.now)) (sym pushed) turn, omega (arith, i.3))

pub parse_rests-returns-clause-value : goal.parse_rests-returns-clause-value
parse_rests-returns-clause-value t c =
    let i = c.loop-op.invariant in
    let h : infix_at c.args.level c.loop-op.rest.now ≡ None = search rules in
    let seen : rests (roll-RestList (record { items = c.loop-op.items })) ≡ map rest c.loop-op.items.items = search (rules, the_lemmas) in
    rests_end (level_at (operand_at c.args.self.end c.args.self.left) (c.args.level - 1)) c.args.level i.0 c.loop-op.rest.now [] (map rest c.loop-op.items.items) _ i.1 i.2 _ seen h

pub parse_more_conditions-returns-in_err-item-clause-value : goal.parse_more_conditions-returns-in_err-item-clause-value
parse_more_conditions-returns-in_err-item-clause-value t c =
    let p = err_from_is_err_and c.from_residual-in_err-item.result c.from_residual-in_err-item.ensures.1 in
    let i = c.loop-after.invariant in
    let h : comma_at c.loop-after.rest.now ≡ Some c.in-Some.after.now = search rules in
    rw (p.1, p.2) (fails_on _ _ _ (items_fail c.args.bracket c.args.self.end (cond_at c.args.self.end c.args.self.left) i.0 c.loop-after.rest.now (map tree c.loop-after.items.items) _ i.1 i.2 c.in-Some.after.now h) c.in_err-item.ensures.value)

pub parse_more_conditions-loop-after-preserved : goal.parse_more_conditions-loop-after-preserved
parse_more_conditions-loop-after-preserved t c =
    let i = c.loop-after.invariant in
    let h : comma_at c.loop-after.rest.now ≡ Some c.in-Some.after.now = search rules in
    let less : length c.in-Some.after.now + 1 ≤ length c.loop-after.rest.now = comma_shorter c.loop-after.rest.now c.in-Some.after.now h in
    let turn = items_turn c.args.bracket c.args.self.end (cond_at c.args.self.end c.args.self.left) i.0 c.loop-after.rest.now (map tree c.loop-after.items.items) _ i.1 i.2 c.in-Some.after.now (tree c.in_ok-item.item) c.in_ok-item.after.now h c.in_ok-item.ensures.value in
    let pushed : map tree c.push.new.self.items ≡ map tree c.loop-after.items.items ++ tree c.in_ok-item.item ∷ [] = rw c.in_ok-push.ensures.items (map_push _ c.loop-after.items.items c.in_ok-item.item) in
    let shorter = c.in_ok-item.ensures.shorter in
    (i.0 - 1, omega (arith, i.1), turn ∙ ap (λ es. after_trees es (more_items_at c.args.bracket c.args.self.end (cond_at c.args.self.end c.args.self.left) (i.0 - 1) c.in_ok-item.after.now)) (sym pushed), omega (arith, i.3))

pub parse_more_conditions-returns-in_err-rest-clause-value : goal.parse_more_conditions-returns-in_err-rest-clause-value
parse_more_conditions-returns-in_err-rest-clause-value t c =
    let p = err_from_is_err_and c.from_residual-in_err-rest.result c.from_residual-in_err-rest.ensures.1 in
    let i = c.loop-after.invariant in
    let h : comma_at c.loop-after.rest.now ≡ None = search rules in
    rw (p.1, p.2) (fails_with c.in_err-rest.field-0.0 _ (items_open c.args.bracket c.args.self.end (cond_at c.args.self.end c.args.self.left) i.0 c.loop-after.rest.now (map tree c.loop-after.items.items) _ i.1 i.2 h _ c.in_err-rest.ensures.value))

pub parse_more_conditions-returns-clause-value : goal.parse_more_conditions-returns-clause-value
parse_more_conditions-returns-clause-value t c =
    let i = c.loop-after.invariant in
    let h : comma_at c.loop-after.rest.now ≡ None = search rules in
    let all = items_end c.args.bracket c.args.self.end (cond_at c.args.self.end c.args.self.left) i.0 c.loop-after.rest.now (map tree c.loop-after.items.items) _ i.1 i.2 c.in_ok-rest.rest.now h c.in_ok-rest.ensures.value in
    all ∙ search (rules, the_lemmas)
