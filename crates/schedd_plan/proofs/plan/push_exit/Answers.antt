use Rattle.std.proofs.Common.{rules, ◌≡◌, ◌++◌, IfOk, sym, subst}
use Rattle.ad_tree.specs.Tree.{tree}
use Rattle.schedd_plan.specs.declared.plan.Completion.{Completion}
use Rattle.schedd_plan.specs.Plans.{exit_ops, whole_literal}
use Rattle.schedd_plan.proofs.PutLemmas.{set_both}
use Rattle.schedd_plan.proofs.plan.push_exit.Goals as goal

pub returns-in_ok-whole_expr-in-Exited : goal.returns-in_ok-whole_expr-in-Exited
returns-in_ok-whole_expr-in-Exited c =
    let number : tree c.in_ok-whole_expr-in-Exited.field-0 ≡ whole_literal c.in-Exited.code = search rules in
    subst (λ (k : Completion). IfOk c.push_set-in-Exited.result (λ v. c.push_set-in-Exited.new.tx ≡ c.args.tx.now ++ exit_ops c.args.job k)) (sym c.in-Exited.is)
    (set_both c.push_set-in-Exited.result c.args.tx.now c.push_set.new.tx c.push_set-in-Exited.new.tx _ _ _ _ _ _ _ c.truth_expr.ensures number c.in_ok-push_set-in-Exited.ensures c.push_set-in-Exited.ensures)

pub returns-in_ok-whole_expr-in-Signalled : goal.returns-in_ok-whole_expr-in-Signalled
returns-in_ok-whole_expr-in-Signalled c =
    let number : tree c.in_ok-whole_expr-in-Signalled.field-0 ≡ whole_literal c.in-Signalled.signal = search rules in
    subst (λ (k : Completion). IfOk c.push_set-in-Signalled-2.result (λ v. c.push_set-in-Signalled-2.new.tx ≡ c.args.tx.now ++ exit_ops c.args.job k)) (sym c.in-Signalled.is)
    (set_both c.push_set-in-Signalled-2.result c.args.tx.now c.push_set-in-Signalled.new.tx c.push_set-in-Signalled-2.new.tx _ _ _ _ _ _ _ c.truth_expr-in-Signalled.ensures number c.in_ok-push_set-in-Signalled.ensures c.push_set-in-Signalled-2.ensures)
