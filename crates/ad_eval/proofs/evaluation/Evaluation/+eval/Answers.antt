use Rattle.std.proofs.Common.{sym, ◌∙◌, arith}
use Rattle.ad_eval.proofs.Looks.{error_is, undefined_is, looked_none, looked_missing, looked_again, looked_found, looked_literal, tree_of_literal, gives_same}
use Rattle.ad_eval.proofs.evaluation.Evaluation.+eval.Goals as goal

pub refer-returns-then-len-ge-MOST_IN_PROGRESS-clause-value : goal.refer-returns-then-len-ge-MOST_IN_PROGRESS-clause-value
refer-returns-then-len-ge-MOST_IN_PROGRESS-clause-value t c =
    error_is ∙ sym (looked_none _ _ _ _ _ _ (omega (arith, c.len.ensures, c.if-len-ge-MOST_IN_PROGRESS.true)))

pub refer-returns-in_default-clause-value : goal.refer-returns-in_default-clause-value
refer-returns-in_default-clause-value t c =
    undefined_is ∙ sym (looked_missing _ _ _ _ _ _ (omega (arith, c.len.ensures, c.if-len-ge-MOST_IN_PROGRESS.false)) (sym c.in_default.ensures.value))

pub refer-returns-then-contains-clause-value : goal.refer-returns-then-contains-clause-value
refer-returns-then-contains-clause-value t c =
    error_is
    ∙ sym (looked_again _ _ _ _ _ _ (omega (arith, c.len.ensures, c.if-len-ge-MOST_IN_PROGRESS.false)) _ (sym c.in-Some.ensures.value) (sym c.contains.ensures ∙ c.if-contains.true))

pub refer-returns-clause-value : goal.refer-returns-clause-value
refer-returns-clause-value t c =
    c.in_ok-value.ensures.value
    ∙ sym (looked_found _ _ _ _ _ _ (omega (arith, c.len.ensures, c.if-len-ge-MOST_IN_PROGRESS.false)) _ (sym c.in-Some.ensures.value) (sym c.contains.ensures ∙ c.if-contains.false) _ c.in_ok-push.ensures)

pub refer-returns-in-Lit-clause-value : goal.refer-returns-in-Lit-clause-value
refer-returns-in-Lit-clause-value t c =
    gives_same _ _ _ (looked_literal _ _ _ _ _ _ (omega (arith, c.len.ensures, c.if-len-ge-MOST_IN_PROGRESS.false)) _ (sym c.in-Some.ensures.value) (sym c.contains.ensures ∙ c.if-contains.false) _ (tree_of_literal _ _ c.in-Lit.is)) c.copy.ensures
