-- Two transactions are the same where their operations are.
use Rattle.std.proofs.Common.{◌≡◌, List, length, arith, ap, sym, ◌∙◌, refl, map, true≢false}
use Rattle.std.proofs.lemmas.List.{length-map}
use Rattle.queue_tx.specs.declared.op.Op.{Op}
use Rattle.queue_tx.specs.Operations.{operation}
use Rattle.ad_tree.proofs.TreeLemmas.{same_at, more_same, all_same}
use Rattle.queue_log.proofs.same.is_same_tx.Goals as goal

pub returns-then-not-is_same_op : goal.returns-then-not-is_same_op
returns-then-not-is_same_op c =
    let xs = c.ops-ops.result.now in
    let ys = c.ops-others.result.now in
    let here : map operation xs ≡ map operation ys → operation c.index-ops-i.result ≡ operation c.index-others-i.result =
    same_at operation xs ys c.loop-i.i c.index-ops-i.result c.index-others-i.result (omega arith) (omega (arith, c.loop-i.invariant.0)) c.index-ops-i.is c.index-others-i.is in (
      λ h. absurd (true≢false (sym h)),
      λ e. absurd (true≢false (sym (c.is_same_op.ensures.1 (here (c.ops-ops.ensures ∙ e ∙ sym c.ops-others.ensures))) ∙ c.if-not-is_same_op.true)),
    )

pub loop-i-preserved : goal.loop-i-preserved
loop-i-preserved c = (
  c.loop-i.invariant.0,
  more_same operation c.ops-ops.result.now c.ops-others.result.now c.loop-i.i c.index-ops-i.result c.index-others-i.result (omega arith) c.loop-i.invariant.0 c.index-ops-i.is c.index-others-i.is (c.is_same_op.ensures.0 c.if-not-is_same_op.false) c.loop-i.invariant.1,
)

pub returns : goal.returns
returns c =
    let all = all_same operation c.ops-ops.result.now c.ops-others.result.now c.loop-i.i (omega arith) c.loop-i.invariant.0 c.loop-i.invariant.1 in
    (λ _. sym c.ops-ops.ensures ∙ all ∙ c.ops-others.ensures, λ _. refl)

same_long : (xs ys : List Op) → map operation xs ≡ map operation ys → length xs ≡ length ys
same_long xs ys e = sym (length-map xs operation) ∙ ap length e ∙ length-map ys operation

pub returns-then-ops-others : goal.returns-then-ops-others
returns-then-ops-others c = (
  λ h. absurd (true≢false (sym h)),
  λ e. absurd (c.if-ops-others.true (same_long c.ops-ops.result.now c.ops-others.result.now (c.ops-ops.ensures ∙ e ∙ sym c.ops-others.ensures))),
)
