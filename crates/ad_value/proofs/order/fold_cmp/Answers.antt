use Rattle.std.proofs.Common.{◌∙◌, sym}
use Rattle.std.specs.Cmp.Lexicographic.{slice_cmp, bytes_decides}
use Rattle.std.specs.Ordering.{nat_cmp}
use Rattle.ad_value.specs.Names.{lowercase}
use Rattle.ad_value.proofs.FoldLemmas.{folded_order-ascii, folded_order-same}
use Rattle.ad_value.proofs.order.fold_cmp.Goals as goal

pub returns-then-eq-clause-value : goal.returns-then-eq-clause-value
returns-then-eq-clause-value c =
    sym (folded_order-same _ _ ((bytes_decides c.args.a.now c.args.b.now).0 (sym c.eq.ensures ∙ c.if-eq.true)))

pub returns-then-is_ascii-2-clause-value : goal.returns-then-is_ascii-2-clause-value
returns-then-is_ascii-2-clause-value c =
    c.ascii_cmp.ensures
    ∙ (λ i. slice_cmp nat_cmp (lowercase (c.as_bytes.ensures.value i)) (lowercase (c.as_bytes-then-is_ascii-2.ensures.value i)))
    ∙ sym (folded_order-ascii _ _ c.if-is_ascii.ensures.cases c.if-is_ascii-2.ensures.cases)
