use Rattle.std.proofs.Common.{◌∙◌, ap}
use Rattle.std.specs.Ordering.{is_eq}
use Rattle.ad_value.proofs.FoldLemmas.{folded_order-is_eq}
use Rattle.ad_value.proofs.order.fold_eq.Goals as goal

pub returns : goal.returns
returns c = folded_order-is_eq _ _ _ (c.is_eq.ensures ∙ ap is_eq c.in_ok-fold_cmp.ensures.value)
