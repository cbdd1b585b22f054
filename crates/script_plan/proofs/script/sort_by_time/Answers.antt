use Rattle.std.proofs.Common.{rules}
use Rattle.std.proofs.lemmas.Fn.{always_returns_same}
use Rattle.claim_id.specs.declared.order.Wish.{Wish}
use Rattle.script_plan.proofs.script.sort_by_time.Goals as goal

pub returns : goal.returns
returns c = record {
  same = c.in_ok-sort_by_key.ensures.permutation;
  by_time = c.in_ok-sort_by_key.ensures.sorted (λ (w : Wish). w.at) (always_returns_same _ _ _ (λ a r q k. search rules));
  by_line = c.in_ok-sort_by_key.ensures.stable (λ (w : Wish). w.at) (always_returns_same _ _ _ (λ a r q k. search rules));
}
