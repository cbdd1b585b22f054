use Rattle.std.proofs.Common.{rules}
use Rattle.std.proofs.lemmas.Fn.{always_returns_same}
use Rattle.matchmaker.specs.declared.opening.Keyed.{Keyed}
use Rattle.matchmaker.proofs.opening.sort_keyed.Goals as goal

pub returns-clause-sorted : goal.returns-clause-sorted
returns-clause-sorted c = c.in_ok-sort_by_key.ensures.sorted (λ (k : Keyed). (record { 0 = k.priority }, k.date, k.request.job)) (always_returns_same _ _ _ (λ a r q k. search rules))
