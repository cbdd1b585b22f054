use Rattle.std.proofs.Common.{rules}
use Rattle.std.specs.Ordering.{is_lt}
use Rattle.std.proofs.lemmas.Fn.{always_returns_same}
use Rattle.std.proofs.lemmas.List.Sorted.{ranks_by}
use Rattle.matchmaker.specs.declared.course.Bidder.{Bidder}
use Rattle.matchmaker.specs.Opening.{account_cmp}
use Rattle.matchmaker.proofs.Openings.{account_total}
use Rattle.matchmaker.proofs.opening.sort_bidders.Goals as goal

pub returns-clause-sorted : goal.returns-clause-sorted
returns-clause-sorted c = c.in_ok-sort_by.ensures.sorted (λ (x y : Bidder). is_lt (account_cmp x.account y.account))
    (ranks_by account_total (λ (x : Bidder). x.account)) (always_returns_same _ _ _ (λ a r q k. search rules))
