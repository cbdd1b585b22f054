use Rattle.std.proofs.Common.{◌≡◌, ◌∙◌, ℕ, List, length, Ok, Global}
use Rattle.std.specs.declared.collections.VecDeque.{VecDeque}
use Rattle.std.specs.VecDeque.{deque_len}
use Rattle.std.proofs.lemmas.Iterator.Adapters.{YieldsList-from_vec, fact_from_collect}
use Rattle.matchmaker.specs.declared.course.Bidder.{Bidder}
use Rattle.negotiate.proofs.quick.queue_of.Goals as goal

pub returns : goal.returns
returns c = (fact_from_collect {E = ℕ} (λ (bs : List Bidder) (v : VecDeque Bidder Global). (v.items ≡ bs) × (deque_len v ≡ length bs)) (Ok c.in_ok-collect.field-0) c.in_ok-collect.ensures.ran
    (YieldsList-from_vec c.args.bidders.items c.into_iter.ensures.rest (c.into_iter.ensures.len ∙ c.args.bidders.ok.0))).0
