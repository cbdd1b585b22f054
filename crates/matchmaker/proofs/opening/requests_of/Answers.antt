use Rattle.std.proofs.Common.{◌≡◌, ◌∙◌, ℕ, List, length, Ok, Global, rules}
use Rattle.std.specs.declared.collections.VecDeque.{VecDeque}
use Rattle.std.specs.VecDeque.{deque_len}
use Rattle.std.proofs.lemmas.Iterator.{YieldsList-from_map}
use Rattle.std.proofs.lemmas.Iterator.Adapters.{YieldsList-from_vec, fact_from_collect}
use Rattle.std.proofs.lemmas.Iterator.Consumers.{YieldsList-at}
use Rattle.pool_mail.specs.declared.matching.Request.{Request}
use Rattle.matchmaker.specs.declared.opening.Keyed.{Keyed}
use Rattle.matchmaker.proofs.opening.requests_of.Goals as goal

pub returns : goal.returns
returns c = (fact_from_collect {E = ℕ} (λ (rs : List Request) (v : VecDeque Request Global). (v.items ≡ rs) × (deque_len v ≡ length rs)) (Ok c.in_ok-collect.field-0) c.in_ok-collect.ensures.ran
    (YieldsList-from_map _ (λ (k : Keyed). k.request) (YieldsList-at c.map.ensures.source (YieldsList-from_vec c.args.list.items c.into_iter.ensures.rest (c.into_iter.ensures.len ∙ c.args.list.ok.0))) c.map.ensures.closure (λ x r q k. search rules))).0
