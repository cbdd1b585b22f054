use Rattle.std.proofs.Common.{◌∷◌, ◌∙◌, ap}
use Rattle.pool_rules.proofs.AskedAds.{another_first}
use Rattle.pool_rules.proofs.asked.after_asked.Goals as goal

pub returns : goal.returns
returns c = c.in_ok-first.ensures.cases.0 ∙ ap (λ ad. ad ∷ c.in_ok-first.rest.now) (c.is_request_of.ensures.0 c.if-not-is_request_of.false)

pub returns-then-not-is_request_of : goal.returns-then-not-is_request_of
returns-then-not-is_request_of c = another_first c.if-not-is_request_of.true c.is_request_of.ensures c.in_ok-first.ensures.cases.0
