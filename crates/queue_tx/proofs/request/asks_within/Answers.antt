use Rattle.std.proofs.Common.{slice_get, arith, sym, ◌∙◌, refl, true≢false}
use Rattle.ad_tree.proofs.AdLemmas.{below_more}
use Rattle.queue_tx.specs.Requests.{AgreesAt}
use Rattle.queue_tx.proofs.RequestLemmas.{within_from_places, places_from_within}
use Rattle.queue_tx.proofs.request.asks_within.Goals as goal

pub returns : goal.returns
returns c = (
  λ _. within_from_places c.args.one.now c.args.other.now (λ k less. c.places.invariant k (omega (arith, less, c.len-place-end.ensures.len))),
  λ _. refl,
)

pub returns-then-not-agrees_at : goal.returns-then-not-agrees_at
returns-then-not-agrees_at c = (
  λ h. absurd (true≢false (sym h)),
  λ w. absurd (true≢false (sym (c.agrees_at.ensures.1 (places_from_within c.args.one.now c.args.other.now c.len-place-end.ensures.distinct w c.places.place)) ∙ c.if-not-agrees_at.true)),
)

pub places-preserved : goal.places-preserved
places-preserved c =
    below_more {P = λ k. AgreesAt c.args.other.now (slice_get c.args.one.now k)} c.places.place c.places.invariant (c.agrees_at.ensures.0 c.if-not-agrees_at.false)
