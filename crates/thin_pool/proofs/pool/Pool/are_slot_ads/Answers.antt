use Rattle.std.proofs.Common.{◌≡◌, ◌∙◌, ap}
use Rattle.thin_pool.specs.PoolValue.{PoolValue}
use Rattle.thin_pool.specs.Reactions.{slot_ads}
use Rattle.thin_pool.specs.Sameness.{same_ads}
use Rattle.thin_pool.proofs.Same.{told_ads}
use Rattle.thin_pool.proofs.pool.Pool.are_slot_ads.Goals as goal

pub returns : goal.returns
returns c =
    let slots : c.as_slice-2.result.now ≡ c.args.self.now.slots = c.as_slice-2.ensures ∙ ap (λ (p : PoolValue). p.slots) c.self.view_is in
    told_ads c.are_slot_ads.result c.as_slice.result.now (slot_ads c.as_slice-2.result.now) c.are_slot_ads.ensures
    ∙ λ i. same_ads (c.as_slice.ensures i) (slot_ads (slots i))
