use Rattle.std.proofs.Common.{◌≡◌, ◌∙◌, ◌==◌, sym, ap}
use Rattle.thin_pool.specs.Reactions.{idle_ads, slot_ads}
use Rattle.thin_pool.specs.Sameness.{same_ads}
use Rattle.thin_pool.proofs.Same.{second_fails}
use Rattle.thin_pool.proofs.pool.Pool.is_settled.Goals as goal

pub returns-else-are_idle_ads : goal.returns-else-are_idle_ads
returns-else-are_idle_ads c =
    let p = c.args.self.now in
    let none = c.args.none.now in
    let told : c.are_idle_ads.result ≡ same_ads none.jobs (idle_ads p.jobs) = c.are_idle_ads.ensures ∙ ap (λ l. same_ads l (idle_ads p.jobs)) c.jobs.ensures in
    told ∙ second_fails (none.at == c.args.reading) (same_ads none.jobs (idle_ads p.jobs)) (same_ads none.slots (slot_ads p.slots)) (sym told ∙ c.if-are_idle_ads.false)
