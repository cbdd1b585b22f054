use Rattle.std.proofs.Common.{◌∙◌}
use Rattle.thin_pool.specs.Reactions.{idle_ads}
use Rattle.thin_pool.specs.Sameness.{same_ads}
use Rattle.thin_pool.proofs.Same.{told_ads}
use Rattle.thin_pool.proofs.pool.Pool.are_idle_ads.Goals as goal

pub returns : goal.returns
returns c =
    told_ads c.are_idle_ads.result c.as_slice.result.now (idle_ads c.self.inside.jobs.entries) c.are_idle_ads.ensures
    ∙ λ i. same_ads (c.as_slice.ensures i) (idle_ads (c.self.view_is i).jobs)
