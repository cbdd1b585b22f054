use Rattle.std.proofs.Common.{◌∙◌, sym, subst}
use Rattle.thin_pool.specs.PoolValue.{pool_value}
use Rattle.thin_pool.specs.Sound.{IsSound}
use Rattle.thin_pool.proofs.pool.PoolCopied.copy.Goals as goal

pub invariant_of-result : goal.invariant_of-result
invariant_of-result c =
    let old = c.self.inside in
    subst IsSound (sym (λ i. pool_value (c.in_ok-copy.ensures i) (c.in_ok-copy_jobs.ensures i) (c.in_ok-copy_runs.ensures i) old.last_cluster old.started old.latest old.closed)) c.self.invariant

pub returns : goal.returns
returns c =
    let old = c.self.inside in
    (λ i. pool_value (c.in_ok-copy.ensures i) (c.in_ok-copy_jobs.ensures i) (c.in_ok-copy_runs.ensures i) old.last_cluster old.started old.latest old.closed) ∙ c.self.view_is
