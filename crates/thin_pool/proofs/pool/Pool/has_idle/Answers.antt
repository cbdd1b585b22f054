use Rattle.std.proofs.Common.{◌≡◌, ◌∙◌, Some, sym, ap}
use Rattle.pool_view.specs.Numbers.{same_job}
use Rattle.thin_pool.specs.PoolValue.{PoolValue, job_at}
use Rattle.thin_pool.specs.Reactions.{is_idle_job}
use Rattle.thin_pool.proofs.Entries.{lookup-value_at}
use Rattle.thin_pool.proofs.pool.Pool.has_idle.Goals as goal

pub returns-in-Some : goal.returns-in-Some
returns-in-Some c =
    let there : job_at c.args.job c.args.self.now.jobs ≡ Some c.in-Some.job.now =
    ap (λ (p : PoolValue). job_at c.args.job p.jobs) (sym c.self.view_is) ∙ sym (lookup-value_at same_job c.args.job c.self.inside.jobs.entries) ∙ sym c.in-Some.ensures.value in
    c.is_idle.ensures ∙ sym (ap is_idle_job there)
