use Rattle.std.proofs.Common.{not, filter, ap, ◌∙◌}
use Rattle.pool_state.specs.PoolJobs.{is_engaged}
use Rattle.pool_state.proofs.Jobs.{wanted}
use Rattle.pool_state.proofs.state.PoolState.wants.Goals as goal

pub returns : goal.returns
returns c =
    let s = c.args.self.now in
    wanted c.requests_of.result s c.in_ok-idle.idle.items c.deref-2.result.now c.in_ok-idle.ensures (c.deref-2.ensures.value ∙ c.in_ok-free.ensures ∙ ap (filter (λ job. not (is_engaged job s))) c.deref.ensures.value) c.requests_of.ensures
