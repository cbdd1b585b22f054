use Rattle.std.proofs.Common.{ap, subst, sym, ◌∙◌}
use Rattle.pool_rules.specs.Deeds.{at_rest}
use Rattle.pool_state.specs.declared.state.PoolState.{PoolState}
use Rattle.pool_core.specs.KeptPools.{IsKeptPool}
use Rattle.pool_core.proofs.pool.PoolCopied.copy.Goals as goal

pub returns : goal.returns
returns c = ap at_rest c.in_ok-state.ensures ∙ c.self.view_is

pub invariant_of-result : goal.invariant_of-result
invariant_of-result c = subst (λ (s : PoolState). IsKeptPool (at_rest s)) (sym c.in_ok-state.ensures) c.self.invariant
