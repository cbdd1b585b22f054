use Rattle.std.proofs.Common.{◌≡◌, [], false, sym, subst, rules}
use Rattle.thin_pool.specs.PoolValue.{pool_value}
use Rattle.thin_pool.specs.Sound.{IsSound}
use Rattle.thin_pool.proofs.Sound.{opening_sound}
use Rattle.thin_pool.proofs.pool.Pool.open.Goals as goal

pub invariant_of-result : goal.invariant_of-result
invariant_of-result c =
    let jobs : c.new.result.entries ≡ [] = search rules in
    let runs : c.new-2.result.entries ≡ [] = search rules in
    subst IsSound (sym (λ i. pool_value c.args.slots (jobs i) (runs i) 0 0 0 false)) (opening_sound c.args.slots c.requires.once)
