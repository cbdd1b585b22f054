use Rattle.std.proofs.Common.{◌≡◌, None, sym, subst, rules}
use Rattle.pool_view.specs.AbstractStep.{Takes}
use Rattle.thin_pool.specs.Moving.{steps_of}
use Rattle.thin_pool.specs.PoolValue.{PoolValue}
use Rattle.thin_pool.specs.Reactions.{refusal}
use Rattle.thin_pool.specs.View.{view_of}
use Rattle.thin_pool.proofs.Moving.{moves}
use Rattle.thin_pool.proofs.pool.Pool.step.Goals as goal

pub returns-clause-moves : goal.returns-clause-moves
returns-clause-moves c =
    let p = c.args.self.now in
    let ev = c.args.ev.now in
    let ok : refusal p ev ≡ None = search rules in
    subst (λ (q : PoolValue). Takes (view_of p) (steps_of p ev) (view_of q)) (sym c.in_ok-change.ensures.ok) (moves p ev c.soundness.ensures.consistent ok)
