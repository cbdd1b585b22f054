-- What holds of every pool is kept by each event.
use Rattle.std.proofs.Common.{◌≡◌, List, [], ◌∷◌, IsSomeAnd, sym, subst, None}
use Rattle.pool_view.specs.AbstractPool.{AbstractPool, SameView, IsSpentAt}
use Rattle.pool_view.specs.AbstractStep.{AbstractStep, view_after, Takes}
use Rattle.pool_view.specs.Safe.{RunsSpent}
use Rattle.pool_view.proofs.Steps.{takes_safe, step_runs_spent}
use Rattle.thin_pool.specs.declared.event.Event.{Event}
use Rattle.thin_pool.specs.declared.slot.PoolSlot.{PoolSlot}
use Rattle.thin_pool.specs.Moving.{steps_of}
use Rattle.thin_pool.specs.PoolValue.{PoolValue, AreNumberedOnce}
use Rattle.thin_pool.specs.Reactions.{opening_pool, refusal, pool_after}
use Rattle.thin_pool.specs.Sound.{IsSound}
use Rattle.thin_pool.specs.View.{view_of}
use Rattle.thin_pool.proofs.Consistent.{after_consistent, opening_consistent}
use Rattle.thin_pool.proofs.Moving.{moves, opening_safe}
use Rattle.thin_pool.proofs.Showing.{slots_kept}

same_spent : (v w : AbstractPool) → SameView v w → RunsSpent v → RunsSpent w
same_spent v w same spent r there =
    subst (λ o. IsSomeAnd o (IsSpentAt r.run)) (sym (same.marks r.run.claim.slot)) (spent r ((same.runs r).1 there))

takes_spent : (v : AbstractPool) (ks : List AbstractStep) (w : AbstractPool) → Takes v ks w → RunsSpent v → RunsSpent w
takes_spent v [] w takes spent = same_spent v w takes spent
takes_spent v (k ∷ ks) w takes spent = takes_spent (view_after v k) ks w takes.1 (step_runs_spent v k spent takes.0)

pub after_sound : (p : PoolValue) (ev : Event) → IsSound p → refusal p ev ≡ None → IsSound (pool_after p ev)
after_sound p ev is ok =
    let takes = moves p ev is.consistent ok in
    let next = takes_safe (view_of p) (steps_of p ev) (view_of (pool_after p ev)) takes is.safe is.leased in
    record {
      consistent = after_consistent p ev is.consistent ok;
      slots_once = subst AreNumberedOnce (sym (slots_kept p ev)) is.slots_once;
      safe = next.0;
      leased = next.1;
      spent = takes_spent (view_of p) (steps_of p ev) (view_of (pool_after p ev)) takes is.spent;
    }

pub opening_sound : (slots : List PoolSlot) → AreNumberedOnce slots → IsSound (opening_pool slots)
opening_sound slots once = record {
  consistent = opening_consistent slots;
  slots_once = once;
  safe = opening_safe slots;
  leased = λ r there. absurd there;
  spent = λ r there. absurd there;
}
