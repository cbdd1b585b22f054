use Rattle.std.proofs.Common.{ℕ, List, Option, IfOk, subst}
use Rattle.std.proofs.lemmas.Result.{IfOk-weaker}
use Rattle.claim_id.specs.declared.numbers.ClaimId.{ClaimId}
use Rattle.pool_rules.specs.Deeds.{at_rest}
use Rattle.pool_state.specs.declared.state.PoolState.{PoolState}
use Rattle.pool_state.specs.PoolViews.{IsViewOf}
use Rattle.schedd_state.specs.Reopening.{IsReader}
use Rattle.pool_view.specs.Safe.{Safe}
use Rattle.pool_view.specs.Views.{pool_of}
use Rattle.pool_core.proofs.Keeping.{view_safe}
use Rattle.pool_core.proofs.Resting.{view_rest}
use Rattle.pool_core.proofs.pool.Pool.view.Goals as goal

pub returns-clause-view : goal.returns-clause-view
returns-clause-view c =
    let s = c.self.inside.state in
    subst (λ (t : PoolState). IfOk c.view.result (λ view. (read : List ℕ → Option ClaimId) → IsReader read → IsViewOf read t view)) c.self.view_is
    (IfOk-weaker c.view.result (λ view. (read : List ℕ → Option ClaimId) → IsReader read → IsViewOf read s view) (λ view. (read : List ℕ → Option ClaimId) → IsReader read → IsViewOf read (at_rest s) view)
    (λ view h. λ read reads. view_rest (h read reads)) c.view.ensures)

pub returns-clause-safe : goal.returns-clause-safe
returns-clause-safe c =
    let s = c.self.inside.state in
    IfOk-weaker c.view.result (λ view. (read : List ℕ → Option ClaimId) → IsReader read → IsViewOf read s view) (λ view. Safe (pool_of view))
    (λ view h. view_safe (at_rest s) view c.self.invariant (λ read reads. view_rest (h read reads))) c.view.ensures
