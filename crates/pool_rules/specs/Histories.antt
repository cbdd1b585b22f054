-- Histories: the events that a pool accepts one after the other, from its opening on.
use Rattle.std.specs.Prelude.{◌≡◌, ◌⊎◌, ℕ, List, [], ◌∷◌, None}
use Rattle.claim_id.specs.declared.numbers.JobId.{JobId}
use Rattle.pool_parts.specs.declared.answer.Answer.{Answer}
use Rattle.pool_parts.specs.declared.answer.Answer.TheVariants.{Launch}
use Rattle.pool_parts.specs.declared.answer.Stepped.{Stepped}
use Rattle.pool_parts.specs.declared.event.Event.{Event}
use Rattle.pool_parts.specs.Events.{reading_of}
use Rattle.pool_rules.specs.Launched.{IsPermitOf}
use Rattle.pool_rules.specs.Shown.{ShowsPool}
use Rattle.pool_rules.specs.Given.{IsGiven}
use Rattle.pool_rules.specs.Happens.{Reacts, latest_after}
use Rattle.pool_rules.specs.Parts.{parts_of}
use Rattle.pool_rules.specs.Refusals.{IsRefusal}
use Rattle.pool_state.specs.Openings.{CanOpen, IsOpenedBy}
use Rattle.pool_state.specs.declared.opening.Opening.{Opening}
use Rattle.pool_state.specs.declared.state.PoolState.{PoolState}
use Rattle.pool_view.specs.AbstractPool.{AbstractPool, IsIn}
use Rattle.pool_view.specs.AbstractStep.{AbstractStep, Order, Takes}
use Rattle.schedd_core.specs.ScheddParts.{IsOrdered}
use Rattle.startd_core.specs.declared.answer.Permit.{Permit}
use Rattle.pool_rules.specs.Orders.{OrdersRemoval}
use Rattle.pool_rules.specs.Steps.{AreStepsOf}

-- an event that is given to a pool, and that nothing refuses, takes it to another with that answer
pub record Accepts (s : PoolState) (e : Event) (r : Stepped) (new : PoolState) : Type 0 where
  pub given : IsGiven e s
  pub accepted : IsRefusal e s None
  pub reacts : Reacts s e r new

-- ---- histories
-- an accepted event, and what was answered
pub record Step : Type 0 where
  pub event : Event
  pub answer : Stepped

-- accepted events lead from one pool to another, one after the other
abbrev pub LeadsTo : PoolState → List Step → PoolState → Type 0
LeadsTo s [] t = t ≡ s
LeadsTo s (h ∷ hs) t = (new : PoolState) × Accepts s h.event h.answer new × LeadsTo new hs t

-- events lead to a pool from one that was opened so, with a queue as its log gives it
pub record IsHistory (o : Opening) (list : List Step) (s : PoolState) : Type 0 where
  pub opening : PoolState
  pub can : CanOpen o
  pub queue : IsOrdered o.queue
  pub opened : IsOpenedBy o opening
  pub leads : LeadsTo opening list s

-- the greatest reading
abbrev pub latest_in : List Step → ℕ → ℕ
latest_in [] latest = latest
latest_in (h ∷ hs) latest = latest_in hs (latest_after (reading_of h.event) latest)

-- one of the events orders the job's removal
abbrev pub IsOrderedIn : PoolState → List Step → JobId → Type 0
IsOrderedIn s [] job = ⊥
IsOrderedIn s (h ∷ hs) job = OrdersRemoval h.event s job
    ⊎ ((new : PoolState) × Accepts s h.event h.answer new × IsOrderedIn new hs job)

-- ---- what a pool shows
-- it shows that abstract pool
abbrev pub HasView : PoolState → AbstractPool → Type 0
HasView s v = ShowsPool (parts_of s) v

-- it holds of every abstract pool that a pool of a history shows
abbrev pub OfHistories : (AbstractPool → Type 0) → Type 0
OfHistories P = (o : Opening) (list : List Step) (s : PoolState) (v : AbstractPool)
    → IsHistory o list s → HasView s v → P v

-- ---- what an event does to it
-- a step orders a job's removal only where the event does
abbrev pub OrdersOnly : Event → PoolState → List AbstractStep → Type 0
OrdersOnly e s steps = (job : JobId) → IsIn (Order job) steps → OrdersRemoval e s job

-- what is shown is moved by steps of the event that may be made, one after the other
abbrev pub MovesView : Event → PoolState → PoolState → Type 0
MovesView e s new = (v w : AbstractPool) → HasView s v → HasView new w
    → (steps : List AbstractStep) × Takes v steps w × AreStepsOf e s steps × OrdersOnly e s steps

-- what is launched is a run of what is shown, which was matched
abbrev pub LaunchesRun : Answer → PoolState → Type 0
LaunchesRun answer new = (w : AbstractPool) (permit : Permit) → HasView new w
    → answer ≡ Launch permit → IsPermitOf w permit

-- the event e of a pool of a history, which shows v, leads to a pool that shows w
pub record IsEvent (o : Opening) (list : List Step) (s : PoolState) (e : Event) (r : Stepped)
    (new : PoolState) (v w : AbstractPool) : Type 0 where
  pub history : IsHistory o list s
  pub accepts : Accepts s e r new
  pub before : HasView s v
  pub after : HasView new w
