-- The abstract pool that a pool stands for.
use Rattle.std.specs.Prelude.{◌≡◌, ℕ, List, Option}
use Rattle.claim_id.specs.declared.numbers.ClaimId.{ClaimId}
use Rattle.pool_shown.specs.Slots.{all_slots}
use Rattle.pool_shown.specs.ShownJobs.{AreShown}
use Rattle.pool_shown.specs.ShownSlots.{shown_slots}
use Rattle.pool_state.specs.declared.state.PoolState.{PoolState}
use Rattle.pool_view.specs.declared.view.View.{View}

-- The greatest reading; the number of the run that is granted next; the jobs of the queue as logged
-- and those that have left it; what was acknowledged, ordered and said; and what the slots show.
pub record IsViewOf (read : List ℕ → Option ClaimId) (s : PoolState) (view : View) : Type 0 where
  pub moment : view.moment ≡ s.latest
  pub next : view.next ≡ s.schedd.next_run
  pub jobs : AreShown read s.queue s.schedd.left s.finished view.jobs
  pub acked : view.acked ≡ s.acked
  pub ordered : view.ordered ≡ s.ordered
  pub runs : view.runs ≡ (shown_slots s.daemons (all_slots s.machines)).runs
  pub marks : view.marks ≡ (shown_slots s.daemons (all_slots s.machines)).marks
  pub reports : view.reports ≡ s.reports
  pub slots : view.slots ≡ (shown_slots s.daemons (all_slots s.machines)).ads
