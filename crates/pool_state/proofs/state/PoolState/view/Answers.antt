use Rattle.std.proofs.Common.{refl, ap, ◌∙◌}
use Rattle.pool_shown.specs.Slots.{all_slots}
use Rattle.pool_shown.specs.ShownSlots.{shown_slots}
use Rattle.pool_state.proofs.state.PoolState.view.Goals as goal

pub returns : goal.returns
returns c = λ read is.
    let s = c.args.self.now in
    let shown = c.in_ok-runs.ensures ∙ ap (λ l. shown_slots s.daemons (all_slots l)) c.as_slice.ensures in
    record {
      moment = refl;
      next = c.next_run.ensures;
      jobs = rw c.left.ensures at (c.in_ok-jobs.ensures read is);
      acked = λ i. (c.in_ok-acked.ensures i).0;
      ordered = λ i. (c.in_ok-acked.ensures i).1;
      runs = λ i. (shown i).runs;
      marks = λ i. (shown i).marks;
      reports = λ i. (c.in_ok-acked.ensures i).2;
      slots = λ i. (shown i).ads;
    }
