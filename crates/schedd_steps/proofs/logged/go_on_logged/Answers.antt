use Rattle.std.proofs.Common.{◌∙◌, ap}
use Rattle.queue_tx.specs.Queues.{with_changes}
use Rattle.pool_state.specs.declared.state.PoolState.{PoolState}
use Rattle.pool_rules.specs.Deeds.{at_rest}
use Rattle.schedd_state.specs.PreparedSchedds.{schedd_after}
use Rattle.schedd_state.specs.Schedds.{After}
use Rattle.schedd_steps.proofs.QueueChanged.{logged_with_queue, planned_above, planned_with, pool_with, queue_at_rest, rest_back, rest_with, undone}
use Rattle.schedd_steps.proofs.Refused.{at_err, is_limit, no_bytes, no_err, no_ok, not_done}
use Rattle.pool_tables.specs.declared.refusal.StepError.TheVariants as error
use Rattle.schedd_steps.proofs.logged.go_on_logged.Goals as goal

pub returns-in-Ok : goal.returns-in-Ok
returns-in-Ok c =
    let old = c.args.state.now in
    let now = c.commit.new.queue in
    let q = with_changes old.queue c.args.queue.change in
    let s = c.in_ok-undo.ensures in
    let e = c.in-Ok.ensures in
    let ready = c.in-Ok.ready in
    record {
      queue = rest_with old c.ready_logged.new.state now q e.same s.queue;
      schedd = logged_with_queue (λ (a : After). a.schedd) old now q (schedd_after ready.prepared old.schedd) e.schedd s.queue;
      step = logged_with_queue (λ (a : After). a.step) old now q ready.prepared.step e.step s.queue;
      claims = e.claims;
      room = e.room;
      bytes = planned_with old now q c.in_ok-undo.field-0.bytes ready.bytes e.bytes s.bytes s.queue;
      limit = e.limit;
      large = λ is. no_err ready error.Bytes is;
      refused = tt;
      kept = tt;
    }

pub returns-in-Err : goal.returns-in-Err
returns-in-Err c =
    let old = c.args.state.now in
    let now = c.commit.new.queue in
    let q = with_changes old.queue c.args.queue.change in
    let s = c.in_ok-undo.ensures in
    let new = c.ready_logged.new.state in
    let e = c.in-Err.ensures in
    record {
      queue = tt;
      schedd = tt;
      step = tt;
      claims = tt;
      room = tt;
      bytes = tt;
      limit = tt;
      large = λ is. planned_above old now q c.in_ok-undo.field-0.bytes s.bytes s.queue (e.large is);
      refused = e.refused;
      kept = rest_back old new now c.commit-in-Err.new.self e.same
          (undone old.queue new.queue c.commit-in-Err.new.self q c.args.queue.undo c.in_ok-undo.field-0.undo c.commit-in-Err.ensures (queue_at_rest old new now e.same ∙ s.queue) s.undo c.requires.undo);
    }

pub returns-in_err-undo : goal.returns-in_err-undo
returns-in_err-undo c =
    let old = c.args.state.now in
    let r = c.from_residual.result in
    let memory = c.from_residual.ensures.1 in
    let kept = pool_with old c.commit.new.queue old.queue c.in_err-undo.ensures.kept in
    record {
      queue = not_done _ error.Memory r memory;
      schedd = no_ok _ error.Memory r memory;
      step = no_ok _ error.Memory r memory;
      claims = no_ok _ error.Memory r memory;
      room = no_ok _ error.Memory r memory;
      bytes = no_ok _ error.Memory r memory;
      limit = no_ok _ error.Memory r memory;
      large = λ is. no_bytes _ r memory is;
      refused = is_limit r memory;
      kept = at_err r (ap (λ (x : PoolState). at_rest x) kept);
    }
