use Rattle.std.proofs.Common.{◌∙◌, inl}
use Rattle.queue_tx.specs.Queues.{with_changes}
use Rattle.schedd_steps.proofs.QueueChanged.{above_after, pool_with, undone}
use Rattle.schedd_steps.proofs.Refused.{at_err, is_limit, no_bytes, no_err, no_ok, not_done}
use Rattle.pool_tables.specs.declared.refusal.StepError.TheVariants as error
use Rattle.schedd_steps.proofs.logged.change_queue.Goals as goal

pub returns-in-Ok : goal.returns-in-Ok
returns-in-Ok c =
    let old = c.args.state.now in
    let now = c.commit.new.queue in
    let q = with_changes old.queue c.args.queue.change in
    let s = c.in_ok-undo.ensures in
    let e = c.in-Ok.ensures in
    record {
      queue = pool_with old now q s.queue;
      bytes = e.same ∙ s.bytes;
      limit = e.within;
      large = λ is. no_err c.in-Ok.bytes error.Bytes is;
      refused = tt;
      kept = tt;
    }

pub returns-in-Err : goal.returns-in-Err
returns-in-Err c =
    let old = c.args.state.now in
    let now = c.commit.new.queue in
    let q = with_changes old.queue c.args.queue.change in
    let s = c.in_ok-undo.ensures in
    let e = c.in-Err.ensures in
    record {
      queue = tt;
      bytes = tt;
      limit = tt;
      large = λ is. above_after old q c.in_ok-undo.field-0.bytes s.bytes e.large;
      refused = inl e.refused;
      kept = pool_with old c.commit-in-Err.new.self old.queue (undone old.queue now c.commit-in-Err.new.self q c.args.queue.undo c.in_ok-undo.field-0.undo c.commit-in-Err.ensures s.queue s.undo c.requires.undo);
    }

pub returns-in_err-undo : goal.returns-in_err-undo
returns-in_err-undo c =
    let old = c.args.state.now in
    let r = c.from_residual.result in
    let memory = c.from_residual.ensures.1 in
    let kept = pool_with old c.commit.new.queue old.queue c.in_err-undo.ensures.kept in
    record {
      queue = not_done _ error.Memory r memory;
      bytes = no_ok _ error.Memory r memory;
      limit = no_ok _ error.Memory r memory;
      large = λ is. no_bytes _ r memory is;
      refused = is_limit r memory;
      kept = at_err r kept;
    }
