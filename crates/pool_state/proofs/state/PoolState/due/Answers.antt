use Rattle.std.proofs.Common.{sym, true≢false, ◌∙◌}
use Rattle.pool_state.proofs.Due.{of_one_up}
use Rattle.pool_state.proofs.state.PoolState.due.Goals as goal

pub returns-then-is_up : goal.returns-then-is_up
returns-then-is_up c = record {
  due = λ passed due. c.is_due_up.ensures.due passed due.1;
  only = λ is. of_one_up (sym c.is_up.ensures ∙ c.if-is_up.true) (c.is_due_up.ensures.only is);
}

pub returns-else-is_up : goal.returns-else-is_up
returns-else-is_up c = record {
  due = λ passed due. absurd (true≢false (sym due.0 ∙ (sym c.is_up.ensures ∙ c.if-is_up.false)));
  only = λ is. absurd (true≢false (sym is ∙ c.if-is_up.false));
}
