use Rattle.std.proofs.Common.{◌∙◌}
use Rattle.pool_state.proofs.Outcomes.{ok_same}
use Rattle.pool_state.proofs.copy.copy_marks.Goals as goal

pub returns : goal.returns
returns c =
    let pending = c.in_ok-pending.ensures ∙ c.as_ref.ensures.value in
    let log_mark = ok_same c.copy.result c.in_ok-log_mark.log_mark c.args.pool.now.log_mark c.in_ok-log_mark.was c.copy.ensures in
    λ i. record { pending = pending i; log_mark = log_mark i; end_marks = c.in_ok-end_marks.ensures i }
