use Rattle.std.proofs.Common.{ap, ◌∙◌}
use Rattle.pool_tables.specs.Repeats.{times_in}
use Rattle.pool_state.proofs.opening.new_tables.Goals as goal

pub returns-clause-mails : goal.returns-clause-mails
returns-clause-mails c = record {
  none = c.in_ok-mails.ensures.sent;
  boxes = c.in_ok-mails.ensures.boxes;
  times = λ n. c.in_ok-mails.ensures.repeats n ∙ ap (times_in n) c.as_slice-2.ensures;
}
