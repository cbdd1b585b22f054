use Rattle.std.proofs.Common.{length, refl, ◌∙◌}
use Rattle.pool_state.proofs.opening.Opening.join_parts.Goals as goal

pub returns : goal.returns
returns c = record {
  machines = c.from_vec.ensures;
  daemons = λ i. (c.into_parts-daemons.ensures i).0;
  mails = λ i. (c.into_parts-daemons.ensures i).1;
  orders = λ i. (c.into_parts-daemons.ensures i).2;
  schedd = λ i. (c.into_parts-schedd.ensures i).0;
  queue = refl;
  pending = refl;
  next_tx = refl;
  finished = c.new.ensures;
  acked = λ i. (c.into_parts-schedd.ensures i).1;
  ordered = λ i. (c.into_parts-schedd.ensures i).2;
  reports = c.new-2.ensures;
  log_mark = refl;
  end_marks = c.from_vec-2.ensures;
  settings = refl;
  latest = refl;
  events = refl;
  closed = refl;
  jobs = c.len.ensures.value ∙ (λ i. length (c.into_parts-schedd.ensures i).1);
  bytes = c.queue_size.ensures;
}
