use Rattle.std.proofs.Common.{◌+◌, arith}
use Rattle.pool_tables.proofs.Putting.{kept_at_first}
use Rattle.pool_tables.proofs.mails.Mails.new.Goals as goal

pub invariant_of-result : goal.invariant_of-result
invariant_of-result c = record {
  kept = kept_at_first _ _ _ (c.from.result + 2) c.new.ensures.items c.new-2.ensures.items c.in_ok-empty_boxes.ensures;
  counts = c.in_ok-count_repeats.ensures.counts;
  room = record {
    sent = λ h. absurd (omega (arith, h));
    before = λ h. absurd (omega (arith, h));
  };
}
