use Rattle.std.proofs.lemmas.List.{at_drop_all}
use Rattle.pool_parts.specs.Sizes.{judgements_count}
use Rattle.pool_parts.proofs.Counted.{counted}
use Rattle.pool_parts.proofs.events.add_all_judged.Goals as goal

pub returns : goal.returns
returns c = counted _ _ _ (at_drop_all judgements_count c.args.judged.now c.loop-one.one-index c.loop-one-test.false) c.loop-one.invariant
