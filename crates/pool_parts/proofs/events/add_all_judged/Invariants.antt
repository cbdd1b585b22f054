-- The size so far, with the matches that are left, is the size with all.
use Rattle.std.proofs.Common.{◌≡◌, ◌+◌, ◌≤◌, min, drop}
use Rattle.pool_parts.specs.Sizes.{judgements_count}
use Rattle.pool_parts.proofs.events.add_all_judged.Given as goal

abbrev pub invariant-loop-one : goal.invariant-loop-one
invariant-loop-one l = (min (l.total + judgements_count (drop l.one-index l.judged)) 18446744073709551615
    ≡ min (l.size + judgements_count l.judged) 18446744073709551615)
    × (l.total ≤ 18446744073709551615)
