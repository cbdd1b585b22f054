-- The items so far.
use Rattle.std.proofs.Common.{◌≡◌, map}
use Rattle.ad_value.proofs.copied.LinkedListGlobalCopied.copy.Given as goal

abbrev pub invariant-loop-item : goal.invariant-loop-item
invariant-loop-item g l = l.list ≡ map (λ item. item.now) l.yielded
