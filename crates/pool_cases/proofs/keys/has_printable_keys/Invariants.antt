-- Where each key above the last one can be printed, all can.
use Rattle.std.proofs.Common.{length}
use Rattle.std.specs.Option.{option_copied}
use Rattle.pool_parts.proofs.Walks.{rest_of}
use Rattle.pool_cases.proofs.QueueKeys.{WouldBePrinted}
use Rattle.pool_cases.proofs.keys.has_printable_keys.Given as goal

abbrev pub invariant-keys : goal.invariant-keys
invariant-keys l = WouldBePrinted (option_copied l.last) l.queue

abbrev pub decreases-keys : goal.decreases-keys
decreases-keys l = length (rest_of (option_copied l.last) l.queue)
