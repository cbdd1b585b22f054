use Rattle.std.proofs.Common.{rules}
use Rattle.startd_slot.proofs.run_mails.free_row.Goals as goal

pub returns-else-not-matched : goal.returns-else-not-matched
returns-else-not-matched c = search rules
