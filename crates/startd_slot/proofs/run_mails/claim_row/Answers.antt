use Rattle.std.proofs.Common.{rules}
use Rattle.startd_slot.proofs.run_mails.claim_row.Goals as goal

pub returns-in-Some-running : goal.returns-in-Some-running
returns-in-Some-running c = search rules
