use Rattle.std.proofs.Common.{rules}
use Rattle.startd_core.proofs.tick.tick_row.Goals as goal

pub returns-in-ClaimedBusy : goal.returns-in-ClaimedBusy
returns-in-ClaimedBusy c = search rules
