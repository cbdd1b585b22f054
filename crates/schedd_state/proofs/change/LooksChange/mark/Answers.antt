use Rattle.std.proofs.Common.{rules}
use Rattle.schedd_state.proofs.change.LooksChange.mark.Goals as goal

pub returns-in-Clear : goal.returns-in-Clear
returns-in-Clear c = search rules
