use Rattle.std.proofs.Common.{rules}
use Rattle.schedd_state.proofs.looks.last_look.Goals as goal

pub returns : goal.returns
returns c = search rules
