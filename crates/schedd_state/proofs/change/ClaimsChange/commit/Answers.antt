use Rattle.std.proofs.Common.{rules}
use Rattle.schedd_state.proofs.change.ClaimsChange.commit.Goals as goal

pub returns-in-Some : goal.returns-in-Some
returns-in-Some c = search rules
