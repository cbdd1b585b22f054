use Rattle.std.proofs.Common.{rules}
use Rattle.daemon_texts.proofs.ids.write_claim.Goals as goal

pub returns-in-Ok : goal.returns-in-Ok
returns-in-Ok c = search rules
