use Rattle.std.proofs.Common.{refl}
use Rattle.cases.proofs.error.CaseErrorFromAllocFailed.from.Goals as goal

pub returns : goal.returns
returns g c = refl
