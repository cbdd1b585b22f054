use Rattle.std.proofs.Common.{rules}
use Rattle.startd_core.proofs.startd.answer_stranger.Goals as goal

pub returns : goal.returns
returns c = search rules
