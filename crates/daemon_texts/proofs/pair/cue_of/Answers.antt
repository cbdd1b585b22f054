use Rattle.std.proofs.Common.{rules}
use Rattle.daemon_texts.proofs.pair.cue_of.Goals as goal

pub returns-in-Handover : goal.returns-in-Handover
returns-in-Handover c = search rules
