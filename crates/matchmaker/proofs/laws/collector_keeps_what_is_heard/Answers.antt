use Rattle.matchmaker.proofs.Telling.{keeps_what_is_heard}
use Rattle.matchmaker.proofs.laws.collector_keeps_what_is_heard.Goals as goal

pub returns : goal.returns
returns c = keeps_what_is_heard
