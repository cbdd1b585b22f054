use Rattle.pool_rules.proofs.Rolls.{rolls_same}
use Rattle.desk.proofs.standing.rolls_stay.Goals as goal

pub returns : goal.returns
returns c = record {
  log = λ s new e r h. (rolls_same s new e r h).log;
  ends = λ s new e r h. (rolls_same s new e r h).ends;
  daemons = λ s new e r who h. (rolls_same s new e r h).daemons who;
}
