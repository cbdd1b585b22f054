use Rattle.desk.proofs.Passes.{others_queue, others_stand}
use Rattle.desk.proofs.standing.events_of_others_stand.Goals as goal

pub returns : goal.returns
returns c = record { stands = others_stand; queue = others_queue }
