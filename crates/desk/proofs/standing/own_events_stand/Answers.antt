use Rattle.desk.proofs.Passes.{own_before, own_fits, own_queue, own_stands}
use Rattle.desk.proofs.standing.own_events_stand.Goals as goal

pub returns : goal.returns
returns c = record { stands = own_stands; fits = own_fits; before = own_before; queue = own_queue }
