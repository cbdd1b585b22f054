use Rattle.desk.proofs.GivenByMarks.{own_given}
use Rattle.desk.proofs.standing.own_events_are_given.Goals as goal

pub returns : goal.returns
returns c = own_given
