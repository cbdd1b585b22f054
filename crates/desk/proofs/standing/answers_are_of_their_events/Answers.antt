use Rattle.desk.proofs.Answered.{keeps_answer, kind_of}
use Rattle.desk.proofs.standing.answers_are_of_their_events.Goals as goal

pub returns : goal.returns
returns c = record { kinds = kind_of; kept = keeps_answer }
