use Rattle.queue_record.proofs.LogLemmas.{reading_stands, reading_bad}
use Rattle.queue_record.proofs.laws.readings_are_of_lines.Goals as goal

pub returns-clause-stands : goal.returns-clause-stands
returns-clause-stands c = reading_stands

pub returns-clause-bad : goal.returns-clause-bad
returns-clause-bad c = reading_bad
