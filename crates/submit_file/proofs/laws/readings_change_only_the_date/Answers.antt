use Rattle.submit_file.proofs.OtherReadings.{at_other_reading}
use Rattle.submit_file.proofs.laws.readings_change_only_the_date.Goals as goal

pub returns : goal.returns
returns c = at_other_reading
