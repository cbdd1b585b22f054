use Rattle.desk.proofs.OneMore.{gained_longer, launched_on, log_on}
use Rattle.desk.proofs.laws.entries_add_up.Goals as goal

pub returns : goal.returns
returns c = record { log = log_on; launches = launched_on; longer = gained_longer }
