use Rattle.job_launch.proofs.LaunchLemmas.{unclosed}
use Rattle.job_launch.proofs.laws.unclosed_quotes_are_no_words.Goals as goal

pub returns : goal.returns
returns c = unclosed
