use Rattle.job_launch.proofs.LaunchLemmas.{words_reach}
use Rattle.job_launch.proofs.laws.quoted_words_reach_the_program.Goals as goal

pub returns : goal.returns
returns c = words_reach
