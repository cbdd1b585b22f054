use Rattle.job_launch.proofs.LaunchLemmas.{no_words, no_quoted_words}
use Rattle.job_launch.proofs.laws.no_arguments_are_no_words.Goals as goal

pub returns : goal.returns
returns c = record { absent = no_words; empty = no_quoted_words }
