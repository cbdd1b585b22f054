use Rattle.job_launch.proofs.LaunchLemmas.{set_args, removed_args}
use Rattle.job_launch.proofs.laws.arguments_go_before_args.Goals as goal

pub returns : goal.returns
returns c = record { set = set_args; removed = removed_args }
