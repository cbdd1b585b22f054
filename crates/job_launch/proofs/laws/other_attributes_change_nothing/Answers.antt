use Rattle.job_launch.proofs.LaunchLemmas.{set_other, removed_other}
use Rattle.job_launch.proofs.laws.other_attributes_change_nothing.Goals as goal

pub returns : goal.returns
returns c = record { set = set_other; removed = removed_other }
