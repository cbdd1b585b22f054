use Rattle.submit_file.proofs.Submitted.{all_submitted}
use Rattle.ad_rows.proofs.Names.{name_readable}
use Rattle.submit_file.proofs.laws.jobs_are_submitted.Goals as goal

pub returns-clause-readable : goal.returns-clause-readable
returns-clause-readable c = all_submitted

pub returns-clause-named : goal.returns-clause-named
returns-clause-named c = λ bs h ads clustered dated named. all_submitted bs h ads clustered dated (name_readable h.owner named)
