use Rattle.pool_mail.proofs.RunNames.{lacks_run_names}
use Rattle.pool_mail.proofs.laws.request_ads_lack_run_names.Goals as goal

pub returns : goal.returns
returns c = lacks_run_names
