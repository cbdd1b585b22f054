use Rattle.pool_mail.proofs.RunNames.{keeps_the_rest}
use Rattle.pool_mail.proofs.laws.request_ads_keep_the_rest.Goals as goal

pub returns : goal.returns
returns c = keeps_the_rest
