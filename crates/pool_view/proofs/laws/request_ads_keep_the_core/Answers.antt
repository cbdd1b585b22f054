use Rattle.pool_view.proofs.Cores.{core_of_request}
use Rattle.pool_view.proofs.laws.request_ads_keep_the_core.Goals as goal

pub returns : goal.returns
returns c = core_of_request
