use Rattle.thin_pool.proofs.Growing.{leads_on}
use Rattle.thin_pool.proofs.laws.histories_grow.Goals as goal

pub returns : goal.returns
returns c = λ p q r list s. leads_on p list q s r
