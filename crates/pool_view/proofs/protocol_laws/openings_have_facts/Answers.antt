use Rattle.pool_view.proofs.SameProtocol.{opening_facts, opening_safe}
use Rattle.pool_view.proofs.protocol_laws.openings_have_facts.Goals as goal

pub returns : goal.returns
returns c = λ p opening. (opening_facts p opening, opening_safe p opening)
