use Rattle.pool_view.proofs.SameProtocol.{moves_good}
use Rattle.pool_view.proofs.protocol_laws.protocols_go_on.Goals as goal

pub returns : goal.returns
returns c = λ p q ms facts safe moves. moves_good p ms q moves facts safe
