use Rattle.pool_mail.proofs.OwnClaims.{own_claims}
use Rattle.pool_mail.proofs.laws.startds_hear_of_their_own_claims.Goals as goal

pub returns : goal.returns
returns c = own_claims
