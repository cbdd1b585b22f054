use Rattle.claim_id.proofs.Secrets.{length-secret, digits-secret}
use Rattle.claim_id.proofs.laws.secret_has_16_digits.Goals as goal

pub returns-clause-length : goal.returns-clause-length
returns-clause-length c = length-secret

pub returns-clause-digits : goal.returns-clause-digits
returns-clause-digits c = digits-secret
