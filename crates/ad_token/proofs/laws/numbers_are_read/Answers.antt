use Rattle.ad_token.proofs.Pieces.{digits_at, decimals_at}
use Rattle.ad_token.proofs.Exponents.{exponents_at, no_exponents_at, points_at}
use Rattle.ad_token.proofs.laws.numbers_are_read.Goals as goal

pub returns-clause-integers : goal.returns-clause-integers
returns-clause-integers c = λ ds bs digits. digits_at ds bs digits.0 digits.1

pub returns-clause-decimals : goal.returns-clause-decimals
returns-clause-decimals c = λ ds fs bs digits. decimals_at ds fs bs digits.0 digits.1

pub returns-clause-exponents : goal.returns-clause-exponents
returns-clause-exponents c = λ ds fs es bs digits fraction exponent stop. exponents_at bs stop ds fs es digits fraction exponent

pub returns-clause-no_exponents : goal.returns-clause-no_exponents
returns-clause-no_exponents c = no_exponents_at

pub returns-clause-points : goal.returns-clause-points
returns-clause-points c = points_at
