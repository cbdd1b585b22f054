use Rattle.std.proofs.Common.{rules}
use Rattle.pool_parts.proofs.ShortNumbers.{numbers_are_short}
use Rattle.pool_parts.proofs.numbers.go_over_numbers.Goals as goal

pub returns : goal.returns
returns c = search (rules, numbers_are_short)
