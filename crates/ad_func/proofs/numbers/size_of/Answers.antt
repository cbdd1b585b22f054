use Rattle.std.proofs.Common.{rules}
use Rattle.ad_func.proofs.NumberLemmas.{size_of_list}
use Rattle.ad_func.proofs.numbers.size_of.Goals as goal

pub returns-in-List : goal.returns-in-List
returns-in-List c = size_of_list c.args.value.now c.in-List.list _ c.in-List.is (c.count_of-in-List.ensures) (search rules)
