use Rattle.std.proofs.Common.{ℕ, List, rules, tests}
use Rattle.std.proofs.lemmas.Iterator.{YieldsList-from_slice}
use Rattle.std.proofs.lemmas.Iterator.Search.{any_from_yields_List}
use Rattle.ad_value.specs.Names.{same_name}
use Rattle.auto_cluster.proofs.parts.is_among.Goals as goal

pub returns : goal.returns
returns c = any_from_yields_List (λ (n : List ℕ). same_name c.args.name.now n) _ _ _ c.any.ensures.ran (YieldsList-from_slice c.args.names.now c.iter.ensures.rest) (λ x r q k. search (rules, tests))
