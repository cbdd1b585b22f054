use Rattle.std.proofs.Common.{ℕ, List, Bor, rules, tests}
use Rattle.std.proofs.lemmas.Iterator.{YieldsList-from_slice}
use Rattle.std.proofs.lemmas.Iterator.Search.{any_from_yields_List}
use Rattle.ad_value.specs.Names.{same_name}
use Rattle.pool_config.proofs.name.is_among.Goals as goal

pub returns : goal.returns
returns c = any_from_yields_List (λ (other : Bor (List ℕ)). same_name c.args.name.now other.now) _ _ _ c.any.ensures.ran (YieldsList-from_slice c.args.names.now c.iter.ensures.rest) (λ x r q k. search (rules, tests))
