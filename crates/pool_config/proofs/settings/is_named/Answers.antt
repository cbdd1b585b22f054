use Rattle.std.proofs.Common.{rules, tests}
use Rattle.std.proofs.lemmas.Iterator.{YieldsList-from_slice}
use Rattle.std.proofs.lemmas.Iterator.Search.{any_from_yields_List}
use Rattle.std.specs.Str.{bytes_eq}
use Rattle.pool_config.specs.declared.config.Machine.{Machine}
use Rattle.pool_config.proofs.settings.is_named.Goals as goal

pub returns : goal.returns
returns c = any_from_yields_List (λ (m : Machine). bytes_eq c.args.name.now m.name) _ _ _ c.any.ensures.ran (YieldsList-from_slice c.args.machines.now c.iter.ensures.rest) (λ x r q k. search (rules, tests))
