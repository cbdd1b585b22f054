use Rattle.std.proofs.Common.{rules}
use Rattle.std.proofs.lemmas.Fn.{always_returns_same}
use Rattle.matchmaker.specs.Kept.{name_order}
use Rattle.matchmaker.proofs.Named.{place_found}
use Rattle.matchmaker.proofs.kept.place_of.Goals as goal

pub returns : goal.returns
returns c = place_found c.args.name.now c.args.kept.now c.binary_search_by.result c.requires c.binary_search_by.ensures.bound
    (c.binary_search_by.ensures.position (name_order c.args.name.now) (always_returns_same _ _ _ (λ a r q k. search rules)))
