use Rattle.std.proofs.Common.{ℕ, Ok, rules}
use Rattle.std.proofs.lemmas.Iterator.{items_from_collect, YieldsList-from_map, YieldsList-from_slice}
use Rattle.std.proofs.lemmas.Iterator.Consumers.{YieldsList-at}
use Rattle.matchmaker.specs.declared.course.Made.{Made}
use Rattle.matchmaker.proofs.plain.matches_of.Goals as goal

pub returns : goal.returns
returns c = items_from_collect {E = ℕ} (Ok c.in_ok-collect.field-0) c.in_ok-collect.ensures.ran
    (YieldsList-from_map _ (λ (m : Made). m.matched) (YieldsList-at c.map.ensures.source (YieldsList-from_slice c.args.made.now c.iter.ensures.rest)) c.map.ensures.closure (λ x r q k. search rules))
