-- The chains give the bytes in lower case.
use Rattle.std.proofs.Common.{◌≡◌, refl, rules}
use Rattle.std.specs.Char.{to_ascii_lowercase}
use Rattle.std.specs.Ordering.{nat_cmp}
use Rattle.std.proofs.lemmas.Iterator.{YieldsList-from_map, YieldsList-from_slice}
use Rattle.std.proofs.lemmas.Iterator.Consumers.{YieldsList-at}
use Rattle.std.proofs.lemmas.Iterator.Search.{cmp_from_yields_List}
use Rattle.ad_value.proofs.order.ascii_cmp.Goals as goal

pub returns : goal.returns
returns c =
    cmp_from_yields_List (λ s it. it ≡ s) c.map-2.result nat_cmp _ c.cmp.ensures.ran (YieldsList-from_map _ to_ascii_lowercase (YieldsList-at c.map.ensures.source (YieldsList-from_slice c.args.a.now c.iter.ensures.rest)) c.map.ensures.closure (λ x r q k. search rules)) (λ it e. YieldsList-at e (YieldsList-from_map _ to_ascii_lowercase (YieldsList-at c.map-2.ensures.source (YieldsList-from_slice c.args.b.now c.iter-2.ensures.rest)) c.map-2.ensures.closure (λ x r q k. search rules))) (λ x y. refl)
