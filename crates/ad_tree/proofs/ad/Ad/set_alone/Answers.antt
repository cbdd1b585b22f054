-- All of the table is shown, before and after.
use Rattle.std.proofs.Common.{◌≡◌, ◌<◌, ◌≤◌, ◌++◌, ◌∷◌, [], ap, sym, ◌∙◌, refl, length, arith}
use Rattle.std.specs.List.{range_with_len}
use Rattle.ad_tree.specs.Ad.{lookup, with_attribute}
use Rattle.ad_tree.specs.Tree.{tree}
use Rattle.ad_tree.proofs.AdLemmas.{length-with_attribute-within}
use Rattle.ad_tree.proofs.PlacesLemmas.{IsAdOver-set, attributes_at-set, attributes_at-whole, places-kept, places-grown}
use Rattle.ad_tree.proofs.ad.Ad.set_alone.Goals as goal

pub put-requires : goal.put-requires
put-requires c =
    let name = c.args.name.now in
    let same : length c.self.inside.places.items ≡ length c.self.inside.table = omega (arith, c.len-len.ensures, c.len.ensures, c.if-len.false) in
    let whole : c.args.self.now ≡ c.self.inside.table = sym c.self.view_is ∙ attributes_at-whole c.self.inside.table c.self.inside.places.items c.self.invariant same in
    record { room = λ h. c.requires.room (ap (lookup name) whole ∙ h.0, ap length whole ∙ h.1) }

pub overflow_cast-len : goal.overflow_cast-len
overflow_cast-len c =
    let name = c.args.name.now in
    let same : length c.self.inside.places.items ≡ length c.self.inside.table = omega (arith, c.len-len.ensures, c.len.ensures, c.if-len.false) in
    let whole : c.args.self.now ≡ c.self.inside.table = sym c.self.view_is ∙ attributes_at-whole c.self.inside.table c.self.inside.places.items c.self.invariant same in
    let within : length (with_attribute name (tree c.args.expr) c.self.inside.table) ≤ 256 =
    length-with_attribute-within name (tree c.args.expr) c.self.inside.table (λ h. c.requires.room (ap (lookup name) whole ∙ h.0, ap length whole ∙ h.1)) c.self.invariant.1.1 in
    let less : c.len-len.result < 256 = omega (arith, c.if-len-2.true, c.len-2.ensures, ap length c.in_ok-put.ensures.ok, within) in
    omega (arith, less)

pub invariant_of-self-then-len-2 : goal.invariant_of-self-then-len-2
invariant_of-self-then-len-2 c =
    let name = c.args.name.now in
    let places = c.self.inside.places.items in
    let same : length places ≡ length c.self.inside.table = omega (arith, c.len-len.ensures, c.len.ensures, c.if-len.false) in
    let whole : c.args.self.now ≡ c.self.inside.table = sym c.self.view_is ∙ attributes_at-whole c.self.inside.table places c.self.invariant same in
    let grown : places ++ c.len-len.result ∷ [] ≡ range_with_len 0 (length c.put.new.self) =
    places-grown name (tree c.args.expr) c.self.inside.table c.put.new.self places c.len-len.result c.self.invariant same c.in_ok-put.ensures.ok (omega (arith, c.len-len.ensures)) (omega (arith, c.if-len-2.true, c.len-2.ensures)) in
    let pushed : c.push.new.self.items ≡ places ++ c.len-len.result ∷ [] = rw (c.push.ensures.items, c.unwrap.ensures, c.in_ok-reserve.ensures.items) refl in
    IsAdOver-set name (tree c.args.expr) c.self.inside.table c.put.new.self places c.push.new.self.items c.self.invariant (λ h. c.requires.room (ap (lookup name) whole ∙ h.0, ap length whole ∙ h.1)) c.in_ok-put.ensures.ok (pushed ∙ grown)

pub invariant_of-self-else-len-2 : goal.invariant_of-self-else-len-2
invariant_of-self-else-len-2 c =
    let name = c.args.name.now in
    let places = c.self.inside.places.items in
    let same : length places ≡ length c.self.inside.table = omega (arith, c.len-len.ensures, c.len.ensures, c.if-len.false) in
    let whole : c.args.self.now ≡ c.self.inside.table = sym c.self.view_is ∙ attributes_at-whole c.self.inside.table places c.self.invariant same in
    let kept : places ≡ range_with_len 0 (length c.put.new.self) =
    places-kept name (tree c.args.expr) c.self.inside.table c.put.new.self places c.self.invariant same c.in_ok-put.ensures.ok (omega (arith, c.if-len-2.false, c.len-2.ensures, c.len-len.ensures)) in
    IsAdOver-set name (tree c.args.expr) c.self.inside.table c.put.new.self places c.reserve.new.self.items c.self.invariant (λ h. c.requires.room (ap (lookup name) whole ∙ h.0, ap length whole ∙ h.1)) c.in_ok-put.ensures.ok (c.in_ok-reserve.ensures.items ∙ kept)

pub returns-then-len-2-clause-ok : goal.returns-then-len-2-clause-ok
returns-then-len-2-clause-ok c =
    let name = c.args.name.now in
    let places = c.self.inside.places.items in
    let same : length places ≡ length c.self.inside.table = omega (arith, c.len-len.ensures, c.len.ensures, c.if-len.false) in
    let grown : places ++ c.len-len.result ∷ [] ≡ range_with_len 0 (length c.put.new.self) =
    places-grown name (tree c.args.expr) c.self.inside.table c.put.new.self places c.len-len.result c.self.invariant same c.in_ok-put.ensures.ok (omega (arith, c.len-len.ensures)) (omega (arith, c.if-len-2.true, c.len-2.ensures)) in
    let pushed : c.push.new.self.items ≡ places ++ c.len-len.result ∷ [] = rw (c.push.ensures.items, c.unwrap.ensures, c.in_ok-reserve.ensures.items) refl in
    attributes_at-set name (tree c.args.expr) c.self.inside.table c.put.new.self places c.push.new.self.items c.self.invariant same c.in_ok-put.ensures.ok (pushed ∙ grown) ∙ ap (with_attribute name (tree c.args.expr)) c.self.view_is

pub returns-else-len-2-clause-ok : goal.returns-else-len-2-clause-ok
returns-else-len-2-clause-ok c =
    let name = c.args.name.now in
    let places = c.self.inside.places.items in
    let same : length places ≡ length c.self.inside.table = omega (arith, c.len-len.ensures, c.len.ensures, c.if-len.false) in
    let kept : places ≡ range_with_len 0 (length c.put.new.self) =
    places-kept name (tree c.args.expr) c.self.inside.table c.put.new.self places c.self.invariant same c.in_ok-put.ensures.ok (omega (arith, c.if-len-2.false, c.len-2.ensures, c.len-len.ensures)) in
    attributes_at-set name (tree c.args.expr) c.self.inside.table c.put.new.self places c.reserve.new.self.items c.self.invariant same c.in_ok-put.ensures.ok (c.in_ok-reserve.ensures.items ∙ kept) ∙ ap (with_attribute name (tree c.args.expr)) c.self.view_is
