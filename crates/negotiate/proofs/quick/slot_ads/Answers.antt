use Rattle.std.proofs.Common.{◌≡◌, ℕ, ◌+◌, ◌<◌, List, [], ◌∷◌, ◌++◌, length, get_or, take, map, ap, sym, ◌∙◌}
use Rattle.std.proofs.lemmas.List.{map_more, take_all}
use Rattle.ad_tree.specs.Ad.{Attributes}
use Rattle.matchmaker.specs.declared.snapshot.Offer.{Offer}
use Rattle.negotiate.proofs.quick.slot_ads.Goals as goal

one_more : (slots : List Offer) (i : ℕ) (slot : Offer) (ad : Attributes) (before after : List Attributes) → i < length slots → slot ≡ get_or slots i slot → ad ≡ slot.ad
    → before ≡ map (λ o. o.ad) (take i slots) → after ≡ before ++ ad ∷ [] → after ≡ map (λ o. o.ad) (take (i + 1) slots)
one_more slots i slot ad before after less at same so_far pushed =
    pushed
    ∙ ap (λ (ads : List Attributes). ads ++ ad ∷ []) so_far
    ∙ ap (λ (a : Attributes). map (λ (o : Offer). o.ad) (take i slots) ++ a ∷ []) (same ∙ ap (λ (o : Offer). o.ad) at)
    ∙ sym (map_more (λ (o : Offer). o.ad) slots i slot less)

pub loop-slot-init : goal.loop-slot-init
loop-slot-init c = c.in_ok-ads.ensures.items

pub loop-slot-preserved : goal.loop-slot-preserved
loop-slot-preserved c =
    one_more c.args.slots.now c.loop-slot.slot-index c.slot-item.result c.in_ok-ad.ad c.loop-slot.ads.items c.push.new.self.items
    c.loop-slot-test.true c.slot-item.is c.in_ok-ad.ensures c.loop-slot.invariant c.in_ok-push.ensures.items

pub returns : goal.returns
returns c =
    c.from_vec.ensures ∙ (c.loop-slot.invariant ∙ ap (map (λ (o : Offer). o.ad)) (take_all c.loop-slot.slot-index c.args.slots.now c.loop-slot-test.false))
