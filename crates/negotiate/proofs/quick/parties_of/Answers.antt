use Rattle.std.proofs.Common.{◌≡◌, ◌∙◌, [], List, refl, sym, subst}
use Rattle.std.proofs.lemmas.List.{nil_from_length}
use Rattle.ad_tree.specs.Ad.{Attributes}
use Rattle.negotiate.specs.Parties.{IsPartyOf}
use Rattle.negotiate.proofs.Members.{one_fewer}
use Rattle.negotiate.proofs.Numbering.{parties_begin, parties_more, parties_all}
use Rattle.negotiate.proofs.quick.parties_of.Goals as goal

pub loop-bidder-init : goal.loop-bidder-init
loop-bidder-init c = record {
  parties = parties_begin c.args.clusters.now.slots c.args.bidders.items _ _ c.in_ok-bidders.ensures c.in_ok-parties.ensures.items;
  slots = refl;
}

pub loop-bidder-preserved : goal.loop-bidder-preserved
loop-bidder-preserved c = record {
  parties = parties_more c.args.clusters.now.slots c.args.bidders.items c.loop-bidder.bidders.items c.pop_front.new.self.items c.loop-bidder.parties.items c.push.new.self.items c.in-Some.bidder c.in_ok-party.party
      c.loop-bidder.invariant.parties c.in-Some.ensures.items (subst (λ (s : List Attributes). IsPartyOf s c.in-Some.bidder c.in_ok-party.party) c.loop-bidder.invariant.slots c.in_ok-party.ensures.party) c.in_ok-push.ensures.items;
  slots = c.in_ok-party.ensures.slots ∙ c.loop-bidder.invariant.slots;
}

pub returns : goal.returns
returns c =
    let empty : c.loop-bidder.bidders.items ≡ [] = nil_from_length c.loop-bidder.bidders.items (sym c.loop-bidder.bidders.ok.0 ∙ c.in_default.ensures.cases.0) in
    parties_all c.args.clusters.now.slots c.args.bidders.items c.loop-bidder.bidders.items c.loop-bidder.parties.items c.loop-bidder.invariant.parties empty

pub loop-bidder-smaller : goal.loop-bidder-smaller
loop-bidder-smaller c = one_fewer c.loop-bidder.bidders.items c.pop_front.new.self.items c.in-Some.bidder c.in-Some.ensures.items
