-- What the submitters with lists and their matches give of a snapshot.
use Rattle.std.proofs.Common.{◌≡◌, List, [], map, ap, ◌∙◌, subst}
use Rattle.std.specs.List.{AllZip}
use Rattle.ad_tree.specs.Ad.{Attributes}
use Rattle.auto_cluster.specs.Clustering.{Clustering}
use Rattle.matchmaker.specs.Cycle.{cycle_of}
use Rattle.matchmaker.specs.Loops as loops
use Rattle.matchmaker.specs.Opening.{IsOpening}
use Rattle.negotiate.specs.Parties.{bidder_of, slot_ads, IsPartyOf}
use Rattle.matchmaker.specs.Plain.{PlainCycle}
use Rattle.negotiate.proofs.Numbering.{same_bidders}
use Rattle.pool_mail.specs.declared.matching.Match.{Match}
use Rattle.matchmaker.specs.declared.snapshot.Snapshot.{Snapshot}
use Rattle.matchmaker.specs.declared.snapshot.Offer.{Offer}
use Rattle.matchmaker.specs.declared.course.Made.{Made}
use Rattle.matchmaker.specs.declared.course.Bidder as code
use Rattle.negotiate.specs.declared.parties.Party.{Party}

-- the autoclusters are those over the snapshot's slots
pub parties_over : (s : Snapshot) (slots : List Offer) (ads : List Attributes) (c : Clustering) (bs : List code.Bidder) (ps : List Party) → slots ≡ s.slots → ads ≡ map (λ (o : Offer). o.ad) slots
    → c ≡ record { slots = ads; parts = [] } → AllZip (IsPartyOf c.slots) bs ps → AllZip (IsPartyOf (slot_ads s)) bs ps
parties_over s slots ads c bs ps e f g z =
    subst (λ (l : List Attributes). AllZip (IsPartyOf l) bs ps) (ap (λ (k : Clustering). k.slots) g ∙ f ∙ ap (map (λ (o : Offer). o.ad)) e) z

pub cycle_is_plain : (s : Snapshot) (bs : List code.Bidder) (ps : List Party) (made : List Made) (matches : List Match) → AllZip (IsPartyOf (slot_ads s)) bs ps → IsOpening s (map loops.bidder_of bs)
    → made ≡ cycle_of s (map bidder_of ps) → matches ≡ map (λ (m : Made). m.matched) made → PlainCycle s matches
cycle_is_plain s bs ps made matches z o e f = record {
  made = made;
  cycle = record {
    bidders = map loops.bidder_of bs;
    opening = o;
    gives = e ∙ ap (cycle_of s) (same_bidders (slot_ads s) bs ps z);
  };
  are = f;
}
