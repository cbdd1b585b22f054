-- Submitters with the lists of their autoclusters.
use Rattle.std.specs.Prelude.{◌≡◌, ℕ, ◌+◌, ◌*◌, ◌≤◌, List, length, map, get_or, slice_get, Some, None, Contains}
use Rattle.std.specs.List.{AllZip, sum, sum_by}
use Rattle.pool_mail.specs.declared.matching.Request.{Request}
use Rattle.ad_tree.specs.Ad.{Attributes}
use Rattle.auto_cluster.specs.Significant.{IsSignificantPart}
use Rattle.auto_cluster.specs.Clustering.{Clustering, AreClusters}
use Rattle.matchmaker.specs.declared.snapshot.Snapshot.{Snapshot}
use Rattle.matchmaker.specs.declared.course.Made.{Made}
use Rattle.matchmaker.specs.declared.course.Bidder as code
use Rattle.negotiate.specs.declared.grouping.Clustered.{Clustered}
use Rattle.negotiate.specs.declared.parties.Party.{Party}
use Rattle.matchmaker.specs.Cycle.{Bidder}
use Rattle.negotiate.specs.Grouped.{Lists, Tables, unjudged}
use Rattle.matchmaker.specs.Opening.{IsOpening}

abbrev pub requests_of : List Clustered → List Request
requests_of left = map (λ r. r.request) left

abbrev pub bidder_of : Party → Bidder
bidder_of p = record { account = p.account; left = requests_of p.left.items }

abbrev pub HasTables : Snapshot → List Made → Party → Type 0
HasTables s made p = Tables s made p.lists.items p.left.items

-- how many autoclusters may still be judged
unfoldable pub to_judge : List Party → ℕ
to_judge ps = sum_by (λ p. unjudged p.lists.items) ps

abbrev pub CostsAll : ℕ → List Party → List Party → ℕ → ℕ → Type 0
CostsAll slots old new before after =
    after + to_judge new * slots ≤ before + to_judge old * slots

abbrev pub slot_ads : Snapshot → List Attributes
slot_ads s = map (λ o. o.ad) s.slots

-- a request has the number of the autocluster of its significant attributes
pub record IsNumberedIn (c : Clustering) (r : Clustered) : Type 0 where
  pub part : Attributes
  pub of_request : IsSignificantPart c.slots r.request.ad part
  pub at_number : slice_get c.parts r.cluster ≡ Some part

-- requests with their numbers, and the autoclusters that they make
pub record IsClustered (slots : List Attributes) (left : List Clustered) (c : Clustering) :
    Type 0 where
  pub of_slots : c.slots ≡ slots
  pub differ : AreClusters c.parts
  pub numbers : (r : Clustered) → Contains left r → IsNumberedIn c r
  pub each : (p : Attributes) → Contains c.parts p
      → (r : Clustered) × Contains left r × IsSignificantPart slots r.request.ad p

-- lists of which none was made
pub record AreUnmade (lists : Lists) (count : ℕ) : Type 0 where
  pub none : (i : ℕ) → get_or lists i None ≡ None
  pub all_unjudged : unjudged lists ≡ count
  pub as_long : length lists ≡ count

-- a submitter before its first turn
pub record IsPartyOf (slots : List Attributes) (b : code.Bidder) (p : Party) : Type 0 where
  pub account : p.account ≡ b.account
  pub left : requests_of p.left.items ≡ b.left.items
  pub clustering : Clustering
  pub clustered : IsClustered slots p.left.items clustering
  pub lists : AreUnmade p.lists.items (length clustering.parts)

-- ---- how many autoclusters there are

-- the autoclusters of requests: their significant attributes, each once
pub record HasClusters (slots : List Attributes) (requests : List Request) (count : ℕ) :
    Type 0 where
  pub parts : List Attributes
  pub differ : AreClusters parts
  pub each : (p : Attributes) → Contains parts p
      → (r : Request) × Contains requests r × IsSignificantPart slots r.ad p
  pub all : (r : Request) → Contains requests r
      → (p : Attributes) × Contains parts p × IsSignificantPart slots r.ad p
  pub as_many : length parts ≡ count

-- the autoclusters of all submitters, counted for each
pub record CountsClusters (s : Snapshot) (count : ℕ) : Type 0 where
  pub bidders : List Bidder
  pub opening : IsOpening s bidders
  pub counts : List ℕ
  pub each : AllZip (λ b n. HasClusters (slot_ads s) b.left n) bidders counts
  pub total : sum counts ≡ count

-- at most a judgement for each autocluster and slot
pub record JudgesWithin (s : Snapshot) (before after : ℕ) : Type 0 where
  pub clusters : ℕ
  pub counted : CountsClusters s clusters
  pub within : after ≤ before + clusters * length s.slots
