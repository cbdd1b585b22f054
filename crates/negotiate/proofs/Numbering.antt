-- Requests and the numbers of their autoclusters, and submitters before their first turn.
use Rattle.std.proofs.Common.{◌≡◌, ℕ, zero, suc, ◌+◌, ◌*◌, ◌<◌, ◌≤◌, List, [], ◌∷◌, ◌++◌, length, map, get_or, Some, None, refl, sym, ap, ◌∙◌, arith, subst, inl, inr, append_assoc, append-nil, length-append}
use Rattle.std.specs.Prelude.{◌⊎◌, slice_get, Contains}
use Rattle.std.specs.List.{All, AllZip}
use Rattle.std.proofs.lemmas.Option.{slice_get_within}
use Rattle.std.proofs.lemmas.List.Sums.{sum_by-append, sum-map}
use Rattle.ad_tree.specs.Ad.{Attributes}
use Rattle.auto_cluster.specs.Significant.{IsSignificantPart}
use Rattle.auto_cluster.specs.Clustering.{Clustering, IsNumbered, AreClusters}
use Rattle.auto_cluster.specs.Laws.{AgreeingJobsMatchAlike, AreAlike}
use Rattle.matchmaker.specs.Offers.{fits, rank_of_slot}
use Rattle.matchmaker.specs.Cycle.{Bidder}
use Rattle.matchmaker.specs.Loops as loops
use Rattle.negotiate.specs.Grouped.{Alike, Lists, unjudged}
use Rattle.matchmaker.specs.Opening.{IsOpening}
use Rattle.negotiate.specs.Parties.{requests_of, bidder_of, HasTables, to_judge, slot_ads, IsNumberedIn, IsClustered, AreUnmade, IsPartyOf, HasClusters, JudgesWithin}
use Rattle.negotiate.proofs.Members.{IsIn, contains_in, in_contains}
use Rattle.negotiate.proofs.ListTables.{weight_of, unjudged_by}
use Rattle.pool_mail.specs.declared.matching.Request.{Request}
use Rattle.matchmaker.specs.declared.snapshot.Snapshot.{Snapshot}
use Rattle.matchmaker.specs.declared.snapshot.Offer.{Offer}
use Rattle.negotiate.specs.declared.grouping.Clustered.{Clustered}
use Rattle.negotiate.specs.declared.parties.Party.{Party}
use Rattle.matchmaker.specs.declared.course.Bidder as code

-- ---- members

in_push : {A : Type 0} (x y : A) (xs : List A) → IsIn x (xs ++ y ∷ []) → IsIn x xs ⊎ (x ≡ y)
in_push x y [] (inl e) = inr e
in_push x y [] (inr h) = absurd h
in_push x y (z ∷ xs) (inl e) = inl (inl e)
in_push x y (z ∷ xs) (inr h) = elim (in_push x y xs h) [ inl k ↦ inl (inr k) | inr e ↦ inr e ]

in_old : {A : Type 0} (x : A) (xs ys : List A) → IsIn x xs → IsIn x (xs ++ ys)
in_old x [] ys h = absurd h
in_old x (z ∷ xs) ys (inl e) = inl e
in_old x (z ∷ xs) ys (inr h) = inr (in_old x xs ys h)

in_new : {A : Type 0} (y : A) (xs : List A) → IsIn y (xs ++ y ∷ [])
in_new y [] = inl refl
in_new y (z ∷ xs) = inr (in_new y xs)

in_map : {A B : Type 0} (f : A → B) (x : A) (xs : List A) → IsIn x xs → IsIn (f x) (map f xs)
in_map f x [] h = absurd h
in_map f x (z ∷ xs) (inl e) = inl (ap f e)
in_map f x (z ∷ xs) (inr h) = inr (in_map f x xs h)

in_mapped : {A B : Type 0} (f : A → B) (y : B) (xs : List A) → IsIn y (map f xs) → (x : A) × IsIn x xs × (y ≡ f x)
in_mapped f y [] h = absurd h
in_mapped f y (z ∷ xs) (inl e) = (z, inl refl, e)
in_mapped f y (z ∷ xs) (inr h) = let p = in_mapped f y xs h in (p.0, inr p.1, p.2)

at_in : {A : Type 0} (x : A) (xs : List A) (n : ℕ) → slice_get xs n ≡ Some x → IsIn x xs
at_in x [] n e = let k : None ≡ Some x = e in cc
at_in x (y ∷ xs) zero e = let k : Some y ≡ Some x = e in inl (cc)
at_in x (y ∷ xs) (suc n) e = inr (at_in x xs n e)

get_more : {A : Type 0} (xs ys : List A) (n : ℕ) (x : A) → slice_get xs n ≡ Some x → slice_get (xs ++ ys) n ≡ Some x
get_more [] ys n x e = let k : None ≡ Some x = e in cc
get_more (y ∷ xs) ys zero x e = e
get_more (y ∷ xs) ys (suc n) x e = get_more xs ys n x e

-- ---- one more request

numbered_now : (c d : Clustering) (r : Clustered) → IsNumbered c d r.request.ad r.cluster → IsNumberedIn d r
numbered_now c d r n = record {
  part = n.part;
  of_request = subst (λ (s : List Attributes). IsSignificantPart s r.request.ad n.part) (sym n.slots) n.of_job;
  at_number = n.at_number;
}

still_numbered : (c d : Clustering) (r x : Clustered) → IsNumbered c d r.request.ad r.cluster → IsNumberedIn c x → IsNumberedIn d x
still_numbered c d r x n k = record {
  part = k.part;
  of_request = subst (λ (s : List Attributes). IsSignificantPart s x.request.ad k.part) (sym n.slots) k.of_request;
  at_number = elim n.parts [
    | inl e ↦ ap (λ (l : List Attributes). slice_get l x.cluster) e ∙ k.at_number
    | inr e ↦ ap (λ (l : List Attributes). slice_get l x.cluster) e.0 ∙ get_more c.parts (n.part ∷ []) x.cluster k.part k.at_number
  ];
}

pub none_clustered : (c : Clustering) → c.parts ≡ [] → IsClustered c.slots [] c
none_clustered c e = record {
  of_slots = refl;
  differ = subst AreClusters (sym e) (λ i j d lt l. absurd (omega (arith, l)));
  numbers = λ r i. absurd (contains_in r [] i);
  each = λ p i. absurd (contains_in p [] (subst (λ (l : List Attributes). Contains l p) e i));
}

pub more_clustered : (slots : List Attributes) (left : List Clustered) (c d : Clustering) (r : Clustered) → IsClustered slots left c → IsNumbered c d r.request.ad r.cluster → AreClusters d.parts → IsClustered slots (left ++ r ∷ []) d
more_clustered slots left c d r h n apart = record {
  of_slots = n.slots ∙ h.of_slots;
  differ = apart;
  numbers = λ x i. elim (in_push x r left (contains_in x (left ++ r ∷ []) i)) [
    | inl k ↦ still_numbered c d r x n (h.numbers x (in_contains x left k))
    | inr e ↦ subst (IsNumberedIn d) (sym e) (numbered_now c d r n)
  ];
  each = λ p i. elim n.parts [
    | inl e ↦ old p (subst (λ (l : List Attributes). Contains l p) e i)
    | inr e ↦ elim (in_push p n.part c.parts (contains_in p (c.parts ++ n.part ∷ []) (subst (λ (l : List Attributes). Contains l p) e.0 i))) [
      | inl k ↦ old p (in_contains p c.parts k)
      | inr q ↦ (r, in_contains r (left ++ r ∷ []) (in_new r left), subst (λ (s : List Attributes). IsSignificantPart s r.request.ad p) h.of_slots (subst (λ (a : Attributes). IsSignificantPart c.slots r.request.ad a) (sym q) n.of_job))
    ]
  ];
}
  where
    old : (p : Attributes) → Contains c.parts p → (x : Clustered) × Contains (left ++ r ∷ []) x × IsSignificantPart slots x.request.ad p
    old p k = let w = h.each p k in (w.0, in_contains w.0 (left ++ r ∷ []) (in_old w.0 left (r ∷ []) (contains_in w.0 left w.1)), w.2)

-- requests with their numbers so far
pub record Numbering (slots : List Attributes) (whole rest : List Request) (left : List Clustered) (c : Clustering) : Type 0 where
  pub clustered : IsClustered slots left c
  pub all : requests_of left ++ rest ≡ whole

pub numbering_begin : (whole : List Request) (left : List Clustered) (c : Clustering) → c.parts ≡ [] → left ≡ [] → Numbering c.slots whole whole left c
numbering_begin whole left c e f = subst (λ (l : List Clustered). Numbering c.slots whole whole l c) (sym f) (record { clustered = none_clustered c e; all = refl })

requests_push : (left : List Clustered) (r : Clustered) → requests_of (left ++ r ∷ []) ≡ requests_of left ++ r.request ∷ []
requests_push [] r = refl
requests_push (x ∷ left) r = ap (λ (l : List Request). x.request ∷ l) (requests_push left r)

pub numbering_more : (slots : List Attributes) (whole before rest : List Request) (left later : List Clustered) (c d : Clustering) (q : Request) (r : Clustered) → Numbering slots whole before left c → before ≡ q ∷ rest → r.request ≡ q
    → IsNumbered c d r.request.ad r.cluster → AreClusters d.parts → later ≡ left ++ r ∷ [] → Numbering slots whole rest later d
numbering_more slots whole before rest left later c d q r h e f n apart l = subst (λ (k : List Clustered). Numbering slots whole rest k d) (sym l) (record {
  clustered = more_clustered slots left c d r h.clustered n apart;
  all = ap (λ (k : List Request). k ++ rest) (requests_push left r) ∙ append_assoc (requests_of left) (r.request ∷ []) rest
      ∙ ap (λ (k : Request). requests_of left ++ k ∷ rest) f ∙ ap (λ (k : List Request). requests_of left ++ k) (sym e) ∙ h.all;
})

pub numbering_all : (slots : List Attributes) (whole rest : List Request) (left : List Clustered) (c : Clustering) → Numbering slots whole rest left c → rest ≡ [] → requests_of left ≡ whole
numbering_all slots whole rest left c h e = sym (append-nil (requests_of left)) ∙ ap (λ (k : List Request). requests_of left ++ k) (sym e) ∙ h.all

-- ---- lists of which none was made

pub unmade_none : (ls : Lists) → ls ≡ [] → AreUnmade ls (length ls)
unfolding unjudged
unmade_none ls e = subst (λ (l : Lists). AreUnmade l (length l)) (sym e) (record { none = λ i. refl; all_unjudged = refl; as_long = refl })

none_push : (ls : Lists) → ((i : ℕ) → get_or ls i None ≡ None) → (i : ℕ) → get_or (ls ++ None ∷ []) i None ≡ None
none_push [] h zero = refl
none_push [] h (suc i) = refl
none_push (x ∷ ls) h zero = h zero
none_push (x ∷ ls) h (suc i) = none_push ls (λ j. h (suc j)) i

pub unmade_more : (ls later : Lists) → AreUnmade ls (length ls) → later ≡ ls ++ None ∷ [] → AreUnmade later (length later)
unfolding unjudged unjudged_by weight_of
unmade_more ls later h e = subst (λ (l : Lists). AreUnmade l (length l)) (sym e) (record {
  none = none_push ls h.none;
  all_unjudged =
      let s : unjudged_by (ls ++ None ∷ []) ≡ unjudged_by ls + unjudged_by (None ∷ []) = sum_by-append weight_of ls (None ∷ []) in
      let o : unjudged_by (None ∷ []) ≡ 1 = refl in
      let n : length (ls ++ None ∷ []) ≡ length ls + 1 = length-append ls (None ∷ []) in
      let k : unjudged_by ls ≡ length ls = h.all_unjudged in
      let r : unjudged_by (ls ++ None ∷ []) ≡ length (ls ++ None ∷ []) = omega arith in r;
  as_long = refl;
})

-- ---- submitters before their first turn

zip_push : {A B : Type 0} (R : A → B → Type 0) (xs : List A) (ys : List B) (x : A) (y : B) → AllZip R xs ys → R x y → AllZip R (xs ++ x ∷ []) (ys ++ y ∷ [])
zip_push R [] [] x y z r = (r, tt)
zip_push R [] (b ∷ ys) x y z r = absurd z
zip_push R (a ∷ xs) [] x y z r = absurd z
zip_push R (a ∷ xs) (b ∷ ys) x y z r = (z.0, zip_push R xs ys x y z.1 r)

pub record PartiesSoFar (slots : List Attributes) (whole rest : List code.Bidder) (ps : List Party) : Type 0 where
  pub done : List code.Bidder
  pub made : AllZip (IsPartyOf slots) done ps
  pub all : done ++ rest ≡ whole

pub parties_begin : (slots : List Attributes) (whole rest : List code.Bidder) (ps : List Party) → rest ≡ whole → ps ≡ [] → PartiesSoFar slots whole rest ps
parties_begin slots whole rest ps e f = subst (λ (l : List Party). PartiesSoFar slots whole rest l) (sym f) (record { done = []; made = tt; all = e })

pub parties_more : (slots : List Attributes) (whole before rest : List code.Bidder) (ps later : List Party) (b : code.Bidder) (p : Party) → PartiesSoFar slots whole before ps → before ≡ b ∷ rest → IsPartyOf slots b p → later ≡ ps ++ p ∷ []
    → PartiesSoFar slots whole rest later
parties_more slots whole before rest ps later b p h e k l = subst (λ (q : List Party). PartiesSoFar slots whole rest q) (sym l) (record {
  done = h.done ++ b ∷ [];
  made = zip_push (IsPartyOf slots) h.done ps b p h.made k;
  all = append_assoc h.done (b ∷ []) rest ∙ ap (λ (k : List code.Bidder). h.done ++ k) (sym e) ∙ h.all;
})

pub parties_all : (slots : List Attributes) (whole rest : List code.Bidder) (ps : List Party) → PartiesSoFar slots whole rest ps → rest ≡ [] → AllZip (IsPartyOf slots) whole ps
parties_all slots whole rest ps h e = subst (λ (l : List code.Bidder). AllZip (IsPartyOf slots) l ps) (sym (append-nil h.done) ∙ ap (λ (k : List code.Bidder). h.done ++ k) (sym e) ∙ h.all) h.made

pub same_bidders : (slots : List Attributes) (bs : List code.Bidder) (ps : List Party) → AllZip (IsPartyOf slots) bs ps → map bidder_of ps ≡ map loops.bidder_of bs
same_bidders slots [] [] z = refl
same_bidders slots [] (p ∷ ps) z = absurd z
same_bidders slots (b ∷ bs) [] z = absurd z
same_bidders slots (b ∷ bs) (p ∷ ps) z = let more = same_bidders slots bs ps z.1 in λ i. record { account = z.0.account i; left = z.0.left i } ∷ more i

pub as_many_parties : (slots : List Attributes) (bs : List code.Bidder) (ps : List Party) → AllZip (IsPartyOf slots) bs ps → length ps ≡ length bs
as_many_parties slots [] [] z = refl
as_many_parties slots [] (p ∷ ps) z = absurd z
as_many_parties slots (b ∷ bs) [] z = absurd z
as_many_parties slots (b ∷ bs) (p ∷ ps) z = let more = as_many_parties slots bs ps z.1 in omega arith

-- what holds of each pair of two lists
all_parties : (slots : List Attributes) (P : Party → Type 0) (bs : List code.Bidder) (ps : List Party) → AllZip (IsPartyOf slots) bs ps → ((b : code.Bidder) (p : Party) → IsIn b bs → IsPartyOf slots b p → P p) → All P ps
all_parties slots P [] [] z f i d l = absurd (omega arith)
all_parties slots P [] (p ∷ ps) z f i d l = absurd z
all_parties slots P (b ∷ bs) [] z f i d l = absurd z
all_parties slots P (b ∷ bs) (p ∷ ps) z f zero d l = f b p (inl refl) z.0
all_parties slots P (b ∷ bs) (p ∷ ps) z f (suc i) d l = all_parties slots P bs ps z.1 (λ c q k. f c q (inr k)) i d (omega arith)

all_in : {A : Type 0} (P : A → Type 0) (xs : List A) → All P xs → (x : A) → IsIn x xs → P x
all_in P [] h x i = absurd i
all_in P (y ∷ xs) h x (inl e) = subst P (sym e) (h 0 y (let k : 0 < length (y ∷ xs) = omega arith in k))
all_in P (y ∷ xs) h x (inr i) = all_in P xs (λ j d l. h (suc j) d (let k : suc j < length (y ∷ xs) = omega arith in k)) x i

pub positive_parties : (slots : List Attributes) (bs : List code.Bidder) (ps : List Party) → AllZip (IsPartyOf slots) bs ps → All (λ (b : code.Bidder). 0 < b.account.effective) bs → All (λ (p : Party). 0 < p.account.effective) ps
positive_parties slots bs ps z h = all_parties slots (λ (p : Party). 0 < p.account.effective) bs ps z (λ b p i k. subst (λ (n : ℕ). 0 < n) (ap (λ u. u.effective) (sym k.account)) (all_in (λ (c : code.Bidder). 0 < c.account.effective) bs h b i))

some_is : {A : Type 0} {a b : A} → Some a ≡ Some b → a ≡ b
some_is e = cc

alike_requests : AgreeingJobsMatchAlike → (s : Snapshot) (c : Clustering) → c.slots ≡ slot_ads s → (q r : Clustered) → IsNumberedIn c q → IsNumberedIn c r → q.cluster ≡ r.cluster → Alike s q.request r.request
unfolding fits rank_of_slot
alike_requests law s c e q r a b same =
    let parts : a.part ≡ b.part = some_is (sym a.at_number ∙ ap (slice_get c.parts) same ∙ b.at_number) in
    let of_q : IsSignificantPart (slot_ads s) q.request.ad a.part = subst (λ (l : List Attributes). IsSignificantPart l q.request.ad a.part) e a.of_request in
    let of_r : IsSignificantPart (slot_ads s) r.request.ad a.part = subst (λ (l : List Attributes). IsSignificantPart l r.request.ad a.part) e (subst (λ (p : Attributes). IsSignificantPart c.slots r.request.ad p) (sym parts) b.of_request) in
    record {
      same = λ o i.
          let alike : AreAlike o.ad s.now q.request.ad r.request.ad = law (slot_ads s) q.request.ad r.request.ad a.part o.ad s.now of_q of_r (in_contains o.ad (slot_ads s) (in_map (λ (x : Offer). x.ad) o s.slots (contains_in o s.slots i))) in
          (alike.matching, alike.rank);
    }

table_of : AgreeingJobsMatchAlike → (s : Snapshot) (b : code.Bidder) (p : Party) → IsPartyOf (slot_ads s) b p → HasTables s [] p
table_of law s b p k = record {
  alike = λ q r i j e. alike_requests law s k.clustering k.clustered.of_slots q r (k.clustered.numbers q i) (k.clustered.numbers r j) e;
  within = λ r i.
      let n = k.clustered.numbers r i in
      let l : r.cluster < length k.clustering.parts = slice_get_within k.clustering.parts r.cluster n.part n.at_number in
      let m : length p.lists.items ≡ length k.clustering.parts = k.lists.as_long in omega arith;
  serves = λ r i v e. absurd (let n : None ≡ Some v = sym (k.lists.none r.cluster) ∙ e in cc);
}

pub tables_of : AgreeingJobsMatchAlike → (s : Snapshot) (bs : List code.Bidder) (ps : List Party) → AllZip (IsPartyOf (slot_ads s)) bs ps → All (HasTables s []) ps
tables_of law s bs ps z = all_parties (slot_ads s) (HasTables s []) bs ps z (λ b p i k. table_of law s b p k)

-- ---- how many autoclusters there are

clusters_of : (slots : List Attributes) (b : code.Bidder) (p : Party) → IsPartyOf slots b p → HasClusters slots b.left.items (unjudged p.lists.items)
clusters_of slots b p k = record {
  parts = k.clustering.parts;
  differ = k.clustered.differ;
  each = λ a i. let w = k.clustered.each a i in
      (w.0.request, subst (λ (l : List Request). Contains l w.0.request) k.left (in_contains w.0.request (requests_of p.left.items) (in_map (λ (x : Clustered). x.request) w.0 p.left.items (contains_in w.0 p.left.items w.1))), w.2);
  all = λ r i.
      let w = in_mapped (λ (x : Clustered). x.request) r p.left.items (contains_in r (requests_of p.left.items) (subst (λ (l : List Request). Contains l r) (sym k.left) i)) in
      let n = k.clustered.numbers w.0 (in_contains w.0 p.left.items w.1) in (
        n.part,
        in_contains n.part k.clustering.parts (at_in n.part k.clustering.parts w.0.cluster n.at_number),
        subst (λ (q : Request). IsSignificantPart slots q.ad n.part) (sym w.2) (subst (λ (l : List Attributes). IsSignificantPart l w.0.request.ad n.part) k.clustered.of_slots n.of_request),
      );
  as_many = sym k.lists.all_unjudged;
}

all_clusters : (slots : List Attributes) (bs : List code.Bidder) (ps : List Party) → AllZip (IsPartyOf slots) bs ps → AllZip (λ (b : Bidder) (n : ℕ). HasClusters slots b.left n) (map loops.bidder_of bs) (map (λ (p : Party). unjudged p.lists.items) ps)
all_clusters slots [] [] z = tt
all_clusters slots [] (p ∷ ps) z = absurd z
all_clusters slots (b ∷ bs) [] z = absurd z
all_clusters slots (b ∷ bs) (p ∷ ps) z = (clusters_of slots b p z.0, all_clusters slots bs ps z.1)

pub judges_within : (s : Snapshot) (bs : List code.Bidder) (ps : List Party) (before after : ℕ) → AllZip (IsPartyOf (slot_ads s)) bs ps → IsOpening s (map loops.bidder_of bs) → after ≤ before + to_judge ps * length s.slots → JudgesWithin s before after
unfolding to_judge
judges_within s bs ps before after z o le = record {
  clusters = to_judge ps;
  counted = record {
    bidders = map loops.bidder_of bs;
    opening = o;
    counts = map (λ (p : Party). unjudged p.lists.items) ps;
    each = all_clusters (slot_ads s) bs ps z;
    total = sum-map (λ (p : Party). unjudged p.lists.items) ps;
  };
  within = le;
}
