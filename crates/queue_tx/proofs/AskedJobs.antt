-- That the queue keeps its idle jobs by what they ask for.
use Rattle.std.proofs.Common.{◌≡◌, ℕ, Bool, true, false, true≢false, not, cond, List, [], Option, Some, None, is_some, IfSome, refl, ap, sym, ◌∙◌, subst}
use Rattle.std.specs.Prelude.{find, IsSomeAnd}
use Rattle.std.specs.declared.cmp.Ordering.{Ordering}
use Rattle.std.specs.declared.cmp.Ordering.TheVariants.{Less, Equal, Greater}
use Rattle.std.specs.declared.ops.Bound.{Bound}
use Rattle.std.specs.declared.ops.Bound.TheVariants.{Included, Excluded, Unbounded}
use denote.Ref.{Bor}
use Rattle.std.specs.Ordering.{is_eq, is_lt, is_gt, nat_cmp, ordering_then}
use Rattle.std.specs.Cmp.{tied_itself, nat_cmp_total}
use Rattle.std.specs.List.Sorted.{IsStrictlySortedBy}
use Rattle.std.specs.Map.{lookup, remove_entry, keys_of}
use Rattle.std.specs.BTreeMap.{insert_entry}
use Rattle.std.proofs.lemmas.Map.Lookups.{CmpEqualImpliesEq, exact_unsigned}
use Rattle.ad_tree.specs.Ad.{Attributes, AreDistinct}
use Rattle.ordered_map.specs.Trees.{is_past}
use Rattle.ordered_map.proofs.Maps.{lookup-insert_entry, lookup-removed}
use Rattle.ordered_map.proofs.Firsts.{none_found_past, found_is_first}
use Rattle.ordered_map.proofs.Splits.{greater_from_less}
use Rattle.queue_tx.specs.declared.asked.Asked.{Asked}
use Rattle.queue_tx.specs.declared.kept.Here.{Here}
use Rattle.queue_tx.specs.declared.key.Key.{Key}
use Rattle.queue_tx.specs.declared.key.Key.TheVariants.{Header, Proc}
use Rattle.queue_tx.specs.declared.kind.JobKind.TheVariants.{Idle}
use Rattle.queue_tx.specs.Asked.{asked_cmp, asked_cmp_total, same_place, place, IdleNamesDiffer, asked_under, is_place, has_place, SetsPlaces, ArePlaces, DoIdleNamesDiffer, IsListed, least_from, is_past_from, IsAskedBy}
use Rattle.queue_tx.specs.Keys.{key_cmp, same_key}
use Rattle.queue_tx.specs.Jobs.{kind_under, IsJobOf, IsFirstKey, FirstKey}
use Rattle.queue_tx.specs.Kept.{is_kind}
use Rattle.queue_tx.specs.Queues.{KeyedAds, IsQueue, ad_at, with_ad}
use Rattle.queue_tx.specs.RequestDigests.{request_digest}
use Rattle.queue_tx.specs.Requests.{SameRequest, IsIdleAsking}
use Rattle.queue_tx.proofs.KeptJobs.{kind_from}
use Rattle.queue_tx.proofs.Queues.{exact_keys, found_with, then_equal}
use Rattle.queue_tx.proofs.RequestDigests.{same_requests_have_one_digest}
use Rattle.queue_tx.proofs.Transactions.{same_keys}

-- ---- places that the order finds equal are equal

pub exact_places : CmpEqualImpliesEq asked_cmp
exact_places a b h =
    let parts = then_equal (nat_cmp a.digest b.digest) (key_cmp a.key b.key) h in
    let digests = exact_unsigned a.digest b.digest parts.0 in
    let keys = exact_keys a.key b.key parts.1 in
    λ i. record { digest = digests i; key = keys i }

equal_from : (r : Ordering) → is_eq r ≡ true → r ≡ Equal
equal_from Less h = cc
equal_from Equal h = refl
equal_from Greater h = cc

place_itself : (a : Asked) → same_place a a ≡ true
place_itself a = ap is_eq (tied_itself asked_cmp_total a)

-- ---- one place given up, or taken

pub given_up : (k : Asked) (es new : List (Asked × Here)) → IsStrictlySortedBy asked_cmp (keys_of es) → new ≡ remove_entry (same_place k) es → SetsPlaces (Some k) None es new
given_up k es new s h p =
    ap (has_place p) h ∙ ap is_some (lookup-removed asked_cmp_total p k es s) ∙ by (same_place k p)
  where
    by : (b : Bool) → is_some (cond b None (lookup (same_place p) es)) ≡ cond b false (is_some (lookup (same_place p) es))
    by true = refl
    by false = refl

pub taken : (k : Asked) (v : Here) (es new : List (Asked × Here)) → new ≡ insert_entry asked_cmp es k v → SetsPlaces None (Some k) es new
taken k v es new h p =
    ap (has_place p) h ∙ ap is_some (lookup-insert_entry asked_cmp_total p k v es) ∙ by (same_place k p)
  where
    by : (b : Bool) → is_some (cond b (Some v) (lookup (same_place p) es)) ≡ cond b true (is_some (lookup (same_place p) es))
    by true = refl
    by false = refl

pub replaced : (lost come : Option Asked) (es mid new : List (Asked × Here)) → SetsPlaces lost None es mid → SetsPlaces None come mid new → SetsPlaces lost come es new
replaced lost come es mid new g c p = c p ∙ ap (cond (is_place come p) true) (g p)

-- ---- the places of a queue

tail_differs : (r s : Ordering) → is_eq s ≡ false → is_eq (ordering_then r s) ≡ false
tail_differs Less s h = refl
tail_differs Equal s h = h
tail_differs Greater s h = refl

-- what stands under another key has another place
elsewhere : (key : Key) (o : Option Attributes) (a : Asked) → same_key key a.key ≡ false → is_place (asked_under key o) a ≡ false
elsewhere key None a apart = refl
elsewhere key (Some ad) a apart = by (is_kind Idle (kind_under key (Some ad)))
  where
    by : (b : Bool) → is_place (cond b (Some (place (request_digest ad) key)) None) a ≡ false
    by true = tail_differs (nat_cmp (request_digest ad) a.digest) (key_cmp key a.key) apart
    by false = refl

module _ (q r : KeyedAds) (key : Key) (ad : Option Attributes) (s : IsQueue q) (changed : r ≡ with_ad key ad q) where
  found : (p : Key) → ad_at p r ≡ cond (same_key key p) ad (ad_at p q)
  found p = ap (ad_at p) changed ∙ found_with p key ad q s

  pub places_with : (old new : List (Asked × Here)) (lost come : Option Asked) → ArePlaces old q → lost ≡ asked_under key (ad_at key q) → come ≡ asked_under key ad → SetsPlaces lost come old new → ArePlaces new r
  places_with old new lost come are was is sets a =
      sets a ∙ by (same_key key a.key) refl ∙ ap (λ o. is_place (asked_under a.key o) a) (sym (found a.key))
    where
      replaces : (c g : Bool) → cond c true (cond g false g) ≡ c
      replaces true g = refl
      replaces false true = refl
      replaces false false = refl

      by : (b : Bool) → same_key key a.key ≡ b → cond (is_place come a) true (cond (is_place lost a) false (has_place a old)) ≡ is_place (asked_under a.key (cond b ad (ad_at a.key q))) a
      by true same =
          let keys = same_keys key a.key same in
          let before : has_place a old ≡ is_place lost a = are a ∙ ap (λ k. is_place (asked_under k (ad_at k q)) a) (sym keys) ∙ ap (λ o. is_place o a) (sym was) in
          ap (λ h. cond (is_place come a) true (cond (is_place lost a) false h)) before
          ∙ replaces (is_place come a) (is_place lost a)
          ∙ ap (λ o. is_place o a) is
          ∙ ap (λ k. is_place (asked_under k ad) a) keys
      by false apart =
          let not_come : is_place come a ≡ false = ap (λ o. is_place o a) is ∙ elsewhere key ad a apart in
          let not_lost : is_place lost a ≡ false = ap (λ o. is_place o a) was ∙ elsewhere key (ad_at key q) a apart in
          ap (λ b. cond b true (cond (is_place lost a) false (has_place a old))) not_come
          ∙ ap (λ b. cond b false (has_place a old)) not_lost
          ∙ are a

  pub names_with : DoIdleNamesDiffer q → IfSome ad (λ a. IdleNamesDiffer key a) → DoIdleNamesDiffer r
  names_with differ new p = subst (λ o. IfSome o (λ a. IdleNamesDiffer p a)) (sym (found p)) (by (same_key key p) refl)
    where
      by : (b : Bool) → same_key key p ≡ b → IfSome (cond b ad (ad_at p q)) (λ a. IdleNamesDiffer p a)
      by true same = subst (λ k. IfSome ad (λ a. IdleNamesDiffer k a)) (same_keys key p same) new
      by false apart = differ p

pub no_places : (places : List (Asked × Here)) (q : KeyedAds) → places ≡ [] → q ≡ [] → ArePlaces places q
no_places places q none empty a =
    ap (has_place a) none ∙ sym (ap (λ q. is_place (asked_under a.key (ad_at a.key q)) a) empty)

pub no_names : (q : KeyedAds) → q ≡ [] → DoIdleNamesDiffer q
no_names q empty key = subst (λ q. IfSome (ad_at key q) (λ a. IdleNamesDiffer key a)) (sym empty) tt

-- ---- bounds among the places of a digest

same_digest : (d : ℕ) (k l : Key) → asked_cmp (place d k) (place d l) ≡ key_cmp k l
same_digest d k l = ap (λ r. ordering_then r (key_cmp k l)) (tied_itself nat_cmp_total d)

header_first : (k : Key) → not (is_gt (key_cmp Header k)) ≡ true
header_first Header = refl
header_first (Proc job) = refl

past_in_digest : (start : Bound (Bor Key)) (d : ℕ) (k : Key) → is_past_from start (least_from d start) (place d k) ≡ is_past key_cmp start k
past_in_digest (Included key) d k = ap (λ (r : Ordering). not (is_gt r)) (same_digest d key.now k)
past_in_digest (Excluded key) d k = ap is_lt (same_digest d key.now k)
past_in_digest Unbounded d k = ap (λ (r : Ordering). not (is_gt r)) (same_digest d Header k) ∙ header_first k

-- a place of a smaller digest is before them
smaller_before : (start : Bound (Bor Key)) (d : ℕ) (a : Asked) → nat_cmp d a.digest ≡ Greater → is_past_from start (least_from d start) a ≡ false
smaller_before (Included key) d a h = ap (λ (r : Ordering). not (is_gt (ordering_then r (key_cmp key.now a.key)))) h
smaller_before (Excluded key) d a h = ap (λ (r : Ordering). is_lt (ordering_then r (key_cmp key.now a.key))) h
smaller_before Unbounded d a h = ap (λ (r : Ordering). not (is_gt (ordering_then r (key_cmp Header a.key)))) h

-- ---- the first of a digest

module _ (start : Bound (Bor Key)) (d : ℕ) (bound : Bound (Bor Asked)) (es : List (Asked × Here)) (same : (a : Asked) → is_past asked_cmp bound a ≡ is_past_from start (least_from d start) a) where
  past_same : (k : Key) → is_past asked_cmp bound (place d k) ≡ is_past key_cmp start k
  past_same k = same (place d k) ∙ past_in_digest start d k

  pub none_listed : None ≡ find (λ e. is_past asked_cmp bound e.0) es → (k : Key) → IsListed d es k → is_past key_cmp start k ≡ false
  none_listed h k listed = sym (past_same k) ∙ none_found_past asked_cmp_total bound es (place d k) (sym h) listed

  module _ (f : Asked × Here) (s : IsStrictlySortedBy asked_cmp (keys_of es)) (h : Some f ≡ find (λ e. is_past asked_cmp bound e.0) es) where
    pub first_listed : f.0.digest ≡ d → IsFirstKey (IsListed d es) start f.0.key
    first_listed is =
        let r = found_is_first asked_cmp_total bound es f s (sym h) in
        let it : f.0 ≡ place d f.0.key = λ i. record { digest = is i; key = f.0.key } in
        record {
          meant = ap (λ a. has_place a es) (sym it) ∙ ap is_some r.there;
          past = sym (past_same f.0.key) ∙ ap (is_past asked_cmp bound) (sym it) ∙ r.past;
          first = λ k listed past. ap is_gt (sym (ap (λ a. asked_cmp a (place d k)) it ∙ same_digest d f.0.key k)) ∙ r.first (place d k) listed (past_same k ∙ past);
        }

    pub another_digest : (f.0.digest ≡ d → ⊥) → (k : Key) → IsListed d es k → is_past key_cmp start k ≡ false
    another_digest differs k listed = by (is_past key_cmp start k) refl
      where
        is_past_bound : is_past asked_cmp bound f.0 ≡ true
        is_past_bound = let r = found_is_first asked_cmp_total bound es f s (sym h) in r.past

        not_after : is_past key_cmp start k ≡ true → is_gt (asked_cmp f.0 (place d k)) ≡ false
        not_after past = let r = found_is_first asked_cmp_total bound es f s (sym h) in r.first (place d k) listed (past_same k ∙ past)

        from_digests : (o : Ordering) → nat_cmp f.0.digest d ≡ o → is_gt (ordering_then o (key_cmp f.0.key k)) ≡ false → ⊥
        from_digests Less e g = true≢false (sym is_past_bound ∙ same f.0 ∙ smaller_before start d f.0 (greater_from_less nat_cmp_total f.0.digest d e))
        from_digests Equal e g = differs (exact_unsigned f.0.digest d e)
        from_digests Greater e g = true≢false g

        by : (b : Bool) → is_past key_cmp start k ≡ b → is_past key_cmp start k ≡ false
        by false e = e
        by true e = absurd (from_digests (nat_cmp f.0.digest d) refl (not_after e))

-- ---- a job that is listed is an idle one of that digest

listed_from : (o : Option Asked) (a : Asked) → is_place o a ≡ true → o ≡ Some a
listed_from None a h = cc
listed_from (Some b) a h = ap Some (exact_places b a (equal_from (asked_cmp b a) h))

pub asked_by : (q : KeyedAds) (es : List (Asked × Here)) (d : ℕ) → ArePlaces es q → (k : Key) → IsListed d es k → IsAskedBy d q k
asked_by q es d are k listed = listed_from (asked_under k (ad_at k q)) (place d k) (sym (are (place d k)) ∙ listed)

pub listed_by : (q : KeyedAds) (es : List (Asked × Here)) (d : ℕ) → ArePlaces es q → (k : Key) → IsAskedBy d q k → IsListed d es k
listed_by q es d are k asked = are (place d k) ∙ ap (λ o. is_place o (place d k)) asked ∙ place_itself (place d k)

pub first_along : (P Q : Key → Type 0) → ((k : Key) → P k → Q k) → ((k : Key) → Q k → P k) → (start : Bound (Bor Key)) (o : Option Key) → FirstKey P start o → FirstKey Q start o
first_along P Q there back start None none = λ k meant. none k (back k meant)
first_along P Q there back start (Some key) f = record { meant = there key f.meant; past = f.past; first = λ k meant past. f.first k (back k meant) past }

pub idle_from_asked : (q : KeyedAds) (d : ℕ) (k : Key) → IsAskedBy d q k → IsJobOf Idle q k
idle_from_asked q d k h = by (ad_at k q) h
  where
    of : (ad : Attributes) (b : Bool) → is_kind Idle (kind_under k (Some ad)) ≡ b → cond b (Some (place (request_digest ad) k)) None ≡ Some (place d k) → kind_under k (Some ad) ≡ Some Idle
    of ad true is h = kind_from Idle (kind_under k (Some ad)) is
    of ad false is h = cc

    by : (o : Option Attributes) → asked_under k o ≡ Some (place d k) → kind_under k o ≡ Some Idle
    by None h = cc
    by (Some ad) h = of ad (is_kind Idle (kind_under k (Some ad))) refl h

-- an idle job that makes the same request has the same digest
pub asking_is_asked : (ad : Attributes) (q : KeyedAds) (d : ℕ) → AreDistinct ad → DoIdleNamesDiffer q → d ≡ request_digest ad → (k : Key) → IsIdleAsking ad q k → IsAskedBy d q k
asking_is_asked ad q d distinct differ is k meant = by (ad_at k q) meant.0 meant.1 (differ k)
  where
    by : (o : Option Attributes) → kind_under k o ≡ Some Idle → IsSomeAnd o (λ other. SameRequest ad other) → IfSome o (λ a. IdleNamesDiffer k a) → asked_under k o ≡ Some (place d k)
    by None idle same names = absurd same
    by (Some other) idle same names =
        let kind = ap (is_kind Idle) idle in
        ap (λ b. cond b (Some (place (request_digest other) k)) None) kind
        ∙ ap (λ n. Some (place n k)) (sym (is ∙ same_requests_have_one_digest ad other distinct (names kind) same))
