-- The first idle job that makes a request, one idle job after the other.
use Rattle.std.proofs.Common.{◌≡◌, ◌⊎◌, inl, inr, ℕ, ◌+◌, ◌<◌, ◌≤◌, Bool, true, false, cond, [], ◌∷◌, Option, Some, None, is_some, refl, ap, sym, ◌∙◌, subst, arith}
use Rattle.std.specs.Prelude.{IsSomeAnd}
use Rattle.std.specs.declared.cmp.Ordering.{Ordering}
use Rattle.std.specs.declared.cmp.Ordering.TheVariants.{Less, Equal, Greater}
use Rattle.std.specs.declared.ops.Bound.{Bound}
use Rattle.std.specs.declared.ops.Bound.TheVariants.{Excluded}
use denote.Ref.{Bor}
use Rattle.std.specs.Ordering.{is_lt, is_gt}
use Rattle.std.specs.Cmp.{tied_itself}
use Rattle.ad_tree.specs.Ad.{Attributes}
use Rattle.ordered_map.specs.Trees.{is_past}
use Rattle.ordered_map.proofs.Orders.{not_past_below}
use Rattle.queue_tx.specs.declared.key.Key.{Key}
use Rattle.queue_tx.specs.declared.key.Key.TheVariants.{Header, Proc}
use Rattle.queue_tx.specs.declared.kind.JobKind.{JobKind}
use Rattle.queue_tx.specs.declared.kind.JobKind.TheVariants.{Idle}
use Rattle.queue_tx.specs.Keys.{key_cmp, key_cmp_total, same_key}
use Rattle.queue_tx.specs.Jobs.{kind_under, IsJobOf, IsFirstKey}
use Rattle.queue_tx.specs.Queues.{KeyedAds, ad_at}
use Rattle.queue_tx.specs.Requests.{SameRequest, IsIdleAsking}
use Rattle.queue_tx.specs.Asked.{IsAskedBy}
use Rattle.queue_tx.proofs.AskedJobs.{idle_from_asked}
use Rattle.queue_tx.proofs.Queues.{exact_keys}
use Rattle.queue_tx.proofs.Transactions.{same_keys}

-- ---- how many keys are above a key

abbrev pub above_count : Key → KeyedAds → ℕ
above_count k [] = 0
above_count k (e ∷ q) = cond (is_lt (key_cmp k e.0)) (1 + above_count k q) (above_count k q)

less_from : (r : Ordering) → is_lt r ≡ true → r ≡ Less
less_from Less h = refl
less_from Equal h = cc
less_from Greater h = cc

above_both : (k n x : Key) → is_lt (key_cmp k n) ≡ true → is_lt (key_cmp n x) ≡ true → is_lt (key_cmp k x) ≡ true
above_both k n x h g = ap is_lt (key_cmp_total.trans k n x (less_from (key_cmp k n) h) (less_from (key_cmp n x) g))

fewer_or_same : (k n : Key) (q : KeyedAds) → is_lt (key_cmp k n) ≡ true → above_count n q ≤ above_count k q
fewer_or_same k n [] above = omega arith
fewer_or_same k n (e ∷ q) above = by (is_lt (key_cmp n e.0)) refl (is_lt (key_cmp k e.0)) refl (fewer_or_same k n q above)
  where
    by : (b : Bool) → is_lt (key_cmp n e.0) ≡ b → (c : Bool) → is_lt (key_cmp k e.0) ≡ c → above_count n q ≤ above_count k q
        → cond b (1 + above_count n q) (above_count n q) ≤ cond c (1 + above_count k q) (above_count k q)
    by true e1 true e2 h = omega arith
    by true e1 false e2 h = let clash = sym (above_both k n e.0 above e1) ∙ e2 in cc
    by false e1 true e2 h = omega arith
    by false e1 false e2 h = h

pub fewer : (k n : Key) (q : KeyedAds) → is_lt (key_cmp k n) ≡ true → is_some (ad_at n q) ≡ true → above_count n q < above_count k q
fewer k n [] above there = cc
fewer k n (e ∷ q) above there = by (same_key n e.0) refl there (fewer k n q above)
  where
    at_itself : same_key n e.0 ≡ true → (is_lt (key_cmp n e.0) ≡ false) × (is_lt (key_cmp k e.0) ≡ true)
    at_itself h =
        let same = same_keys n e.0 h in
        (ap is_lt (subst (λ x. key_cmp n x ≡ Equal) same (tied_itself key_cmp_total n)), subst (λ x. is_lt (key_cmp k x) ≡ true) same above)

    rest_of : above_count n q < above_count k q → (b : Bool) → is_lt (key_cmp n e.0) ≡ b → (c : Bool) → is_lt (key_cmp k e.0) ≡ c
        → cond b (1 + above_count n q) (above_count n q) < cond c (1 + above_count k q) (above_count k q)
    rest_of h true e1 true e2 = omega arith
    rest_of h true e1 false e2 = let clash = sym (above_both k n e.0 above e1) ∙ e2 in cc
    rest_of h false e1 true e2 = omega arith
    rest_of h false e1 false e2 = h

    here : (is_lt (key_cmp n e.0) ≡ false) × (is_lt (key_cmp k e.0) ≡ true) → above_count n q ≤ above_count k q
        → cond (is_lt (key_cmp n e.0)) (1 + above_count n q) (above_count n q) < cond (is_lt (key_cmp k e.0)) (1 + above_count k q) (above_count k q)
    here h le = rw (h.0, h.1) (omega arith)

    by : (b : Bool) → same_key n e.0 ≡ b → is_some (cond b (Some e.1) (ad_at n q)) ≡ true → (is_some (ad_at n q) ≡ true → above_count n q < above_count k q)
        → above_count n (e ∷ q) < above_count k (e ∷ q)
    by true h there rest = here (at_itself h) (fewer_or_same k n q above)
    by false h there rest = rest_of (rest there) (is_lt (key_cmp n e.0)) refl (is_lt (key_cmp k e.0)) refl

pub job_is_there : (kind : JobKind) (q : KeyedAds) (key : Key) → IsJobOf kind q key → is_some (ad_at key q) ≡ true
job_is_there kind q key h = by key (ad_at key q) h
  where
    by : (p : Key) (o : Option Attributes) → kind_under p o ≡ Some kind → is_some o ≡ true
    by Header o h = cc
    by (Proc job) None h = cc
    by (Proc job) (Some ad) h = refl

-- ---- from one idle job of a digest to the next

after_or_equal : (r : Ordering) → is_gt r ≡ false → (r ≡ Less) ⊎ (r ≡ Equal)
after_or_equal Less h = inl refl
after_or_equal Equal h = inr refl
after_or_equal Greater h = cc

-- an idle job of the digest past the bound, before which none that is past it asks for the same
pub record IsReached (ad : Attributes) (q : KeyedAds) (d : ℕ) (start : Bound (Bor Key)) (key : Key) : Type 0 where
  pub listed : IsAskedBy d q key
  pub past : is_past key_cmp start key ≡ true
  pub first : (other : Key) → IsIdleAsking ad q other → is_past key_cmp start other ≡ true → is_gt (key_cmp key other) ≡ false

module _ (ad : Attributes) (q : KeyedAds) (d : ℕ) (start : Bound (Bor Key)) where
  pub asks : (key : Key) → IsReached ad q d start key → IsSomeAnd (ad_at key q) (λ other. SameRequest ad other) → IsFirstKey (IsIdleAsking ad q) start key
  asks key r same = record { meant = (idle_from_asked q d key r.listed, same); past = r.past; first = r.first }

  module _ (all : (key : Key) → IsIdleAsking ad q key → IsAskedBy d q key) where
    pub reached_first : (key : Key) → IsFirstKey (IsAskedBy d q) start key → IsReached ad q d start key
    reached_first key f = record { listed = f.meant; past = f.past; first = λ other meant past. f.first other (all other meant) past }

    pub none_asks : ((key : Key) → IsAskedBy d q key → is_past key_cmp start key ≡ false) → (key : Key) → IsIdleAsking ad q key → is_past key_cmp start key ≡ false
    none_asks none key meant = none key (all key meant)

    module _ (k : Key) (r : IsReached ad q d start k) (differs : IsSomeAnd (ad_at k q) (λ other. SameRequest ad other) → ⊥) where
      -- one that asks for the same is behind one that doesn't
      behind : (other : Key) → IsIdleAsking ad q other → is_past key_cmp start other ≡ true → is_lt (key_cmp k other) ≡ true
      behind other meant past = by (after_or_equal (key_cmp k other) (r.first other meant past))
        where
          by : (key_cmp k other ≡ Less) ⊎ (key_cmp k other ≡ Equal) → is_lt (key_cmp k other) ≡ true
          by (inl h) = ap is_lt h
          by (inr h) = absurd (differs (subst (λ x. IsSomeAnd (ad_at x q) (λ o. SameRequest ad o)) (sym (exact_keys k other h)) meant.1))

      pub reached_next : (b : Bor Key) (n : Key) → b.now ≡ k → IsFirstKey (IsAskedBy d q) (Excluded b) n → IsReached ad q d start n
      reached_next b n same f =
          let above : is_lt (key_cmp k n) ≡ true = ap (λ x. is_lt (key_cmp x n)) (sym same) ∙ f.past in
          record {
            listed = f.meant;
            past = by (is_past key_cmp start n) refl above;
            first = λ other meant past. f.first other (all other meant) (ap (λ x. is_lt (key_cmp x other)) same ∙ behind other meant past);
          }
        where
          by : (c : Bool) → is_past key_cmp start n ≡ c → is_lt (key_cmp k n) ≡ true → is_past key_cmp start n ≡ true
          by true e above = e
          by false e above = let clash = sym r.past ∙ not_past_below key_cmp_total start k n (less_from (key_cmp k n) above) e in cc

      pub none_left : (b : Bor Key) → b.now ≡ k → ((key : Key) → IsAskedBy d q key → is_past key_cmp (Excluded b) key ≡ false)
          → (key : Key) → IsIdleAsking ad q key → is_past key_cmp start key ≡ false
      none_left b same none key meant = by (is_past key_cmp start key) refl
        where
          by : (c : Bool) → is_past key_cmp start key ≡ c → is_past key_cmp start key ≡ false
          by false e = e
          by true e = let clash = sym (ap (λ x. is_lt (key_cmp x key)) same ∙ behind key meant e) ∙ none key (all key meant) in cc

pub asked_is_there : (d : ℕ) (q : KeyedAds) (key : Key) → IsAskedBy d q key → is_some (ad_at key q) ≡ true
asked_is_there d q key h = job_is_there Idle q key (idle_from_asked q d key h)
