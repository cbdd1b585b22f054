-- The first idle job that makes a request and that no claim engages, one such job after the other.
use Rattle.std.proofs.Common.{◌≡◌, ◌⊎◌, inl, inr, true, false, List, refl, ap, sym, ◌∙◌}
use Rattle.std.specs.declared.cmp.Ordering.{Ordering}
use Rattle.std.specs.declared.cmp.Ordering.TheVariants.{Less, Equal, Greater}
use Rattle.std.specs.declared.ops.Bound.TheVariants.{Excluded, Unbounded}
use denote.Ref.{Bor}
use Rattle.std.specs.Ordering.{is_lt, is_gt}
use Rattle.ad_tree.specs.Ad.{Attributes}
use Rattle.ordered_map.specs.Trees.{is_past}
use Rattle.queue_tx.specs.declared.key.Key.{Key}
use Rattle.queue_tx.specs.Keys.{key_cmp}
use Rattle.queue_tx.specs.Jobs.{IsFirstKey}
use Rattle.queue_tx.specs.Queues.{KeyedAds}
use Rattle.queue_tx.specs.Requests.{IsIdleAsking}
use Rattle.queue_tx.proofs.Queues.{exact_keys}
use Rattle.schedd_plan.specs.declared.claims.KeptClaim.{KeptClaim}
use Rattle.schedd_state.specs.Searches.{is_engaged_key, IsFree}

pub after_or_equal : (r : Ordering) → is_gt r ≡ false → (r ≡ Less) ⊎ (r ≡ Equal)
after_or_equal Less h = inl refl
after_or_equal Equal h = inr refl
after_or_equal Greater h = cc

-- a job that makes the request, before which none is free
pub record IsReached (claims : List KeptClaim) (ad : Attributes) (q : KeyedAds) (key : Key)
    : Type 0 where
  pub asking : IsIdleAsking ad q key
  pub first : (other : Key) → IsFree claims ad q other → is_gt (key_cmp key other) ≡ false

module _ (claims : List KeptClaim) (ad : Attributes) (q : KeyedAds) where
  pub reached_first : (key : Key) → IsFirstKey (IsIdleAsking ad q) Unbounded key
      → IsReached claims ad q key
  reached_first key f =
      record { asking = f.meant; first = λ other free. f.first other free.0 refl }

  pub is_free : (key : Key) → IsReached claims ad q key → is_engaged_key claims key ≡ false
      → IsFirstKey (IsFree claims ad q) Unbounded key
  is_free key r free = record {
    meant = (r.asking, free);
    past = refl;
    first = λ other meant past. r.first other meant;
  }

  module _ (k : Key) (r : IsReached claims ad q k) (engaged : is_engaged_key claims k ≡ true) where
    -- a free one is behind one that isn't
    behind : (other : Key) → IsFree claims ad q other → is_lt (key_cmp k other) ≡ true
    behind other free = by (after_or_equal (key_cmp k other) (r.first other free))
      where
        by : (key_cmp k other ≡ Less) ⊎ (key_cmp k other ≡ Equal) → is_lt (key_cmp k other) ≡ true
        by (inl h) = ap is_lt h
        by (inr h) =
            let same : k ≡ other = exact_keys k other h in
            let clash : true ≡ false = sym engaged ∙ (ap (is_engaged_key claims) same ∙ free.1) in
            cc

    pub reached_next : (b : Bor Key) (n : Key) → b.now ≡ k
        → IsFirstKey (IsIdleAsking ad q) (Excluded b) n → IsReached claims ad q n
    reached_next b n same f = record {
      asking = f.meant;
      first = λ other free. f.first other free.0
          (ap (λ x. is_lt (key_cmp x other)) same ∙ behind other free);
    }

    pub none_left : (b : Bor Key) → b.now ≡ k
        → ((key : Key) → IsIdleAsking ad q key → is_past key_cmp (Excluded b) key ≡ false)
        → (key : Key) → IsFree claims ad q key → is_past key_cmp Unbounded key ≡ false
    none_left b same none key free =
        let clash : true ≡ false =
        sym (ap (λ x. is_lt (key_cmp x key)) same ∙ behind key free) ∙ none key free.0 in
        clash
