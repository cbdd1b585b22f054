-- The first job with a periodic expression that was not looked at, one job after the other.
use Rattle.std.proofs.Common.{◌≡◌, ◌⊎◌, inl, inr, ℕ, Bool, true, false, List, refl, ap, sym, ◌∙◌}
use Rattle.std.specs.declared.cmp.Ordering.{Ordering}
use Rattle.std.specs.declared.cmp.Ordering.TheVariants.{Less, Equal, Greater}
use Rattle.std.specs.declared.ops.Bound.{Bound}
use Rattle.std.specs.declared.ops.Bound.TheVariants.{Excluded}
use denote.Ref.{Bor}
use Rattle.std.specs.Ordering.{is_lt, is_gt}
use Rattle.ordered_map.specs.Trees.{is_past}
use Rattle.ordered_map.proofs.Orders.{not_past_below}
use Rattle.queue_tx.specs.declared.key.Key.{Key}
use Rattle.queue_tx.specs.Keys.{key_cmp, key_cmp_total}
use Rattle.queue_tx.specs.Jobs.{IsFirstKey}
use Rattle.queue_tx.specs.Periodic.{IsPeriodic}
use Rattle.queue_tx.specs.Queues.{KeyedAds}
use Rattle.queue_tx.proofs.Queues.{exact_keys}
use Rattle.schedd_state.specs.DueChecks.{was_checked, IsFresh}
use Rattle.schedd_state.proofs.Free.{after_or_equal}

pub less_from : (r : Ordering) → is_lt r ≡ true → r ≡ Less
less_from Less h = refl
less_from Equal h = cc
less_from Greater h = cc

-- a job with a periodic expression past the bound, before which all were looked at
pub record IsNotAfter (looks : List (Key × ℕ)) (q : KeyedAds) (start : Bound (Bor Key)) (key : Key) : Type 0 where
  pub periodic : IsPeriodic q key
  pub past : is_past key_cmp start key ≡ true
  pub first : (other : Key) → IsFresh q looks other → is_past key_cmp start other ≡ true → is_gt (key_cmp key other) ≡ false

module _ (looks : List (Key × ℕ)) (q : KeyedAds) (start : Bound (Bor Key)) where
  pub reached_first : (key : Key) → IsFirstKey (IsPeriodic q) start key → IsNotAfter looks q start key
  reached_first key f = record { periodic = f.meant; past = f.past; first = λ other fresh past. f.first other fresh.0 past }

  pub is_fresh : (key : Key) → IsNotAfter looks q start key → was_checked looks key ≡ false → IsFirstKey (IsFresh q looks) start key
  is_fresh key r fresh = record { meant = (r.periodic, fresh); past = r.past; first = r.first }

  module _ (k : Key) (r : IsNotAfter looks q start k) (checked : was_checked looks k ≡ true) where
    -- one that was not looked at is behind one that was
    behind : (other : Key) → IsFresh q looks other → is_past key_cmp start other ≡ true → is_lt (key_cmp k other) ≡ true
    behind other fresh past = by (after_or_equal (key_cmp k other) (r.first other fresh past))
      where
        by : (key_cmp k other ≡ Less) ⊎ (key_cmp k other ≡ Equal) → is_lt (key_cmp k other) ≡ true
        by (inl h) = ap is_lt h
        by (inr h) = let clash : true ≡ false = sym checked ∙ (ap (was_checked looks) (exact_keys k other h) ∙ fresh.1) in cc

    pub reached_next : (b : Bor Key) (n : Key) → b.now ≡ k → IsFirstKey (IsPeriodic q) (Excluded b) n → IsNotAfter looks q start n
    reached_next b n same f =
        let above : is_lt (key_cmp k n) ≡ true = ap (λ x. is_lt (key_cmp x n)) (sym same) ∙ f.past in
        record {
          periodic = f.meant;
          past = by (is_past key_cmp start n) refl above;
          first = λ other fresh past. f.first other fresh.0 (ap (λ x. is_lt (key_cmp x other)) same ∙ behind other fresh past);
        }
      where
        by : (c : Bool) → is_past key_cmp start n ≡ c → is_lt (key_cmp k n) ≡ true → is_past key_cmp start n ≡ true
        by true e above = e
        by false e above = let clash = sym r.past ∙ not_past_below key_cmp_total start k n (less_from (key_cmp k n) above) e in cc

    pub none_left : (b : Bor Key) → b.now ≡ k → ((key : Key) → IsPeriodic q key → is_past key_cmp (Excluded b) key ≡ false)
        → (key : Key) → IsFresh q looks key → is_past key_cmp start key ≡ false
    none_left b same none key fresh = by (is_past key_cmp start key) refl
      where
        by : (c : Bool) → is_past key_cmp start key ≡ c → is_past key_cmp start key ≡ false
        by false e = e
        by true e = let clash = sym (ap (λ x. is_lt (key_cmp x key)) same ∙ behind key fresh e) ∙ none key fresh.0 in cc
