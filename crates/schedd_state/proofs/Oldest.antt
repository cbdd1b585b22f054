-- Of the jobs with a periodic expression the one that was looked at the longest ago.
use Rattle.std.proofs.Common.{◌≡◌, ◌⊎◌, inl, inr, ℕ, ◌+◌, ◌<◌, ◌≤◌, Bool, true, false, cond, List, [], ◌∷◌, Option, Some, None, is_some, refl, ap, sym, ◌∙◌, subst, arith}
use Rattle.std.specs.declared.cmp.Ordering.TheVariants.{Less, Equal}
use Rattle.std.specs.declared.ops.Bound.TheVariants.{Excluded, Unbounded}
use denote.Ref.{Bor}
use Rattle.std.specs.Ordering.{is_lt, is_gt}
use Rattle.std.specs.Cmp.{tied_itself}
use Rattle.std.specs.Map.{lookup}
use Rattle.ordered_map.specs.Trees.{is_past}
use Rattle.queue_tx.specs.declared.key.Key.{Key}
use Rattle.queue_tx.specs.Keys.{key_cmp, same_key}
use Rattle.queue_tx.specs.Periodic.{is_periodic, IsPeriodic}
use Rattle.queue_tx.specs.Queues.{KeyedAds, ad_at}
use Rattle.queue_tx.proofs.Transactions.{same_keys}
use Rattle.schedd_state.specs.declared.looks.Look.{Look}
use Rattle.schedd_state.specs.DueChecks.{checked_at, IsOldestPeriodic, OldestPeriodic}
use Rattle.schedd_state.specs.Looks.{look_cmp, look_cmp_total, IsLookOf, IsFirstLook}
use Rattle.schedd_state.proofs.Free.{after_or_equal}
use Rattle.schedd_state.proofs.Fresh.{less_from}
use Rattle.schedd_state.proofs.LooksKept.{exact_looks, at_most}

-- a look before which no job with a periodic expression was looked at
pub record IsNotLater (looks : List (Key × ℕ)) (q : KeyedAds) (look : Look) : Type 0 where
  pub is : IsLookOf looks look
  pub first : (other : Look) → IsLookOf looks other → IsPeriodic q other.key → is_gt (look_cmp look other) ≡ false

module _ (looks : List (Key × ℕ)) (q : KeyedAds) where
  pub look_first : (look : Look) → IsFirstLook looks Unbounded look → IsNotLater looks q look
  look_first look f = record { is = f.is; first = λ other is periodic. f.first other is refl }

  pub none_at_all : ((look : Look) → IsLookOf looks look → is_past look_cmp Unbounded look ≡ false) → OldestPeriodic q looks None
  none_at_all none key periodic = by (checked_at looks key) refl
    where
      by : (o : Option ℕ) → checked_at looks key ≡ o → is_some o ≡ false
      by None is = refl
      by (Some at) is = none (record { at = at; key = key }) is

  pub is_oldest : (look : Look) → IsNotLater looks q look → IsPeriodic q look.key → IsOldestPeriodic q looks (look.key, look.at)
  is_oldest look r periodic = record {
    periodic = periodic;
    at = r.is;
    first = λ key at other is. at_most look.at at (key_cmp look.key key) (r.first (record { at = at; key = key }) is other);
  }

  module _ (l : Look) (r : IsNotLater looks q l) (plain : is_periodic l.key (ad_at l.key q) ≡ false) where
    behind : (other : Look) → IsLookOf looks other → IsPeriodic q other.key → is_lt (look_cmp l other) ≡ true
    behind other is periodic = by (after_or_equal (look_cmp l other) (r.first other is periodic))
      where
        by : (look_cmp l other ≡ Less) ⊎ (look_cmp l other ≡ Equal) → is_lt (look_cmp l other) ≡ true
        by (inl h) = ap is_lt h
        by (inr h) = let clash : true ≡ false = sym periodic ∙ (ap (λ (x : Look). is_periodic x.key (ad_at x.key q)) (sym (exact_looks l other h)) ∙ plain) in cc

    pub look_next : (b : Bor Look) (n : Look) → b.now ≡ l → IsFirstLook looks (Excluded b) n → IsNotLater looks q n
    look_next b n same f = record {
      is = f.is;
      first = λ other is periodic. f.first other is (ap (λ x. is_lt (look_cmp x other)) same ∙ behind other is periodic);
    }

    pub none_later : ((look : Look) → IsLookOf looks look → is_lt (look_cmp l look) ≡ false) → OldestPeriodic q looks None
    none_later none key periodic = by (checked_at looks key) refl
      where
        by : (o : Option ℕ) → checked_at looks key ≡ o → is_some o ≡ false
        by None is = refl
        by (Some at) is =
            let other : Look = record { at = at; key = key } in
            sym (behind other is periodic) ∙ none other is

-- ---- how many looks are later
abbrev pub look_in : Key × ℕ → Look
look_in e = record { at = e.1; key = e.0 }

abbrev pub later_looks : Look → List (Key × ℕ) → ℕ
later_looks l [] = 0
later_looks l (e ∷ es) = cond (is_lt (look_cmp l (look_in e))) (1 + later_looks l es) (later_looks l es)

later_both : (k n x : Look) → is_lt (look_cmp k n) ≡ true → is_lt (look_cmp n x) ≡ true → is_lt (look_cmp k x) ≡ true
later_both k n x h g = ap is_lt (look_cmp_total.trans k n x (less_from (look_cmp k n) h) (less_from (look_cmp n x) g))

fewer_or_same : (k n : Look) (es : List (Key × ℕ)) → is_lt (look_cmp k n) ≡ true → later_looks n es ≤ later_looks k es
fewer_or_same k n [] later = omega arith
fewer_or_same k n (e ∷ es) later = by (is_lt (look_cmp n (look_in e))) refl (is_lt (look_cmp k (look_in e))) refl (fewer_or_same k n es later)
  where
    by : (b : Bool) → is_lt (look_cmp n (look_in e)) ≡ b → (c : Bool) → is_lt (look_cmp k (look_in e)) ≡ c → later_looks n es ≤ later_looks k es
        → cond b (1 + later_looks n es) (later_looks n es) ≤ cond c (1 + later_looks k es) (later_looks k es)
    by true e1 true e2 h = omega arith
    by true e1 false e2 h = let clash = sym (later_both k n (look_in e) later e1) ∙ e2 in cc
    by false e1 true e2 h = omega arith
    by false e1 false e2 h = h

pub fewer_later : (k n : Look) (es : List (Key × ℕ)) → is_lt (look_cmp k n) ≡ true → IsLookOf es n → later_looks n es < later_looks k es
fewer_later k n [] later there = cc
fewer_later k n (e ∷ es) later there = by (same_key n.key e.0) refl there (fewer_later k n es later)
  where
    -- the look at the head of the list
    at_itself : same_key n.key e.0 ≡ true → Some e.1 ≡ Some n.at → n ≡ look_in e
    at_itself h at =
        let times : n.at ≡ e.1 = cc in
        let keys = same_keys n.key e.0 h in
        λ i. record { at = times i; key = keys i }

    counts : (b : Bool) → b ≡ false → (c : Bool) → c ≡ true → later_looks n es ≤ later_looks k es → cond b (1 + later_looks n es) (later_looks n es) < cond c (1 + later_looks k es) (later_looks k es)
    counts false e1 true e2 h = omega arith
    counts true e1 c e2 h = cc
    counts false e1 false e2 h = cc

    here : n ≡ look_in e → later_looks n es ≤ later_looks k es → cond (is_lt (look_cmp n (look_in e))) (1 + later_looks n es) (later_looks n es) < cond (is_lt (look_cmp k (look_in e))) (1 + later_looks k es) (later_looks k es)
    here same h =
        let not_it : is_lt (look_cmp n (look_in e)) ≡ false = ap is_lt (subst (λ x. look_cmp n x ≡ Equal) same (tied_itself look_cmp_total n)) in
        let later_than : is_lt (look_cmp k (look_in e)) ≡ true = subst (λ x. is_lt (look_cmp k x) ≡ true) same later in
        counts (is_lt (look_cmp n (look_in e))) not_it (is_lt (look_cmp k (look_in e))) later_than h

    elsewhere : (b : Bool) → is_lt (look_cmp n (look_in e)) ≡ b → (c : Bool) → is_lt (look_cmp k (look_in e)) ≡ c → later_looks n es < later_looks k es
        → cond b (1 + later_looks n es) (later_looks n es) < cond c (1 + later_looks k es) (later_looks k es)
    elsewhere true e1 true e2 h = omega arith
    elsewhere true e1 false e2 h = let clash = sym (later_both k n (look_in e) later e1) ∙ e2 in cc
    elsewhere false e1 true e2 h = omega arith
    elsewhere false e1 false e2 h = h

    by : (b : Bool) → same_key n.key e.0 ≡ b → cond b (Some e.1) (lookup (same_key n.key) es) ≡ Some n.at → (IsLookOf es n → later_looks n es < later_looks k es)
        → cond (is_lt (look_cmp n (look_in e))) (1 + later_looks n es) (later_looks n es) < cond (is_lt (look_cmp k (look_in e))) (1 + later_looks k es) (later_looks k es)
    by true h there rest = here (at_itself h there) (fewer_or_same k n es later)
    by false h there rest = elsewhere (is_lt (look_cmp n (look_in e))) refl (is_lt (look_cmp k (look_in e))) refl (rest there)
