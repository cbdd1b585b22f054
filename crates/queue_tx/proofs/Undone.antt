-- That a change is undone.
use Rattle.std.proofs.Common.{◌≡◌, Bool, true, false, cond, [], ◌∷◌, refl, ap, ◌∙◌}
use Rattle.queue_tx.specs.declared.key.Key.{Key}
use Rattle.queue_tx.specs.Keys.{same_key}
use Rattle.queue_tx.specs.Prepared.{undo_of}
use Rattle.queue_tx.specs.Queues.{KeyedAds, Changes, IsQueue, ad_at, with_ad, with_changes}
use Rattle.queue_tx.proofs.Queues.{found_with, ordered_with, ordered_changed, queues_from_lookups}
use Rattle.queue_tx.proofs.Transactions.{same_keys}

-- the key is one of those that are changed
abbrev is_changed : Key → Changes → Bool
is_changed p [] = false
is_changed p (c ∷ cs) = cond (same_key c.0 p) true (is_changed p cs)

module _ (q : KeyedAds) (p : Key) where
  -- what is as it was stays so
  stays : (cs : Changes) (r : KeyedAds) → IsQueue r → ad_at p r ≡ ad_at p q → ad_at p (with_changes r (undo_of q cs)) ≡ ad_at p q
  stays [] r t h = h
  stays (c ∷ cs) r t h = stays cs (with_ad c.0 (ad_at c.0 q) r) (ordered_with c.0 (ad_at c.0 q) r t) (found_with p c.0 (ad_at c.0 q) r t ∙ by (same_key c.0 p) refl)
    where
      by : (b : Bool) → same_key c.0 p ≡ b → cond b (ad_at c.0 q) (ad_at p r) ≡ ad_at p q
      by true e = ap (λ k. ad_at k q) (same_keys c.0 p e)
      by false e = h

  -- what is changed comes back
  comes_back : (cs : Changes) (r : KeyedAds) → IsQueue r → is_changed p cs ≡ true → ad_at p (with_changes r (undo_of q cs)) ≡ ad_at p q
  comes_back [] r t h = cc
  comes_back (c ∷ cs) r t h = by (same_key c.0 p) refl h (comes_back cs next ordered)
    where
      next : KeyedAds
      next = with_ad c.0 (ad_at c.0 q) r

      ordered : IsQueue next
      ordered = ordered_with c.0 (ad_at c.0 q) r t

      by : (b : Bool) → same_key c.0 p ≡ b → cond b true (is_changed p cs) ≡ true
          → (is_changed p cs ≡ true → ad_at p (with_changes next (undo_of q cs)) ≡ ad_at p q) → ad_at p (with_changes next (undo_of q cs)) ≡ ad_at p q
      by true e h rest = stays cs next ordered (found_with p c.0 (ad_at c.0 q) r t ∙ ap (λ b. cond b (ad_at c.0 q) (ad_at p r)) e ∙ ap (λ k. ad_at k q) (same_keys c.0 p e))
      by false e h rest = rest h

-- what is not changed is as it was
unchanged : (p : Key) (cs : Changes) (r : KeyedAds) → IsQueue r → is_changed p cs ≡ false → ad_at p (with_changes r cs) ≡ ad_at p r
unchanged p [] r t h = refl
unchanged p (c ∷ cs) r t h = by (same_key c.0 p) refl h (unchanged p cs (with_ad c.0 c.1 r) (ordered_with c.0 c.1 r t))
  where
    by : (b : Bool) → same_key c.0 p ≡ b → cond b true (is_changed p cs) ≡ false
        → (is_changed p cs ≡ false → ad_at p (with_changes (with_ad c.0 c.1 r) cs) ≡ ad_at p (with_ad c.0 c.1 r)) → ad_at p (with_changes (with_ad c.0 c.1 r) cs) ≡ ad_at p r
    by true e h rest = cc
    by false e h rest = rest h ∙ (found_with p c.0 c.1 r t ∙ ap (λ b. cond b c.1 (ad_at p r)) e)

pub undone : (q : KeyedAds) (cs : Changes) → IsQueue q → with_changes (with_changes q cs) (undo_of q cs) ≡ q
undone q cs s = queues_from_lookups (with_changes changed (undo_of q cs)) q (ordered_changed changed (undo_of q cs) ordered) s (λ p. by p (is_changed p cs) refl)
  where
    changed : KeyedAds
    changed = with_changes q cs

    ordered : IsQueue changed
    ordered = ordered_changed q cs s

    by : (p : Key) (b : Bool) → is_changed p cs ≡ b → ad_at p (with_changes changed (undo_of q cs)) ≡ ad_at p q
    by p true h = comes_back q p cs changed ordered h
    by p false h = stays q p cs changed ordered (unchanged p cs q s h)
