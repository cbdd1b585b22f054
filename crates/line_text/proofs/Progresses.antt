-- How far the names' expansions have come.
use Rattle.std.proofs.Common.{◌≡◌, ℕ, zero, suc, ◌+◌, ◌<◌, ◌≤◌, ◌==◌, ◌||◌, Bool, true, false, List, [], ◌∷◌, length, slice_get, slice_set, Some, None, refl, ap, sym, ◌∙◌, subst, arith, true≢false}
use Rattle.std.proofs.lemmas.Bool.{eqb-true, eqb-false}
use Rattle.line_text.specs.declared.expansion.Progress.{Progress}
use Rattle.line_text.specs.declared.expansion.Progress.TheVariants.{Untouched, Open, Done}
use Rattle.line_text.specs.Macros.{Macros, value_at}
use Rattle.line_text.specs.Expansion.{contains}
use Rattle.line_text.specs.UnderWay.{is_open, weight, work}

pub set_same : (ps : List Progress) (p : ℕ) (x : Progress) → p < length ps → slice_get (slice_set ps p x) p ≡ Some x
set_same [] p x h = absurd (omega arith)
set_same (y ∷ ps) zero x h = refl
set_same (y ∷ ps) (suc p) x h = set_same ps p x (omega arith)

pub set_other : (ps : List Progress) (p q : ℕ) (x : Progress) → (q == p) ≡ false → slice_get (slice_set ps p x) q ≡ slice_get ps q
set_other [] p q x h = refl
set_other (y ∷ ps) zero zero x h = absurd (true≢false h)
set_other (y ∷ ps) zero (suc q) x h = refl
set_other (y ∷ ps) (suc p) zero x h = refl
set_other (y ∷ ps) (suc p) (suc q) x h = set_other ps p q x (let n : (q == p) ≡ false = omega_false q p (λ e. eqb-false (suc q) (suc p) h (ap (λ k. suc k) e)) in n)
  where
    omega_false : (a b : ℕ) → (a ≡ b → ⊥) → (a == b) ≡ false
    omega_false a b differ = by (a == b) refl
      where
        by : (e : Bool) → (a == b) ≡ e → (a == b) ≡ false
        by true e = absurd (differ (eqb-true a b e))
        by false e = e

pub length-set : (ps : List Progress) (p : ℕ) (x : Progress) → length (slice_set ps p x) ≡ length ps
length-set [] p x = refl
length-set (y ∷ ps) zero x = refl
length-set (y ∷ ps) (suc p) x = ap (λ n. suc n) (length-set ps p x)

-- ---- names that are open
pub open_within : (ps : List Progress) (p : ℕ) → is_open (slice_get ps p) ≡ true → p < length ps
open_within [] p h = absurd (true≢false (sym h))
open_within (y ∷ ps) zero h = omega arith
open_within (y ∷ ps) (suc p) h = omega (arith, open_within ps p h)

module _ (ps : List Progress) (p : ℕ) (around : List ℕ) (less : p < length ps) where
  pub marks_opened : ((q : ℕ) → is_open (slice_get ps q) ≡ contains q around) → (q : ℕ) → is_open (slice_get (slice_set ps p Open) q) ≡ contains q (p ∷ around)
  marks_opened marks q = by (q == p) refl
    where
      by : (b : Bool) → (q == p) ≡ b → is_open (slice_get (slice_set ps p Open) q) ≡ (b || contains q around)
      by true e = ap is_open (subst (λ k. slice_get (slice_set ps p Open) k ≡ Some Open) (sym (eqb-true q p e)) (set_same ps p Open less))
      by false e = ap is_open (set_other ps p q Open e) ∙ marks q

  pub marks_closed : (x : Progress) → is_open (Some x) ≡ false → contains p around ≡ false → ((q : ℕ) → is_open (slice_get ps q) ≡ contains q (p ∷ around)) → (q : ℕ) → is_open (slice_get (slice_set ps p x) q) ≡ contains q around
  marks_closed x shut apart marks q = by (q == p) refl (marks q)
    where
      by : (b : Bool) → (q == p) ≡ b → is_open (slice_get ps q) ≡ (b || contains q around) → is_open (slice_get (slice_set ps p x) q) ≡ contains q around
      by true e m = ap is_open (subst (λ k. slice_get (slice_set ps p x) k ≡ Some x) (sym (eqb-true q p e)) (set_same ps p x less)) ∙ shut ∙ sym (subst (λ k. contains k around ≡ false) (sym (eqb-true q p e)) apart)
      by false e m = ap is_open (set_other ps p q x e) ∙ m

-- ---- what is left to do with the names
pub work_opened : (ps : List Progress) (t : Macros) (p : ℕ) → length ps ≡ length t → slice_get ps p ≡ Some Untouched → work (slice_set ps p Open) t + (length (value_at t p) + 2) ≡ work ps t
work_opened [] t p same at = absurd (no at)
  where
    no : None ≡ Some Untouched → ⊥
    no h = cc
work_opened (y ∷ ps) [] p same at = absurd (omega arith)
work_opened (y ∷ ps) (m ∷ t) zero same at =
    let is : y ≡ Untouched = by at in
    subst (λ z. (0 + work ps t) + (length m.1 + 2) ≡ weight z m.1 + work ps t) (sym is) (omega arith)
  where
    by : Some y ≡ Some Untouched → y ≡ Untouched
    by h = cc
work_opened (y ∷ ps) (m ∷ t) (suc p) same at = omega (arith, work_opened ps t p (omega arith) at)

pub work_done : (ps : List Progress) (t : Macros) (p from to : ℕ) → work (slice_set ps p (Done from to)) t ≤ work ps t
work_done [] t p from to = omega arith
work_done (y ∷ ps) [] zero from to = omega arith
work_done (y ∷ ps) [] (suc p) from to = omega arith
work_done (y ∷ ps) (m ∷ t) zero from to = omega arith
work_done (y ∷ ps) (m ∷ t) (suc p) from to = omega (arith, work_done ps t p from to)
