-- Two ads that can't but be equal are.
use Rattle.std.proofs.Common.{◌≡◌, ◌==◌, Bool, true, false, ◌&&◌, true≢false, eq-eqb, refl, sym, ◌∙◌, ap}
use Rattle.std.proofs.lemmas.Bool.{eqb-true}
use Rattle.std.specs.Coded.{Coded}
use base.Stored.{Gv, gnil, gnum, gcons}
use Rattle.ad_tree.specs.Ad.{Attributes}
use Rattle.ad_tree.specs.TreeCode.{attributes_code}
use Rattle.pool_view.proofs.Sameness.{both_true}

-- ---- codes
abbrev same_code : Gv → Gv → Bool
same_code gnil gnil = true
same_code gnil (gnum n) = false
same_code gnil (gcons c d) = false
same_code (gnum m) gnil = false
same_code (gnum m) (gnum n) = m == n
same_code (gnum m) (gcons c d) = false
same_code (gcons a b) gnil = false
same_code (gcons a b) (gnum n) = false
same_code (gcons a b) (gcons c d) = same_code a c && same_code b d

same_code-true : (x y : Gv) → same_code x y ≡ true → x ≡ y
same_code-true gnil gnil h = refl
same_code-true gnil (gnum n) h = absurd (true≢false (sym h))
same_code-true gnil (gcons c d) h = absurd (true≢false (sym h))
same_code-true (gnum m) gnil h = absurd (true≢false (sym h))
same_code-true (gnum m) (gnum n) h = ap gnum (eqb-true m n h)
same_code-true (gnum m) (gcons c d) h = absurd (true≢false (sym h))
same_code-true (gcons a b) gnil h = absurd (true≢false (sym h))
same_code-true (gcons a b) (gnum n) h = absurd (true≢false (sym h))
same_code-true (gcons a b) (gcons c d) h =
    let both = both_true (same_code a c) (same_code b d) h in
    let first = same_code-true a c both.0 in
    let second = same_code-true b d both.1 in
    λ i. gcons (first i) (second i)

same_code-same : (x : Gv) → same_code x x ≡ true
same_code-same gnil = refl
same_code-same (gnum n) = eq-eqb n n refl
same_code-same (gcons a b) = ap (λ t. t && same_code b b) (same_code-same a) ∙ same_code-same b

one_code : (x y : Gv) → ((x ≡ y → ⊥) → ⊥) → x ≡ y
one_code x y never = by (same_code x y) refl
  where
    by : (b : Bool) → same_code x y ≡ b → x ≡ y
    by true is = same_code-true x y is
    by false is = absurd (never (λ e. true≢false (sym (same_code-same x) ∙ (ap (same_code x) e ∙ is))))

-- ---- whatever has a code
pub one_coded : {A : Type 0} (c : Coded A) (x y : A) → ((x ≡ y → ⊥) → ⊥) → x ≡ y
one_coded c x y never = c.inj x y (one_code (c.code x) (c.code y) (λ other. never (λ e. other (ap c.code e))))

pub one_ad : (x y : Attributes) → ((x ≡ y → ⊥) → ⊥) → x ≡ y
one_ad x y never = one_coded attributes_code x y never
