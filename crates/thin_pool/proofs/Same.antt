-- Two ads that count as the same are equal.
use Rattle.std.proofs.Common.{◌≡◌, List, Bool, true, false, true≢false, ◌&&◌, IsTrue, ◌↔◌, refl, sym, ◌∙◌, ap, eq-eqb}
use Rattle.std.specs.Coded.{coded_list}
use Rattle.std.proofs.lemmas.Bool.{eqb-true}
use base.Stored.{Gv, gnil, gnum, gcons}
use Rattle.ad_tree.specs.Ad.{Attributes}
use Rattle.ad_tree.specs.TreeCode.{attributes_code}
use Rattle.pool_view.proofs.Sameness.{both_true}
use Rattle.thin_pool.specs.Sameness.{same_code, same_ad, same_ads}

same_code-true : (a b : Gv) → same_code a b ≡ true → a ≡ b
same_code-true gnil gnil h = refl
same_code-true gnil (gnum n) h = absurd (true≢false (sym h))
same_code-true gnil (gcons c d) h = absurd (true≢false (sym h))
same_code-true (gnum m) gnil h = absurd (true≢false (sym h))
same_code-true (gnum m) (gnum n) h = ap gnum (eqb-true m n h)
same_code-true (gnum m) (gcons c d) h = absurd (true≢false (sym h))
same_code-true (gcons a b) gnil h = absurd (true≢false (sym h))
same_code-true (gcons a b) (gnum n) h = absurd (true≢false (sym h))
same_code-true (gcons a b) (gcons c d) h =
    let both = both_true (same_code a c) (same_code b d) h in
    ap (λ x. gcons x b) (same_code-true a c both.0) ∙ ap (gcons c) (same_code-true b d both.1)

same_code-same : (a : Gv) → same_code a a ≡ true
same_code-same gnil = refl
same_code-same (gnum m) = eq-eqb m m refl
same_code-same (gcons a b) = rw (same_code-same a, same_code-same b) refl

pub same_ad-true : (a b : Attributes) → same_ad a b ≡ true → a ≡ b
same_ad-true a b h = attributes_code.inj a b (same_code-true (attributes_code.code a) (attributes_code.code b) h)

pub same_ad-same : (a b : Attributes) → a ≡ b → same_ad a b ≡ true
same_ad-same a b e = ap (λ x. same_code (attributes_code.code a) (attributes_code.code x)) (sym e) ∙ same_code-same (attributes_code.code a)

pub same_ads-true : (xs ys : List Attributes) → same_ads xs ys ≡ true → xs ≡ ys
same_ads-true xs ys h = (coded_list attributes_code).inj xs ys (same_code-true ((coded_list attributes_code).code xs) ((coded_list attributes_code).code ys) h)

pub same_ads-same : (xs ys : List Attributes) → xs ≡ ys → same_ads xs ys ≡ true
same_ads-same xs ys e = ap (λ x. same_code ((coded_list attributes_code).code xs) ((coded_list attributes_code).code x)) (sym e) ∙ same_code-same ((coded_list attributes_code).code xs)

-- ---- what a test of two ads tells
by_both : (a b : Bool) → (a ≡ true → b ≡ true) → (b ≡ true → a ≡ true) → a ≡ b
by_both true b there back = sym (there refl)
by_both false true there back = back refl
by_both false false there back = refl

pub told_ad : (b : Bool) (x y : Attributes) → (IsTrue b ↔ (x ≡ y)) → b ≡ same_ad x y
told_ad b x y h = by_both b (same_ad x y) (λ yes. same_ad-same x y (h.0 yes)) (λ yes. h.1 (same_ad-true x y yes))

pub told_ads : (b : Bool) (xs ys : List Attributes) → (IsTrue b ↔ (xs ≡ ys)) → b ≡ same_ads xs ys
told_ads b xs ys h = by_both b (same_ads xs ys) (λ yes. same_ads-same xs ys (h.0 yes)) (λ yes. h.1 (same_ads-true xs ys yes))

-- where the second of three tests fails, all together do
pub second_fails : (a b d : Bool) → b ≡ false → b ≡ a && (b && d)
second_fails true true d is = absurd (true≢false is)
second_fails true false d is = refl
second_fails false b d is = is
