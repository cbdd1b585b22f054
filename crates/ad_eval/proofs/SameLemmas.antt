-- Two values are the same exactly where their contents are equal.
use Rattle.std.proofs.Common.{◌≡◌, ◌≢◌, not, ◌↔◌, Bool, true, false, true≢false, ◌&&◌, IsTrue, refl, ap, sym, ◌∙◌, subst}
use Rattle.std.specs.Bool.{Decides}
use Rattle.std.specs.Cmp.{booleans_Decides}
use Rattle.std.proofs.lemmas.Bool.Decides.{Decides-int_eq, same_from_decides}
use Rattle.std.proofs.lemmas.Slice.Eq.{bytes_eq-Decides}
use Rattle.ad_value.specs.Content.{Content, Contents, undefined, error, truth, integer, text, items, no_contents, and_content}
use Rattle.ad_value.specs.Truth.{truth_of}
use Rattle.ad_eval.specs.Operators.{same, same_items, negated_value}
use Rattle.ad_eval.specs.Laws.{IsIdentity}

both_true : (a b : Bool) → (a && b) ≡ true → (a ≡ true) × (b ≡ true)
both_true true b e = (refl, e)
both_true false b e = absurd (true≢false (sym e))

mutual
  equal : (a b : Content) → same a b ≡ true → a ≡ b
  equal undefined undefined e = refl
  equal error error e = refl
  equal (truth a) (truth b) e = ap truth ((booleans_Decides a b).0 e)
  equal (integer a) (integer b) e = ap integer ((Decides-int_eq a b).0 e)
  equal (text a) (text b) e = ap text ((bytes_eq-Decides a b).0 e)
  equal (items a) (items b) e = ap items (equal_items a b e)
  equal a b e = absurd (true≢false (sym e))

  equal_items : (as' bs : Contents) → same_items as' bs ≡ true → as' ≡ bs
  equal_items no_contents no_contents e = refl
  equal_items (and_content a as') (and_content b bs) e =
      let parts = both_true (same a b) (same_items as' bs) e in λ i. and_content (equal a b parts.0 i) (equal_items as' bs parts.1 i)
  equal_items as' bs e = absurd (true≢false (sym e))

mutual
  pub itself : (a : Content) → same a a ≡ true
  itself undefined = refl
  itself error = refl
  itself (truth a) = (booleans_Decides a a).1 refl
  itself (integer a) = (Decides-int_eq a a).1 refl
  itself (text a) = (bytes_eq-Decides a a).1 refl
  itself (items a) = itself_items a

  pub itself_items : (as' : Contents) → same_items as' as' ≡ true
  itself_items no_contents = refl
  itself_items (and_content a as') = ap (λ b. b && same_items as' as') (itself a) ∙ itself_items as'

pub same_decides : (a b : Content) → Decides (same a b) (a ≡ b)
same_decides a b = (equal a b, λ e. subst (λ c. same a c ≡ true) e (itself a))

pub same_is : (r : Bool) (a b : Content) → (IsTrue r ↔ (a ≡ b)) → r ≡ same a b
same_is r a b h = same_from_decides r (same a b) (h.0, h.1) (same_decides a b)

truth_or_false : (b : Bool) → (truth b ≡ truth true ↔ b ≡ true) × (truth b ≡ truth false ↔ b ≡ false)
truth_or_false b = ((λ e. cc, ap truth), (λ e. cc, ap truth))

negation_is : (b : Bool) → truth (not b) ≡ negated_value (truth_of (truth b))
negation_is true = refl
negation_is false = refl

-- =?= tells whether two values are equal
pub is_identity : (a b : Content) → IsIdentity a b
is_identity a b = record {
  equal = (λ e. equal a b ((truth_or_false (same a b)).0.0 e), λ e. ap truth ((same_decides a b).1 e));
  different = (λ e k. absurd (true≢false (sym ((same_decides a b).1 k) ∙ (truth_or_false (same a b)).1.0 e)), λ n. ap truth (by (same a b) refl n));
  negated = negation_is (same a b);
}
  where
    by : (r : Bool) → same a b ≡ r → (a ≢ b) → r ≡ false
    by true e n = absurd (n (equal a b e))
    by false e n = refl
