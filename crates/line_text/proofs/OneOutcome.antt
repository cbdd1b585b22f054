-- A text has at most one outcome.
use Rattle.std.proofs.Common.{◌≡◌, ℕ, ◌+◌, ◌≤◌, ◌==◌, ◌||◌, Bool, true, false, true≢false, List, [], ◌∷◌, ◌++◌, length, Option, Some, None, refl, ap, sym, ◌∙◌, subst, append_assoc, arith}
use Rattle.std.specs.Prelude.{unwrap_or}
use Rattle.std.specs.Option.{option_map}
use Rattle.std.proofs.lemmas.Bool.{eqb-true}
use Rattle.ad_value.specs.Names.{lowercase}
use Rattle.line_text.specs.declared.error.MacroError.{MacroError}
use Rattle.line_text.specs.declared.error.MacroError.TheVariants as fault
use Rattle.line_text.specs.Macros.{Macros, value_at}
use Rattle.line_text.specs.References.{Reference, ended, broken, refers, stretch, following}
use Rattle.line_text.specs.Expansion.{piece, total, first_above, macro_of, put_in, contains, Expands, plain, replaced, Reaches, begun, misread, circle, within, within_default, behind, IsExpansion, Meets, Passes}
use Rattle.line_text.proofs.TableLemmas.{value_of_found}
use Rattle.line_text.proofs.LawLemmas.{name_in, default_in, rest_in, pieces_are_one}
use Rattle.line_text.proofs.Pieces.{append_none, length-joined, first_above-append, first_above-more}

module _ (t : Macros) where
  -- how many references an expansion replaces, and texts that it ends
  abbrev pub size : {x : List ℕ} {ss : List (List ℕ)} → Expands t x ss → ℕ
  size (plain e) = 1
  size (replaced r g h) = 1 + (size g + size h)

  pub clash : {x : Reference} {n d r : List ℕ} → x ≡ ended → x ≡ refers n d r → ⊥
  clash e f = cc

  pub clash_broken : {x : Reference} {n d r : List ℕ} → x ≡ broken → x ≡ refers n d r → ⊥
  clash_broken e f = cc

  clash_both : {x : Reference} → x ≡ ended → x ≡ broken → ⊥
  clash_both e f = cc

  module _ {n d r m e s : List ℕ} (same : refers n d r ≡ refers m e s) where
    same_name : n ≡ m
    same_name = ap name_in same

    same_put : put_in t n d ≡ put_in t m e
    same_put = (λ i. put_in t (name_in (same i)) (default_in (same i)))

    same_rest : r ≡ s
    same_rest = ap rest_in same

  pub sizes_agree : {x y : List ℕ} {ss us : List (List ℕ)} → x ≡ y → (a : Expands t x ss) (b : Expands t y us) → size a ≡ size b
  sizes_agree is (plain e) (plain f) = refl
  sizes_agree is (plain e) (replaced f g h) = absurd (clash (sym (ap following is) ∙ e) f)
  sizes_agree is (replaced f g h) (plain e) = absurd (clash (ap following is ∙ e) f)
  sizes_agree is (replaced {name = n} {default = d} {rest = r} f g h) (replaced {name = m} {default = e} {rest = s} k i j) =
      let same : refers n d r ≡ refers m e s = sym f ∙ (ap following is ∙ k) in
      let first : size g ≡ size i = sizes_agree (same_put same) g i in
      let second : size h ≡ size j = sizes_agree (same_rest same) h j in
      (λ q. 1 + (first q + second q))

  -- the value of an open name has no expansion as small
  abbrev pub IsBigger : List ℕ → ℕ → Type 0
  IsBigger around n = (p : ℕ) → contains p around ≡ true → (y : List ℕ) (us : List (List ℕ)) (d : Expands t y us) → y ≡ value_at t p → n ≤ size d

  smaller : (a : List ℕ) (n m : ℕ) → m ≤ n → IsBigger a n → IsBigger a m
  smaller a n m le big p c y us d is = omega (arith, le, big p c y us d is)

  bigger_inside : (a v y : List ℕ) (ss : List (List ℕ)) (n p : ℕ) (g : Expands t y ss) → y ≡ v → v ≡ value_at t p → size g ≤ n → IsBigger a n → IsBigger (p ∷ a) (size g)
  bigger_inside a v y ss n p g is value le big q c z us d at = by (q == p) refl c
    where
      by : (b : Bool) → (q == p) ≡ b → (b || contains q a) ≡ true → size g ≤ size d
      by true e c = omega (arith, sizes_agree (is ∙ value ∙ ap (value_at t) (sym (eqb-true q p e)) ∙ sym at) g d)
      by false e c = omega (arith, le, big q c z us d at)

  regroup : (p a b c : List (List ℕ)) → p ++ ((a ++ b) ++ c) ≡ (p ++ a) ++ (b ++ c)
  regroup p a b c = ap (λ l. p ++ l) (append_assoc a b c) ∙ sym (append_assoc p a (b ++ c))

  regroup_rest : (p a b c : List (List ℕ)) → p ++ (a ++ (b ++ c)) ≡ (p ++ (a ++ b)) ++ c
  regroup_rest p a b c = ap (λ l. p ++ l) (sym (append_assoc a b c)) ∙ sym (append_assoc p (a ++ b) c)

  pub put_in_found : (n d : List ℕ) (p : ℕ) (v : List ℕ) → macro_of t n ≡ Some (p, v) → put_in t n d ≡ v
  put_in_found n d p v found = ap (λ o. unwrap_or (option_map (λ m. m.1) o) d) found

  pub put_in_default : (n d : List ℕ) → macro_of t n ≡ None → put_in t n d ≡ d
  put_in_default n d found = ap (λ o. unwrap_or (option_map (λ m. m.1) o) d) found

  -- where a text is expanded whole, no refusal is met in it, and what is reached is how it begins
  pub no_stop : {a w x y : List ℕ} {ts ss : List (List ℕ)} {stop : Option MacroError} → y ≡ x → (d : Expands t y ss)
      → ((e : MacroError) → stop ≡ Some e → IsBigger a (size d)) → Reaches t a w x ts stop → (stop ≡ None) × (rest : List (List ℕ)) × (ss ≡ ts ++ rest)
  no_stop is (plain e) big begun = (refl, [], ap (λ z. piece (stretch z)) is ∙ sym (append_none _))
  no_stop is (replaced {ss = ss} {ts = ts} r g h) big begun = (refl, ss ++ ts, ap (λ z. piece (stretch z) ++ (ss ++ ts)) is)
  no_stop is (plain e) big (misread f) = absurd (clash_both (sym (ap following is) ∙ e) f)
  no_stop is (replaced r g h) big (misread f) = absurd (clash_broken f (sym (ap following is) ∙ r))
  no_stop is (plain e) big (circle r f c) = absurd (clash (sym (ap following is) ∙ e) r)
  no_stop is (replaced {name = n} {default = d} {rest = s} r g h) big (circle {name = m} {default = e} {rest = z} {value = v} {p = p} k f c) =
      let same : refers n d s ≡ refers m e z = sym r ∙ (ap following is ∙ k) in
      let value : put_in t n d ≡ value_at t p = same_put same ∙ (put_in_found m e p v f ∙ value_of_found (lowercase m) t p v f) in
      let less : 1 + (size g + size h) ≤ size g = big (fault.Circular m) refl p c (put_in t n d) _ g value in
      absurd (omega (arith, less))
  no_stop is (plain e) big (within r f c i) = absurd (clash (sym (ap following is) ∙ e) r)
  no_stop {a = a} {x = x} is (replaced {name = n} {default = d} {rest = s} {ss = ss} {ts = ts} r g h) big (within {name = m} {default = e} {rest = z} {value = v} {p = p} {ss = us} k f c i) =
      let same : refers n d s ≡ refers m e z = sym r ∙ (ap following is ∙ k) in
      let value : put_in t n d ≡ v = same_put same ∙ put_in_found m e p v f in
      let inner = no_stop {a = p ∷ a} {w = v} {x = v} value g (λ e stop. bigger_inside _ _ _ _ _ p g value (value_of_found (lowercase m) t p v f) (omega arith) (big e stop)) i in
      (inner.0, inner.1 ++ ts, ap (λ q. piece (stretch q) ++ (ss ++ ts)) is ∙ ap (λ l. piece (stretch x) ++ (l ++ ts)) inner.2 ∙ regroup (piece (stretch x)) us inner.1 ts)
  no_stop is (plain e) big (within_default r f i) = absurd (clash (sym (ap following is) ∙ e) r)
  no_stop {x = x} is (replaced {name = n} {default = d} {rest = s} {ss = ss} {ts = ts} r g h) big (within_default {name = m} {default = e} {rest = z} {ss = us} k f i) =
      let same : refers n d s ≡ refers m e z = sym r ∙ (ap following is ∙ k) in
      let value : put_in t n d ≡ e = same_put same ∙ put_in_default m e f in
      let inner = no_stop value g (λ e stop. smaller _ _ _ (omega arith) (big e stop)) i in
      (inner.0, inner.1 ++ ts, ap (λ q. piece (stretch q) ++ (ss ++ ts)) is ∙ ap (λ l. piece (stretch x) ++ (l ++ ts)) inner.2 ∙ regroup (piece (stretch x)) us inner.1 ts)
  no_stop is (plain e) big (behind r i j) = absurd (clash (sym (ap following is) ∙ e) r)
  no_stop {x = x} is (replaced {name = n} {default = d} {rest = s} {ss = ss} {ts = ts} r g h) big (behind {name = m} {default = e} {rest = z} {ss = us} {ts = vs} k i j) =
      let same : refers n d s ≡ refers m e z = sym r ∙ (ap following is ∙ k) in
      let first : ss ≡ us = pieces_are_one t (put_in t n d) ss us g (subst (λ q. Expands t q us) (sym (same_put same)) i) in
      let inner = no_stop (same_rest same) h (λ e stop. smaller _ _ _ (omega arith) (big e stop)) j in
      (inner.0, inner.1, ap (λ q. piece (stretch q) ++ (ss ++ ts)) is ∙ (λ q. piece (stretch x) ++ (first q ++ inner.2 q)) ∙ regroup_rest (piece (stretch x)) us vs inner.1)

no_bigger : (t : Macros) (n : ℕ) (p : ℕ) → contains p [] ≡ true → (y : List ℕ) (us : List (List ℕ)) (d : Expands t y us) → y ≡ value_at t p → n ≤ size t d
no_bigger t n p c y us d is = absurd (true≢false (sym c))

pub not_met : (t : Macros) (text x : List ℕ) (e : MacroError) → IsExpansion t text x → Meets t text e → ⊥
not_met t text x e a m = no (no_stop t refl a.written (λ f stop. no_bigger t _) m.reached).0
  where
    no : Some e ≡ None → ⊥
    no h = cc

pub not_passed : (t : Macros) (text x : List ℕ) (n : ℕ) → IsExpansion t text x → Passes t text n → ⊥
not_passed t text x n a m =
    let reached = no_stop t refl a.written (λ f stop. no_bigger t _) m.reached in
    let above : first_above 0 a.pieces ≡ Some n = ap (first_above 0) reached.2 ∙ first_above-more 0 n m.pieces reached.1 m.above in
    let fits : total a.pieces ≤ 65536 = omega (arith, a.fits, ap length a.is, length-joined a.pieces) in
    let none : first_above 0 a.pieces ≡ None = ap (first_above 0) (sym (append_none a.pieces)) ∙ first_above-append 0 a.pieces [] (omega (arith, fits)) in
    no (sym none ∙ above)
  where
    no : None ≡ Some n → ⊥
    no h = cc
