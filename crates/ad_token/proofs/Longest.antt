-- The mark that is taken is the longest that stands there.
use Rattle.std.proofs.Common.{◌≡◌, ℕ, ◌≤◌, ◌&&◌, Bool, true, false, cond, eqb, List, [], ◌∷◌, length, get_or, codes, nat_eq, Option, Some, None, refl, ap, sym, ◌∙◌, subst, arith}
use Rattle.std.proofs.lemmas.Bool.{eqb-true, eq-eqb}
use Rattle.ad_tree.specs.declared.operator.BinOp.TheVariants as bin
use Rattle.ad_token.specs.declared.token.Bracket.TheVariants.{Round, Curly}
use Rattle.ad_token.specs.declared.token.Token.{Token}
use Rattle.ad_token.specs.declared.token.Token.TheVariants as token
use Rattle.ad_token.specs.Marks.{begins_with, mark_of_three, mark_of_two, mark_of_one, longest, mark_token}
use Rattle.ad_token.specs.Lexing.{token_at}
use Rattle.ad_token.specs.Canonical.{token_text}
use Rattle.ad_token.specs.LongestMark.{is_mark, StandsAt, IsLongestMark, BeginsNoOther}
use Rattle.ad_token.proofs.Ends.{by_tests}
use Rattle.ad_token.proofs.Pieces.{both}

-- ---- marks of each length

-- a mark of n bytes that stands there
record HasMark (bs : List ℕ) (n : ℕ) (t : Token) : Type 0 where
  stands : StandsAt bs t
  size : n ≡ length (token_text t)

found : {P : Type 0} {t : Token} (c : Bool) (x : Token) (o : Option Token) → (c ≡ true → x ≡ t → P) → (o ≡ Some t → P) → cond c (Some x) o ≡ Some t → P
found true x o f g e = f refl cc
found false x o f g e = g e

module _ (bs : List ℕ) (t : Token) where
  is : (n : ℕ) (x : Token) → is_mark x ≡ true → n ≡ length (token_text x) → begins_with bs (token_text x) ≡ true → x ≡ t → HasMark bs n t
  is n x mark size there same = subst (λ u. HasMark bs n u) same record { stands = record { mark = mark; there = there }; size = size }

  three_is : mark_of_three bs ≡ Some t → HasMark bs 3 t
  unfolding mark_of_three
  three_is =
      found (begins_with bs (codes "=?=")) _ _ (is 3 (token.Op bin.Same) refl refl)
      (found (begins_with bs (codes "=!=")) _ _ (is 3 (token.Op bin.NotSame) refl refl) (λ e. cc))

  two_is : mark_of_two bs ≡ Some t → HasMark bs 2 t
  unfolding mark_of_two
  two_is =
      found (begins_with bs (codes "==")) _ _ (is 2 (token.Op bin.Equal) refl refl)
      (found (begins_with bs (codes "!=")) _ _ (is 2 (token.Op bin.NotEqual) refl refl)
      (found (begins_with bs (codes "<=")) _ _ (is 2 (token.Op bin.LessEqual) refl refl)
      (found (begins_with bs (codes ">=")) _ _ (is 2 (token.Op bin.GreaterEqual) refl refl)
      (found (begins_with bs (codes "&&")) _ _ (is 2 (token.Op bin.And) refl refl)
      (found (begins_with bs (codes "||")) _ _ (is 2 (token.Op bin.Or) refl refl)
      (found (begins_with bs (codes "?:")) _ _ (is 2 token.OrElse refl refl) (λ e. cc)))))))

-- ---- where no longer one stands

not_found : (c : Bool) (x : Token) (o : Option Token) → cond c (Some x) o ≡ None → (c ≡ false) × (o ≡ None)
not_found true x o e = cc
not_found false x o e = (refl, e)

record NoThree (bs : List ℕ) : Type 0 where
  same : begins_with bs (codes "=?=") ≡ false
  not_same : begins_with bs (codes "=!=") ≡ false

no_three : (bs : List ℕ) → mark_of_three bs ≡ None → NoThree bs
unfolding mark_of_three
no_three bs e =
    let p = not_found (begins_with bs (codes "=?=")) _ _ e in
    let q = not_found (begins_with bs (codes "=!=")) _ _ p.1 in
    record { same = p.0; not_same = q.0 }

record NoTwo (bs : List ℕ) : Type 0 where
  equal : begins_with bs (codes "==") ≡ false
  not_equal : begins_with bs (codes "!=") ≡ false
  less_equal : begins_with bs (codes "<=") ≡ false
  greater_equal : begins_with bs (codes ">=") ≡ false
  both_true : begins_with bs (codes "&&") ≡ false
  one_true : begins_with bs (codes "||") ≡ false
  or_else : begins_with bs (codes "?:") ≡ false

no_two : (bs : List ℕ) → mark_of_two bs ≡ None → NoTwo bs
unfolding mark_of_two
no_two bs e =
    let p = not_found (begins_with bs (codes "==")) _ _ e in
    let q = not_found (begins_with bs (codes "!=")) _ _ p.1 in
    let r = not_found (begins_with bs (codes "<=")) _ _ q.1 in
    let s = not_found (begins_with bs (codes ">=")) _ _ r.1 in
    let t = not_found (begins_with bs (codes "&&")) _ _ s.1 in
    let u = not_found (begins_with bs (codes "||")) _ _ t.1 in
    let v = not_found (begins_with bs (codes "?:")) _ _ u.1 in
    record { equal = p.0; not_equal = q.0; less_equal = r.0; greater_equal = s.0; both_true = t.0; one_true = u.0; or_else = v.0 }

never : {A : Type 0} {b : Bool} → b ≡ true → b ≡ false → A
never t f = cc

first_is : (bs : List ℕ) (c : ℕ) → begins_with bs (c ∷ []) ≡ true → get_or bs 0 0 ≡ c
first_is [] c h = cc
first_is (b ∷ bs) c h = sym (eqb-true c b (both (nat_eq c b) true h).0)

mark_size : (t : Token) → is_mark t ≡ true → length (token_text t) ≤ 3
mark_size (token.Op bin.Or) m = omega arith
mark_size (token.Op bin.And) m = omega arith
mark_size (token.Op bin.Equal) m = omega arith
mark_size (token.Op bin.NotEqual) m = omega arith
mark_size (token.Op bin.Same) m = omega arith
mark_size (token.Op bin.NotSame) m = omega arith
mark_size (token.Op bin.Less) m = omega arith
mark_size (token.Op bin.LessEqual) m = omega arith
mark_size (token.Op bin.GreaterEqual) m = omega arith
mark_size (token.Op bin.Greater) m = omega arith
mark_size (token.Op bin.Add) m = omega arith
mark_size (token.Op bin.Subtract) m = omega arith
mark_size (token.Op bin.Multiply) m = omega arith
mark_size (token.Op bin.Divide) m = omega arith
mark_size (token.Op bin.Modulo) m = omega arith
mark_size token.Not m = omega arith
mark_size token.Question m = omega arith
mark_size token.Colon m = omega arith
mark_size token.OrElse m = omega arith
mark_size (token.Open Round) m = omega arith
mark_size (token.Open Curly) m = omega arith
mark_size (token.Close Round) m = omega arith
mark_size (token.Close Curly) m = omega arith
mark_size token.Comma m = omega arith
mark_size _ m = cc

within_two : (bs : List ℕ) → NoThree bs → (t : Token) → StandsAt bs t → length (token_text t) ≤ 2
within_two bs none (token.Op bin.Same) s = never s.there none.same
within_two bs none (token.Op bin.NotSame) s = never s.there none.not_same
within_two bs none (token.Op bin.Or) s = omega arith
within_two bs none (token.Op bin.And) s = omega arith
within_two bs none (token.Op bin.Equal) s = omega arith
within_two bs none (token.Op bin.NotEqual) s = omega arith
within_two bs none (token.Op bin.Less) s = omega arith
within_two bs none (token.Op bin.LessEqual) s = omega arith
within_two bs none (token.Op bin.GreaterEqual) s = omega arith
within_two bs none (token.Op bin.Greater) s = omega arith
within_two bs none (token.Op bin.Add) s = omega arith
within_two bs none (token.Op bin.Subtract) s = omega arith
within_two bs none (token.Op bin.Multiply) s = omega arith
within_two bs none (token.Op bin.Divide) s = omega arith
within_two bs none (token.Op bin.Modulo) s = omega arith
within_two bs none token.Not s = omega arith
within_two bs none token.Question s = omega arith
within_two bs none token.Colon s = omega arith
within_two bs none token.OrElse s = omega arith
within_two bs none (token.Open Round) s = omega arith
within_two bs none (token.Open Curly) s = omega arith
within_two bs none (token.Close Round) s = omega arith
within_two bs none (token.Close Curly) s = omega arith
within_two bs none token.Comma s = omega arith
within_two bs none _ s = let m = s.mark in cc

-- the mark of one byte that stands there, where no longer one does
record IsOne (bs : List ℕ) (t : Token) : Type 0 where
  same : mark_of_one (get_or bs 0 0) ≡ t
  size : length (token_text t) ≡ 1

module _ (bs : List ℕ) (no_longer : NoThree bs) (none : NoTwo bs) where
  one_from : (c : ℕ) (t : Token) → begins_with bs (c ∷ []) ≡ true → mark_of_one c ≡ t → length (token_text t) ≡ 1 → IsOne bs t
  one_from c t h is size = record { same = ap mark_of_one (first_is bs c h) ∙ is; size = size }

  one_is : (t : Token) → StandsAt bs t → IsOne bs t
  unfolding mark_of_one
  one_is (token.Op bin.Same) s = never s.there no_longer.same
  one_is (token.Op bin.NotSame) s = never s.there no_longer.not_same
  one_is (token.Op bin.Or) s = never s.there none.one_true
  one_is (token.Op bin.And) s = never s.there none.both_true
  one_is (token.Op bin.Equal) s = never s.there none.equal
  one_is (token.Op bin.NotEqual) s = never s.there none.not_equal
  one_is (token.Op bin.LessEqual) s = never s.there none.less_equal
  one_is (token.Op bin.GreaterEqual) s = never s.there none.greater_equal
  one_is token.OrElse s = never s.there none.or_else
  one_is (token.Op bin.Less) s = one_from 60 (token.Op bin.Less) s.there refl refl
  one_is (token.Op bin.Greater) s = one_from 62 (token.Op bin.Greater) s.there refl refl
  one_is (token.Op bin.Add) s = one_from 43 (token.Op bin.Add) s.there refl refl
  one_is (token.Op bin.Subtract) s = one_from 45 (token.Op bin.Subtract) s.there refl refl
  one_is (token.Op bin.Multiply) s = one_from 42 (token.Op bin.Multiply) s.there refl refl
  one_is (token.Op bin.Divide) s = one_from 47 (token.Op bin.Divide) s.there refl refl
  one_is (token.Op bin.Modulo) s = one_from 37 (token.Op bin.Modulo) s.there refl refl
  one_is token.Not s = one_from 33 token.Not s.there refl refl
  one_is token.Question s = one_from 63 token.Question s.there refl refl
  one_is token.Colon s = one_from 58 token.Colon s.there refl refl
  one_is (token.Open Round) s = one_from 40 (token.Open Round) s.there refl refl
  one_is (token.Open Curly) s = one_from 123 (token.Open Curly) s.there refl refl
  one_is (token.Close Round) s = one_from 41 (token.Close Round) s.there refl refl
  one_is (token.Close Curly) s = one_from 125 (token.Close Curly) s.there refl refl
  one_is token.Comma s = one_from 44 token.Comma s.there refl refl
  one_is _ s = let m = s.mark in cc

-- ---- the mark that is taken

longest_mark : (bs : List ℕ) (t : Token) → StandsAt bs t → IsLongestMark bs (mark_token bs)
unfolding mark_token
longest_mark bs t stands = by (mark_of_three bs) (mark_of_two bs) refl refl
  where
    by : (p q : Option Token) → mark_of_three bs ≡ p → mark_of_two bs ≡ q → IsLongestMark bs (longest p q (mark_of_one (get_or bs 0 0)))
    by (Some x) q e f = let h = three_is bs x e in record { stands = h.stands; size = h.size; no_longer = λ u s. mark_size u s.mark }
    by None (Some x) e f = let h = two_is bs x f in record { stands = h.stands; size = h.size; no_longer = λ u s. within_two bs (no_three bs e) u s }
    by None None e f =
        let no_longer = no_three bs e in
        let none = no_two bs f in
        let one = one_is bs no_longer none t stands in
        subst (λ x. IsLongestMark bs (x, 1)) (sym one.same) record {
          stands = stands;
          size = sym one.size;
          no_longer = λ u s. let same = (one_is bs no_longer none u s).size in omega (arith, same);
        }

-- ---- a mark begins no other token

at_mark : (bs : List ℕ) → BeginsNoOther (get_or bs 0 0) → token_at bs ≡ mark_token bs
unfolding token_at
at_mark bs h = λ i. by_tests bs (h.letter i) (h.digit i) (h.quote i) (h.dot i)

other_at : (b : ℕ) → BeginsNoOther b → (bs : List ℕ) (m : List ℕ) → begins_with bs (b ∷ m) ≡ true → BeginsNoOther (get_or bs 0 0)
other_at b h [] m e = cc
other_at b h (c ∷ bs) m e = subst (λ x. BeginsNoOther x) (eqb-true b c (both (nat_eq b c) (begins_with bs m) e).0) h

no_other : (bs : List ℕ) (t : Token) → StandsAt bs t → BeginsNoOther (get_or bs 0 0)
no_other bs (token.Op bin.Or) s = other_at 124 record { letter = refl; digit = refl; quote = refl; dot = refl } bs (124 ∷ []) s.there
no_other bs (token.Op bin.And) s = other_at 38 record { letter = refl; digit = refl; quote = refl; dot = refl } bs (38 ∷ []) s.there
no_other bs (token.Op bin.Equal) s = other_at 61 record { letter = refl; digit = refl; quote = refl; dot = refl } bs (61 ∷ []) s.there
no_other bs (token.Op bin.NotEqual) s = other_at 33 record { letter = refl; digit = refl; quote = refl; dot = refl } bs (61 ∷ []) s.there
no_other bs (token.Op bin.Same) s = other_at 61 record { letter = refl; digit = refl; quote = refl; dot = refl } bs (63 ∷ 61 ∷ []) s.there
no_other bs (token.Op bin.NotSame) s = other_at 61 record { letter = refl; digit = refl; quote = refl; dot = refl } bs (33 ∷ 61 ∷ []) s.there
no_other bs (token.Op bin.Less) s = other_at 60 record { letter = refl; digit = refl; quote = refl; dot = refl } bs [] s.there
no_other bs (token.Op bin.LessEqual) s = other_at 60 record { letter = refl; digit = refl; quote = refl; dot = refl } bs (61 ∷ []) s.there
no_other bs (token.Op bin.GreaterEqual) s = other_at 62 record { letter = refl; digit = refl; quote = refl; dot = refl } bs (61 ∷ []) s.there
no_other bs (token.Op bin.Greater) s = other_at 62 record { letter = refl; digit = refl; quote = refl; dot = refl } bs [] s.there
no_other bs (token.Op bin.Add) s = other_at 43 record { letter = refl; digit = refl; quote = refl; dot = refl } bs [] s.there
no_other bs (token.Op bin.Subtract) s = other_at 45 record { letter = refl; digit = refl; quote = refl; dot = refl } bs [] s.there
no_other bs (token.Op bin.Multiply) s = other_at 42 record { letter = refl; digit = refl; quote = refl; dot = refl } bs [] s.there
no_other bs (token.Op bin.Divide) s = other_at 47 record { letter = refl; digit = refl; quote = refl; dot = refl } bs [] s.there
no_other bs (token.Op bin.Modulo) s = other_at 37 record { letter = refl; digit = refl; quote = refl; dot = refl } bs [] s.there
no_other bs token.Not s = other_at 33 record { letter = refl; digit = refl; quote = refl; dot = refl } bs [] s.there
no_other bs token.Question s = other_at 63 record { letter = refl; digit = refl; quote = refl; dot = refl } bs [] s.there
no_other bs token.Colon s = other_at 58 record { letter = refl; digit = refl; quote = refl; dot = refl } bs [] s.there
no_other bs token.OrElse s = other_at 63 record { letter = refl; digit = refl; quote = refl; dot = refl } bs (58 ∷ []) s.there
no_other bs (token.Open Round) s = other_at 40 record { letter = refl; digit = refl; quote = refl; dot = refl } bs [] s.there
no_other bs (token.Open Curly) s = other_at 123 record { letter = refl; digit = refl; quote = refl; dot = refl } bs [] s.there
no_other bs (token.Close Round) s = other_at 41 record { letter = refl; digit = refl; quote = refl; dot = refl } bs [] s.there
no_other bs (token.Close Curly) s = other_at 125 record { letter = refl; digit = refl; quote = refl; dot = refl } bs [] s.there
no_other bs token.Comma s = other_at 44 record { letter = refl; digit = refl; quote = refl; dot = refl } bs [] s.there
no_other bs _ s = let m = s.mark in cc

pub mark_at : (bs : List ℕ) (t : Token) → StandsAt bs t → IsLongestMark bs (token_at bs)
mark_at bs t s = subst (λ x. IsLongestMark bs x) (sym (at_mark bs (no_other bs t s))) (longest_mark bs t s)

-- ---- where none stands

else_bad : (c : Bool) (x y : Token) → c ≡ false → y ≡ token.Bad → cond c x y ≡ token.Bad
else_bad true x y h e = cc
else_bad false x y h e = e

module _ (b : ℕ) (bs : List ℕ) (absent : (t : Token) → StandsAt (b ∷ bs) t → ⊥) where
  not_one : (c : ℕ) (t : Token) → is_mark t ≡ true → token_text t ≡ c ∷ [] → eqb b c ≡ false
  not_one c t mark is = by (eqb b c) refl
    where
      by : (h : Bool) → eqb b c ≡ h → h ≡ false
      by true e =
          let same : c ≡ b = sym (eqb-true b c e) in
          let there : begins_with (b ∷ bs) (c ∷ []) ≡ true = ap (λ h. h && true) (eq-eqb c b same) in
          absurd (absent t record { mark = mark; there = ap (begins_with (b ∷ bs)) is ∙ there })
      by false e = refl

  one_bad : mark_of_one b ≡ token.Bad
  unfolding mark_of_one
  one_bad =
      else_bad (eqb b 60) _ _ (not_one 60 (token.Op bin.Less) refl refl)
      (else_bad (eqb b 62) _ _ (not_one 62 (token.Op bin.Greater) refl refl)
      (else_bad (eqb b 43) _ _ (not_one 43 (token.Op bin.Add) refl refl)
      (else_bad (eqb b 45) _ _ (not_one 45 (token.Op bin.Subtract) refl refl)
      (else_bad (eqb b 42) _ _ (not_one 42 (token.Op bin.Multiply) refl refl)
      (else_bad (eqb b 47) _ _ (not_one 47 (token.Op bin.Divide) refl refl)
      (else_bad (eqb b 37) _ _ (not_one 37 (token.Op bin.Modulo) refl refl)
      (else_bad (eqb b 33) _ _ (not_one 33 token.Not refl refl)
      (else_bad (eqb b 63) _ _ (not_one 63 token.Question refl refl)
      (else_bad (eqb b 58) _ _ (not_one 58 token.Colon refl refl)
      (else_bad (eqb b 44) _ _ (not_one 44 token.Comma refl refl)
      (else_bad (eqb b 40) _ _ (not_one 40 (token.Open Round) refl refl)
      (else_bad (eqb b 41) _ _ (not_one 41 (token.Close Round) refl refl)
      (else_bad (eqb b 123) _ _ (not_one 123 (token.Open Curly) refl refl)
      (else_bad (eqb b 125) _ _ (not_one 125 (token.Close Curly) refl refl) refl))))))))))))))

  none_there : mark_token (b ∷ bs) ≡ (token.Bad, 1)
  unfolding mark_token
  none_there = by (mark_of_three (b ∷ bs)) (mark_of_two (b ∷ bs)) refl refl
    where
      by : (p q : Option Token) → mark_of_three (b ∷ bs) ≡ p → mark_of_two (b ∷ bs) ≡ q → longest p q (mark_of_one b) ≡ (token.Bad, 1)
      by (Some x) q e f = absurd (absent x (three_is (b ∷ bs) x e).stands)
      by None (Some x) e f = absurd (absent x (two_is (b ∷ bs) x f).stands)
      by None None e f = ap (λ x. (x, 1)) one_bad

pub no_mark_at : (b : ℕ) (bs : List ℕ) → BeginsNoOther b → ((t : Token) → StandsAt (b ∷ bs) t → ⊥) → token_at (b ∷ bs) ≡ (token.Bad, 1)
no_mark_at b bs other absent = at_mark (b ∷ bs) other ∙ none_there b bs absent
