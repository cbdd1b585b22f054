-- Numbers with fractions and exponents, and what begins with a dot.
use Rattle.std.proofs.Common.{◌≡◌, ◌⊎◌, inl, inr, ℕ, ◌+◌, ◌<◌, ◌||◌, Bool, true, false, cond, eqb, ltb, List, [], ◌∷◌, ◌++◌, length, take, drop, get_or, refl, ap, sym, ◌∙◌, subst, arith, append_assoc}
use Rattle.std.specs.Char.{is_ascii_digit}
use Rattle.std.specs.Str.{all_ascii_digits}
use Rattle.std.proofs.lemmas.Bool.{eqb-true, ltb-true, lt-ltb, ne_eqb}
use Rattle.std.proofs.lemmas.Bool.Decides.{nat_tests}
use Rattle.std.proofs.lemmas.List.{take_at, drop_at, length-append, length-take-le, take-append-drop}
use Rattle.std.proofs.lemmas.List.Sums.{prefix_len-le-length}
use Rattle.ad_token.specs.declared.token.Token.TheVariants as token
use Rattle.ad_token.specs.Numbers.{AreDigits, digits_length, fraction_length, sign_length, signed_length, exponent_with, exponent_length, tail_length, number_token, numeral_token, point_token, IsFraction, none, dotted, IsSign, no_sign, plus, minus, IsExponent, exponent}
use Rattle.ad_token.specs.Lexing.{token_at}
use Rattle.ad_token.proofs.Prefixes.{are_digits}
use Rattle.ad_token.proofs.Pieces.{run_append, digits_all, at_digit, first_digit, both}

-- digits, and what no digit begins
number_at : (ds rest : List ℕ) → AreDigits ds → is_ascii_digit (get_or rest 0 0) ≡ false → token_at (ds ++ rest) ≡ (numeral_token ds (take (tail_length rest) rest), length ds + tail_length rest)
unfolding number_token
number_at ds rest digits stop =
    let all = digits_all ds digits.0 in
    let n : digits_length (ds ++ rest) ≡ length ds = run_append is_ascii_digit ds rest all stop in
    let front : take (length ds) (ds ++ rest) ≡ ds = take_at ds rest _ refl in
    let back : drop (length ds) (ds ++ rest) ≡ rest = drop_at ds rest _ refl in
    at_digit (ds ++ rest) (first_digit ds rest all digits.1)
    ∙ (λ i. (numeral_token (take (n i) (ds ++ rest)) (take (tail_length (drop (n i) (ds ++ rest))) (drop (n i) (ds ++ rest))), n i + tail_length (drop (n i) (ds ++ rest))))
    ∙ (λ i. (numeral_token (front i) (take (tail_length (back i)) (back i)), length ds + tail_length (back i)))

-- the letter of an exponent
record IsLetter (b : ℕ) : Type 0 where
  test : (eqb b 101) || (eqb b 69) ≡ true
  no_dot : eqb b 46 ≡ false
  no_digit : is_ascii_digit b ≡ false

letter_from : (b : ℕ) → (b ≡ 101) ⊎ (b ≡ 69) → IsLetter b
letter_from b (inl e) = subst (λ c. IsLetter c) (sym e) record { test = refl; no_dot = refl; no_digit = refl }
letter_from b (inr e) = subst (λ c. IsLetter c) (sym e) record { test = refl; no_dot = refl; no_digit = refl }

digit_is_no_sign : (d : ℕ) → is_ascii_digit d ≡ true → (eqb d 43) || (eqb d 45) ≡ false
digit_is_no_sign d h = grind (arith, nat_tests)

module _ (bs : List ℕ) (stop : is_ascii_digit (get_or bs 0 0) ≡ false) where
  -- digits after k bytes of a sign
  after_sign : (r ds : List ℕ) (k : ℕ) → sign_length r ≡ k → drop k r ≡ ds ++ bs → AreDigits ds → signed_length r ≡ k + length ds
  after_sign r ds k e rest digits =
      let n : digits_length (drop (sign_length r) r) ≡ length ds =
      ap (λ m. digits_length (drop m r)) e ∙ ap (λ l. digits_length l) rest ∙ run_append is_ascii_digit ds bs (digits_all ds digits.0) stop in
      (λ i. cond (ltb 0 (n i)) (e i + n i) 0) ∙ ap (λ c. cond c (k + length ds) 0) (lt-ltb 0 (length ds) digits.1)

  signed_is : (sign ds : List ℕ) → IsSign sign → AreDigits ds → signed_length ((sign ++ ds) ++ bs) ≡ length sign + length ds
  unfolding sign_length
  signed_is _ [] no_sign digits = absurd (omega (arith, digits.1))
  signed_is _ (d ∷ ds) no_sign digits =
      let first : is_ascii_digit d ≡ true = (both (is_ascii_digit d) (all_ascii_digits ds) digits.0).0 in
      after_sign ((d ∷ ds) ++ bs) (d ∷ ds) 0 (ap (λ c. cond c 1 0) (digit_is_no_sign d first)) refl digits
  signed_is _ ds plus digits = after_sign (43 ∷ (ds ++ bs)) ds 1 refl refl digits
  signed_is _ ds minus digits = after_sign (45 ∷ (ds ++ bs)) ds 1 refl refl digits

  with_letter : (k : ℕ) → 0 < k → exponent_with k ≡ 1 + k
  with_letter k some = ap (λ c. cond c 0 (1 + k)) (ne_eqb k 0 (λ e. omega arith))

  exponent_is : (es : List ℕ) → IsExponent es → exponent_length (es ++ bs) ≡ length es
  unfolding exponent_length
  exponent_is _ (exponent b sign ds letter signs digits) =
      let signed : signed_length ((sign ++ ds) ++ bs) ≡ length sign + length ds = signed_is sign ds signs digits in
      ap (λ c. cond c (exponent_with (signed_length ((sign ++ ds) ++ bs))) 0) (letter_from b letter).test
      ∙ ap exponent_with signed
      ∙ with_letter (length sign + length ds) (omega (arith, digits.1))
      ∙ omega (arith, length-append sign ds)

  first_letter : (es : List ℕ) → IsExponent es → IsLetter (get_or (es ++ bs) 0 0)
  first_letter _ (exponent b sign ds letter signs digits) = letter_from b letter

  -- a fraction, up to what is no digit and no dot
  fraction_is : (fs rest : List ℕ) → IsFraction fs → is_ascii_digit (get_or rest 0 0) ≡ false → eqb (get_or rest 0 0) 46 ≡ false → fraction_length (fs ++ rest) ≡ length fs
  unfolding fraction_length
  fraction_is _ [] none no_digit no_dot = refl
  fraction_is _ (b ∷ rest) none no_digit no_dot = ap (λ c. cond c (1 + digits_length rest) 0) no_dot
  fraction_is _ rest (dotted {ds = ds} digits) no_digit no_dot = ap (λ n. 1 + n) (run_append is_ascii_digit ds rest (digits_all ds digits) no_digit) ∙ omega arith

  begins_no_digit : (fs rest : List ℕ) → IsFraction fs → is_ascii_digit (get_or rest 0 0) ≡ false → is_ascii_digit (get_or (fs ++ rest) 0 0) ≡ false
  begins_no_digit _ rest none h = h
  begins_no_digit _ rest (dotted digits) h = refl

  pub exponents_at : (ds fs es : List ℕ) → AreDigits ds → IsFraction fs → IsExponent es → token_at (ds ++ (fs ++ (es ++ bs))) ≡ (numeral_token ds (fs ++ es), length ds + length (fs ++ es))
  exponents_at ds fs es digits fraction is =
      let letter = first_letter es is in
      let rest : List ℕ = fs ++ (es ++ bs) in
      let f : fraction_length rest ≡ length fs = fraction_is fs (es ++ bs) fraction letter.no_digit letter.no_dot in
      let back : drop (length fs) rest ≡ es ++ bs = drop_at fs (es ++ bs) _ refl in
      let tail : tail_length rest ≡ length (fs ++ es) =
      (λ i. f i + exponent_length (drop (f i) rest)) ∙ ap (λ l. length fs + exponent_length l) back ∙ ap (λ n. length fs + n) (exponent_is es is) ∙ sym (length-append fs es) in
      let these : take (length (fs ++ es)) rest ≡ fs ++ es = ap (λ l. take (length (fs ++ es)) l) (sym (append_assoc fs es bs)) ∙ take_at (fs ++ es) bs _ refl in
      number_at ds rest digits (begins_no_digit fs (es ++ bs) fraction letter.no_digit)
      ∙ (λ i. (numeral_token ds (take (tail i) rest), length ds + tail i))
      ∙ ap (λ l. (numeral_token ds l, length ds + length (fs ++ es))) these

-- ---- where no exponent stands

record HasSigned (r : List ℕ) : Type 0 where
  sign : List ℕ
  digits : List ℕ
  more : List ℕ
  parts : r ≡ (sign ++ digits) ++ more
  signs : IsSign sign
  all : AreDigits digits

record HasExponent (bs : List ℕ) : Type 0 where
  text : List ℕ
  more : List ℕ
  parts : bs ≡ text ++ more
  is : IsExponent text

sign_there : (r : List ℕ) → IsSign (take (sign_length r) r)
unfolding sign_length
sign_there [] = no_sign
sign_there (b ∷ r) = by (eqb b 43) (eqb b 45) refl refl
  where
    by : (p m : Bool) → eqb b 43 ≡ p → eqb b 45 ≡ m → IsSign (take (cond (p || m) 1 0) (b ∷ r))
    by true m e f = subst (λ c. IsSign (c ∷ [])) (sym (eqb-true b 43 e)) plus
    by false true e f = subst (λ c. IsSign (c ∷ [])) (sym (eqb-true b 45 f)) minus
    by false false e f = no_sign

signed_there : (r : List ℕ) → (signed_length r ≡ 0) ⊎ HasSigned r
signed_there r = by (ltb 0 (digits_length (drop (sign_length r) r))) refl
  where
    by : (t : Bool) → ltb 0 (digits_length (drop (sign_length r) r)) ≡ t → (cond t (sign_length r + digits_length (drop (sign_length r) r)) 0 ≡ 0) ⊎ HasSigned r
    by false e = inl refl
    by true e =
        let d : List ℕ = drop (sign_length r) r in
        let n = digits_length d in
        let long : length (take n d) ≡ n = length-take-le n d (prefix_len-le-length is_ascii_digit d) in
        inr record {
          sign = take (sign_length r) r;
          digits = take n d;
          more = drop n d;
          parts =
              sym (take-append-drop (sign_length r) r)
              ∙ ap (λ l. take (sign_length r) r ++ l) (sym (take-append-drop n d))
              ∙ sym (append_assoc (take (sign_length r) r) (take n d) (drop n d));
          signs = sign_there r;
          all = (are_digits d, let some = ltb-true 0 n e in omega (arith, some, long));
        }

exponent_there : (bs : List ℕ) → (exponent_length bs ≡ 0) ⊎ HasExponent bs
unfolding exponent_length
exponent_there [] = inl refl
exponent_there (b ∷ r) = by (eqb b 101) (eqb b 69) refl refl
  where
    lettered : (b ≡ 101) ⊎ (b ≡ 69) → (signed_length r ≡ 0) ⊎ HasSigned r → (exponent_with (signed_length r) ≡ 0) ⊎ HasExponent (b ∷ r)
    lettered letter (inl z) = inl (ap exponent_with z)
    lettered letter (inr h) = inr record { text = b ∷ (h.sign ++ h.digits); more = h.more; parts = ap (λ l. b ∷ l) h.parts; is = exponent b h.sign h.digits letter h.signs h.all }

    by : (e f : Bool) → eqb b 101 ≡ e → eqb b 69 ≡ f → (cond (e || f) (exponent_with (signed_length r)) 0 ≡ 0) ⊎ HasExponent (b ∷ r)
    by true f p q = lettered (inl (eqb-true b 101 p)) (signed_there r)
    by false true p q = lettered (inr (eqb-true b 69 q)) (signed_there r)
    by false false p q = inl refl

-- no exponent is read where none stands
no_exponent : (bs : List ℕ) → ((es more : List ℕ) → bs ≡ es ++ more → IsExponent es → ⊥) → exponent_length bs ≡ 0
no_exponent bs never = by (exponent_there bs)
  where
    by : (exponent_length bs ≡ 0) ⊎ HasExponent bs → exponent_length bs ≡ 0
    by (inl z) = z
    by (inr h) = absurd (never h.text h.more h.parts h.is)

-- a fraction, up to what is no digit, and where there is none, no dot
fraction_ends : (fs rest : List ℕ) → IsFraction fs → is_ascii_digit (get_or rest 0 0) ≡ false → (fs ≡ [] → eqb (get_or rest 0 0) 46 ≡ false) → fraction_length (fs ++ rest) ≡ length fs
unfolding fraction_length
fraction_ends _ [] none no_digit no_dot = refl
fraction_ends _ (b ∷ rest) none no_digit no_dot = ap (λ c. cond c (1 + digits_length rest) 0) (no_dot refl)
fraction_ends _ rest (dotted {ds = ds} digits) no_digit no_dot = ap (λ n. 1 + n) (run_append is_ascii_digit ds rest (digits_all ds digits) no_digit) ∙ omega arith

pub no_exponents_at : (ds fs bs : List ℕ) → AreDigits ds → IsFraction fs → is_ascii_digit (get_or bs 0 0) ≡ false → (fs ≡ [] → eqb (get_or bs 0 0) 46 ≡ false)
    → ((es more : List ℕ) → bs ≡ es ++ more → IsExponent es → ⊥) → token_at (ds ++ (fs ++ bs)) ≡ (numeral_token ds fs, length ds + length fs)
no_exponents_at ds fs bs digits fraction stop dot never =
    let rest : List ℕ = fs ++ bs in
    let f : fraction_length rest ≡ length fs = fraction_ends fs bs fraction stop dot in
    let back : drop (length fs) rest ≡ bs = drop_at fs bs _ refl in
    let tail : tail_length rest ≡ length fs =
    (λ i. f i + exponent_length (drop (f i) rest)) ∙ ap (λ l. length fs + exponent_length l) back ∙ ap (λ n. length fs + n) (no_exponent bs never) ∙ omega arith in
    let these : take (length fs) rest ≡ fs = take_at fs bs _ refl in
    number_at ds rest digits (begins_no_digit bs stop fs bs fraction stop)
    ∙ (λ i. (numeral_token ds (take (tail i) rest), length ds + tail i))
    ∙ ap (λ l. (numeral_token ds l, length ds + length fs)) these

-- ---- what begins with a dot

digits_there : (bs : List ℕ) → ltb 0 (digits_length bs) ≡ is_ascii_digit (get_or bs 0 0)
digits_there [] = refl
digits_there (b ∷ bs) = by (is_ascii_digit b)
  where
    by : (d : Bool) → ltb 0 (cond d (1 + digits_length bs) 0) ≡ d
    by true = lt-ltb 0 (1 + digits_length bs) (omega arith)
    by false = refl

pub points_at : (bs : List ℕ) → token_at (46 ∷ bs) ≡ (cond (is_ascii_digit (get_or bs 0 0)) token.Real token.Bad, 1)
unfolding token_at point_token
points_at bs = ap (λ c. (cond c token.Real token.Bad, 1)) (digits_there bs)
