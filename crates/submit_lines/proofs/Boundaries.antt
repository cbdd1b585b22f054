-- Where a text may be cut.
use Rattle.std.proofs.Common.{◌≡◌, ℕ, zero, suc, ◌+◌, ◌-◌, ◌<◌, ◌≤◌, ◌==◌, ◌&&◌, not, ltb, Bool, true, false, List, [], ◌∷◌, length, get_or, refl, subst, arith}
use Rattle.std.specs.List.{prefix_len, position_or_len}
use Rattle.std.specs.Char.{is_ascii_digit}
use Rattle.std.specs.Str.{IsUtf8, IsCharBoundary}
use Rattle.std.proofs.lemmas.Bool.Decides.{nat_tests}
use Rattle.std.proofs.lemmas.Bool.{ltb-true, ltb-false, eqb-true}
use Rattle.std.proofs.lemmas.List.Sums.{prefix_len_passes, prefix_len-le-length, passes_at_first}
use Rattle.std.proofs.lemmas.Str.{IsCharBoundary-start, IsCharBoundary-end, IsCharBoundary-after_ascii, IsCharBoundary-before_ascii}
use Rattle.ad_token.proofs.Prefixes as prefixes
use Rattle.submit_lines.specs.Names.{is_macro_byte}
use Rattle.submit_lines.specs.Queue.{is_separator}

macro_ascii : (b : ℕ) → is_macro_byte b ≡ true → b < 128
macro_ascii b h = grind (arith, nat_tests)

-- after a run of ASCII bytes
run_at : (p : ℕ → Bool) → ((b : ℕ) → p b ≡ true → b < 128) → (bs : List ℕ) (n : ℕ) → n ≡ prefix_len p bs → IsUtf8 bs → IsCharBoundary bs n
run_at p ascii bs zero e utf8 = IsCharBoundary-start bs utf8
run_at p ascii bs (suc n) e utf8 =
    let le : prefix_len p bs ≤ length bs = prefix_len-le-length p bs in
    let one : n + 1 ≡ suc n = omega arith in
    subst (λ m. IsCharBoundary bs m) one (IsCharBoundary-after_ascii bs n utf8 (omega arith) (ascii _ (prefix_len_passes p bs n 0 (omega arith))))

pub name_boundary : (bs : List ℕ) → IsUtf8 bs → IsCharBoundary bs (prefix_len is_macro_byte bs)
name_boundary bs utf8 = run_at is_macro_byte macro_ascii bs _ refl utf8

pub digits_boundary : (bs : List ℕ) → IsUtf8 bs → IsCharBoundary bs (prefix_len is_ascii_digit bs)
digits_boundary bs utf8 = prefixes.digits_boundary bs utf8

-- a text may be cut after its first byte, where that is ASCII
pub past_first : (bs : List ℕ) (b : ℕ) → IsUtf8 bs → 0 < length bs → get_or bs 0 0 ≡ b → b < 128 → IsCharBoundary bs 1
past_first = prefixes.past_first

-- and after its second, where that is ASCII too
pub past_second : (bs : List ℕ) → IsUtf8 bs → 1 < length bs → get_or bs 1 0 < 128 → IsCharBoundary bs 2
past_second bs utf8 some h = IsCharBoundary-after_ascii bs 1 utf8 some h

-- before its last byte, where that is ASCII
pub before_last : (bs : List ℕ) → 0 < length bs → get_or bs (length bs - 1) 0 < 128 → IsCharBoundary bs (length bs - 1)
before_last bs some h = IsCharBoundary-before_ascii bs (length bs - 1) (omega arith) h

-- before the first byte of some that are ASCII, or at the end
at_stop : (p : ℕ → Bool) → ((b : ℕ) → p b ≡ true → b < 128) → (bs : List ℕ) → IsCharBoundary bs (position_or_len p bs)
at_stop p ascii bs = by (ltb (position_or_len p bs) (length bs)) refl
  where
    le : position_or_len p bs ≤ length bs
    le = prefix_len-le-length (λ b. not (p b)) bs

    by : (t : Bool) → ltb (position_or_len p bs) (length bs) ≡ t → IsCharBoundary bs (position_or_len p bs)
    by true t = IsCharBoundary-before_ascii bs _ (ltb-true _ _ t) (ascii _ (passes_at_first p bs 0 (ltb-true _ _ t)))
    by false t = let past : length bs ≤ position_or_len p bs = ltb-false _ _ t in let same : length bs ≡ position_or_len p bs = omega (arith, le, past) in subst (λ n. IsCharBoundary bs n) same (IsCharBoundary-end bs)

byte_ascii : (stop : ℕ) → stop < 128 → (b : ℕ) → (b == stop) ≡ true → b < 128
byte_ascii stop h b e = grind (arith, nat_tests)

pub stop_boundary : (bs : List ℕ) (stop : ℕ) → stop < 128 → IsCharBoundary bs (position_or_len (λ b. b == stop) bs)
stop_boundary bs stop h = at_stop (λ b. b == stop) (byte_ascii stop h) bs

separator_ascii : (b : ℕ) → is_separator b ≡ true → b < 128
separator_ascii b h = grind (arith, nat_tests)

-- after the first separator
pub past_separator : (bs : List ℕ) → IsUtf8 bs → position_or_len is_separator bs < length bs → IsCharBoundary bs (position_or_len is_separator bs + 1)
past_separator bs utf8 some = IsCharBoundary-after_ascii bs _ utf8 some (separator_ascii _ (passes_at_first is_separator bs 0 some))

pub separator_boundary : (bs : List ℕ) → IsCharBoundary bs (position_or_len is_separator bs)
separator_boundary bs = at_stop is_separator separator_ascii bs

both : (a b : Bool) → (a && b) ≡ true → (a ≡ true) × (b ≡ true)
both true b h = (refl, h)
both false b h = cc

-- after two bytes that are ASCII
pub past_pair : (bs : List ℕ) (first second : ℕ) → IsUtf8 bs → ((get_or bs 0 0 == first) && (get_or bs 1 0 == second)) ≡ true → 0 < second → second < 128 → IsCharBoundary bs 2
past_pair bs first second utf8 h some ascii =
    let is : get_or bs 1 0 ≡ second = eqb-true _ _ (both (get_or bs 0 0 == first) (get_or bs 1 0 == second) h).1 in
    past_second bs utf8 (two bs is) (omega (arith, is, ascii))
  where
    two : (xs : List ℕ) → get_or xs 1 0 ≡ second → 1 < length xs
    two [] e = absurd (omega (arith, e, some))
    two (x ∷ []) e = absurd (omega (arith, e, some))
    two (x ∷ (y ∷ ys)) e = omega arith

pub ruleset item_cuts = (separator_boundary, past_separator)

pub ruleset outer_cuts = (past_first, before_last)
