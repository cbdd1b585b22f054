-- The strings of names.
use Rattle.std.proofs.Common.{◌≡◌, ℕ, ◌+◌, ◌*◌, ◌≤◌, Bool, true, false, true≢false, cond, List, [], ◌∷◌, ◌==◌, ◌||◌, not, length, length-append, refl, sym, subst, arith}
use Rattle.std.specs.List.{flat_map, list_all}
use Rattle.std.proofs.lemmas.Bool.{and_parts, and_from, eqb-true, ltb-false, not-true}
use Rattle.ad_value.specs.Content.{text}
use Rattle.ad_value.specs.Literal.{escape_text, quoted_text}
use Rattle.ad_token.specs.Canonical.{is_line}
use Rattle.ad_token.specs.Names.{is_name_byte, is_name}
use Rattle.ad_parse.specs.ValueText.{HasReadableLiteral}

stays_on_line : (b : ℕ) → is_name_byte b ≡ true → not (b == 10) ≡ true
stays_on_line b named = by (b == 10) refl
  where
    by : (t : Bool) → (b == 10) ≡ t → not t ≡ true
    by true is = absurd (true≢false (sym (subst (λ k. is_name_byte k ≡ true) (eqb-true b 10 is) named)))
    by false is = refl

stay_on_line : (x : List ℕ) → list_all is_name_byte x ≡ true → list_all (λ b. not (b == 10)) x ≡ true
stay_on_line [] all = refl
stay_on_line (b ∷ x) all =
    let parts = and_parts (is_name_byte b) (list_all is_name_byte x) all in
    and_from (not (b == 10)) (list_all (λ b. not (b == 10)) x) (stays_on_line b parts.0) (stay_on_line x parts.1)

escaped_byte : (c : Bool) (b : ℕ) → length (cond c (92 ∷ b ∷ []) (b ∷ [])) ≤ 2
escaped_byte true b = omega arith
escaped_byte false b = omega arith

escaped : (x : List ℕ) → length (flat_map escape_text x) ≤ 2 * length x
escaped [] = omega arith
escaped (b ∷ x) =
    let both = length-append (escape_text b) (flat_map escape_text x) in
    omega (arith, both, escaped_byte ((b == 34) || (b == 92)) b, escaped x)

quoted : (x : List ℕ) → length (quoted_text x) ≤ 2 + 2 * length x
quoted x =
    let all = length-append (34 ∷ flat_map escape_text x) (34 ∷ []) in
    omega (arith, all, escaped x)

pub name_readable : (x : List ℕ) → is_name x ≡ true → HasReadableLiteral (text x)
unfolding is_name is_line
name_readable x named =
    let rest = (and_parts _ _ named).1 in
    let bytes = and_parts _ _ rest in
    let short = ltb-false 128 (length x) (not-true _ (and_parts _ _ bytes.1).0) in
    record {
      plain = stay_on_line x bytes.0;
      shallow = omega arith;
      short = omega (arith, quoted x, short);
    }
