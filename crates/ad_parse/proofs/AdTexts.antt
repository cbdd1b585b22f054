-- The ad that a text says is what the definition by cases gives.
use Rattle.std.proofs.Common.{◌≡◌, ℕ, ◌≤◌, Bool, true, false, cond, List, [], ◌∷◌, length, Option, Some, None, Result, Ok, Err, refl, ap, ◌∙◌, subst, arith}
use Rattle.ad_tree.specs.Tree.{Tree}
use Rattle.ad_tree.specs.Ad.{Attributes, with_attribute}
use Rattle.ad_tree.proofs.AdLemmas.{length-with_attribute-within}
use Rattle.ad_parse.specs.declared.error.ParseError.{ParseError}
use Rattle.ad_parse.specs.declared.error.AdError.{AdError}
use Rattle.ad_parse.specs.declared.error.AdError.TheVariants as fault
use Rattle.ad_parse.specs.ExprText.{expression_at}
use Rattle.ad_parse.specs.AdText.{lines_of_text, is_skipped, setting, is_full_for, with_line, with_setting, with_expression, at_line, unless_refused, with_lines, next_number, ad_at}
use Rattle.ad_parse.specs.AdLines.{IsSetting, HasRoom, AreAdLines, ended, skip, set, IsAdText}
use Rattle.ad_parse.proofs.Texts.{said_is_read, IsReading, is_reading}
use Rattle.ad_parse.proofs.Settings.{skipped_from, skipped_is, setting_from_parts, setting_parts, not_skipped, room_from, room_is, not_full}

-- ---- from the lines to what the definition gives

pub line_skipped : (n : ℕ) (ad : Attributes) (line : List ℕ) → is_skipped line ≡ true → with_line n ad line ≡ Ok ad
line_skipped n ad line is = ap (λ b. cond b (Ok ad) (with_setting n ad (setting line))) is

pub line_set : (n : ℕ) (ad : Attributes) (line name text : List ℕ) (e : Tree) → is_skipped line ≡ false → setting line ≡ Some (name, text) → expression_at text ≡ Ok e
    → is_full_for name ad ≡ false → with_line n ad line ≡ Ok (with_attribute name e ad)
line_set n ad line name text e more is read room =
    ap (λ b. cond b (Ok ad) (with_setting n ad (setting line))) more
    ∙ ap (with_setting n ad) is
    ∙ ap (λ r. unless_refused (at_line n r) (with_expression n ad name)) read
    ∙ ap (λ b. cond b (Err (fault.Full n)) (Ok (with_attribute name e ad))) room

then_lines : (n : ℕ) (ad new last : Attributes) (line : List ℕ) (more : List (List ℕ)) → with_line n ad line ≡ Ok new → with_lines (next_number n) new more ≡ Ok last
    → with_lines n ad (line ∷ more) ≡ Ok last
unfolding with_lines
then_lines n ad new last line more this rest = ap (λ r. unless_refused r (λ x. with_lines (next_number n) x more)) this ∙ rest

no_lines : (n : ℕ) (ad : Attributes) → with_lines n ad [] ≡ Ok ad
unfolding with_lines
no_lines n ad = refl

lines_give : (n : ℕ) (ad : Attributes) (ls : List (List ℕ)) (new : Attributes) → AreAdLines ad ls new → with_lines n ad ls ≡ Ok new
lines_give n ad _ _ ended = no_lines n ad
lines_give n ad _ last (skip {line = line} {more = more} is rest) =
    then_lines n ad ad last line more (line_skipped n ad line (skipped_from line is)) (lines_give (next_number n) ad more last rest)
lines_give n ad _ last (set {line = line} {name = name} {text = text} {e = e} {more = more} is says room rest) =
    then_lines n ad (with_attribute name e ad) last line more
    (line_set n ad line name text e (not_skipped line name text is) (setting_from_parts line name text is) (said_is_read text e says) (room_is name ad room))
    (lines_give (next_number n) (with_attribute name e ad) more last rest)

-- ---- and back

abbrev Given : ℕ → Attributes → List (List ℕ) → Attributes → Type 0
Given n ad more last = with_lines (next_number n) ad more ≡ Ok last

module _ (n : ℕ) (ad last : Attributes) (line : List ℕ) (more : List (List ℕ)) (within : length ad ≤ 256)
    (onward : (x : Attributes) → length x ≤ 256 → Given n x more last → AreAdLines x more last) where
  abbrev Ends : Result Attributes AdError → Type 0
  Ends r = unless_refused r (λ x. with_lines (next_number n) x more) ≡ Ok last → AreAdLines ad (line ∷ more) last

  with_read : (name text : List ℕ) → IsSetting line name text → (r : Result Tree ParseError) → IsReading text r → Ends (unless_refused (at_line n r) (with_expression n ad name))
  with_read name text is (Err f) says = λ h. absurd (let z = h in cc)
  with_read name text is (Ok e) says = by (is_full_for name ad) refl
    where
      by : (b : Bool) → is_full_for name ad ≡ b → Ends (cond b (Err (fault.Full n)) (Ok (with_attribute name e ad)))
      by true full = λ h. absurd (let z = h in cc)
      by false more_fit =
          let room : HasRoom name ad = room_from name ad within more_fit in
          λ h. set is says room (onward (with_attribute name e ad) (length-with_attribute-within name e ad (not_full name ad room) within) h)

  with_parts : (o : Option (List ℕ × List ℕ)) → setting line ≡ o → Ends (with_setting n ad o)
  with_parts None is = λ h. absurd (let z = h in cc)
  with_parts (Some s) is = with_read s.0 s.1 (setting_parts line s.0 s.1 is) (expression_at s.1) (is_reading s.1)

  with_any : (b : Bool) → is_skipped line ≡ b → Ends (cond b (Ok ad) (with_setting n ad (setting line)))
  with_any true is = λ h. skip (skipped_is line is) (onward ad within h)
  with_any false is = with_parts (setting line) refl

ok_same : (x y : Attributes) → (let r : Result Attributes AdError = Ok x in r) ≡ Ok y → x ≡ y
ok_same x y e = ap in_ok e
  where
    in_ok : Result Attributes AdError → Attributes
    in_ok (Ok z) = z
    in_ok (Err f) = x

lines_from : (n : ℕ) (ad : Attributes) (ls : List (List ℕ)) (last : Attributes) → length ad ≤ 256 → with_lines n ad ls ≡ Ok last → AreAdLines ad ls last
unfolding with_lines
lines_from n ad [] last within h = subst (λ x. AreAdLines ad [] x) (ok_same ad last h) ended
lines_from n ad (line ∷ more) last within h = with_any n ad last line more within (λ x. lines_from (next_number n) x more last) (is_skipped line) refl h

pub says_is_given : (text : List ℕ) (ad : Attributes) → IsAdText text ad → ad_at text ≡ Ok ad
says_is_given text ad is = lines_give 1 [] (lines_of_text text) ad is

pub given_is_said : (text : List ℕ) (ad : Attributes) → ad_at text ≡ Ok ad → IsAdText text ad
given_is_said text ad h = lines_from 1 [] (lines_of_text text) ad (omega arith) h
