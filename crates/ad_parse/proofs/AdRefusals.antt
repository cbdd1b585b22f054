-- A text is refused where the definition by cases gives an error, for the first line that says nothing.
use Rattle.std.proofs.Common.{◌≡◌, ◌≢◌, ℕ, suc, ◌+◌, ◌≤◌, min, ◌&&◌, not, nat_eq, Bool, true, false, cond, List, [], ◌∷◌, ◌++◌, length, Option, Some, None, is_some, Result, Ok, Err, IfOk, IfErr, refl, ap, sym, ◌∙◌, subst, arith}
use Rattle.std.proofs.lemmas.Bool.{eqb-true}
use Rattle.ad_tree.specs.Tree.{Tree}
use Rattle.ad_tree.specs.Ad.{Attributes, lookup, with_attribute, IsFullFor}
use Rattle.ad_tree.proofs.AdLemmas.{length-with_attribute-within}
use Rattle.ad_parse.specs.declared.error.ParseError.{ParseError}
use Rattle.ad_parse.specs.declared.error.AdError.{AdError}
use Rattle.ad_parse.specs.declared.error.AdError.TheVariants as fault
use Rattle.ad_parse.specs.ExprText.{expression_at}
use Rattle.ad_parse.specs.AdText.{lines_of_text, is_skipped, setting, is_full_for, with_line, with_setting, with_expression, at_line, unless_refused, with_lines, next_number, ad_at, GivesAd, FailsAd}
use Rattle.ad_parse.specs.AdLines.{IsSkipped, IsSetting, HasRoom, AreAdLines, ended, skip, set, IsAdText, IsRefusedLine, no_setting, no_expression, no_room, IsAdRefused}
use Rattle.ad_parse.proofs.Texts.{said_is_read, cause_is_read, IsReading, is_reading}
use Rattle.ad_parse.proofs.Settings.{skipped_from, skipped_is, setting_from_parts, setting_parts, not_skipped, room_from, room_is, not_full, no_option, and_parts, not_true}
use Rattle.ad_parse.proofs.AdTexts.{line_skipped, line_set, given_is_said}

-- the number of the line k after that of number n
abbrev number_from : ℕ → ℕ → ℕ
number_from n k = min (n + k) 4294967295

-- ---- from the first line that is refused to what the definition gives

then_lines : (n : ℕ) (ad new : Attributes) (line : List ℕ) (more : List (List ℕ)) → with_line n ad line ≡ Ok new → with_lines n ad (line ∷ more) ≡ with_lines (next_number n) new more
unfolding with_lines
then_lines n ad new line more this = ap (λ r. unless_refused r (λ x. with_lines (next_number n) x more)) this

refuse_lines : (n : ℕ) (ad : Attributes) (line : List ℕ) (more : List (List ℕ)) (f : AdError) → with_line n ad line ≡ Err f → with_lines n ad (line ∷ more) ≡ Err f
unfolding with_lines
refuse_lines n ad line more f this = ap (λ r. unless_refused r (λ x. with_lines (next_number n) x more)) this

next_from : (n k m : ℕ) → m ≡ suc k → number_from (next_number n) k ≡ number_from n m
next_from n k m e = omega arith

next_small : (n : ℕ) → next_number n ≤ 4294967295
next_small n = omega arith

-- the lines that are no fault leave the others
past : (n : ℕ) (ad : Attributes) (before : List (List ℕ)) (new : Attributes) (more : List (List ℕ)) → n ≤ 4294967295 → AreAdLines ad before new → with_lines n ad (before ++ more) ≡ with_lines (number_from n (length before)) new more
past n ad _ _ more small ended = ap (λ k. with_lines k ad more) (let z : n ≡ number_from n 0 = omega arith in z)
past n ad _ new more small (skip {line = line} {more = others} is rest) =
    then_lines n ad ad line (others ++ more) (line_skipped n ad line (skipped_from line is))
    ∙ past (next_number n) ad others new more (next_small n) rest
    ∙ ap (λ k. with_lines k new more) (next_from n (length others) (suc (length others)) refl)
past n ad _ new more small (set {line = line} {name = name} {text = text} {e = e} {more = others} is says room rest) =
    then_lines n ad (with_attribute name e ad) line (others ++ more)
    (line_set n ad line name text e (not_skipped line name text is) (setting_from_parts line name text is) (said_is_read text e says) (room_is name ad room))
    ∙ past (next_number n) (with_attribute name e ad) others new more (next_small n) rest
    ∙ ap (λ k. with_lines k new more) (next_from n (length others) (suc (length others)) refl)

no_skip : (line : List ℕ) → (IsSkipped line → ⊥) → is_skipped line ≡ false
no_skip line never = by (is_skipped line) refl
  where
    by : (b : Bool) → is_skipped line ≡ b → b ≡ false
    by true is = absurd (never (skipped_is line is))
    by false is = refl

no_parts : (line : List ℕ) → ((name text : List ℕ) → IsSetting line name text → ⊥) → setting line ≡ None
no_parts line never = by (setting line) refl
  where
    by : (o : Option (List ℕ × List ℕ)) → setting line ≡ o → o ≡ None
    by None is = refl
    by (Some s) is = absurd (never s.0 s.1 (setting_parts line s.0 s.1 is))

full_is : (name : List ℕ) (ad : Attributes) → IsFullFor name ad → is_full_for name ad ≡ true
full_is name ad full = (λ i. not (is_some (full.0 i)) && nat_eq (full.1 i) 256)

line_refused : (n : ℕ) (ad : Attributes) (line : List ℕ) (f : AdError) → IsRefusedLine n ad line f → with_line n ad line ≡ Err f
line_refused n ad line _ (no_setting says_nothing is_none) =
    ap (λ b. cond b (Ok ad) (with_setting n ad (setting line))) (no_skip line says_nothing)
    ∙ ap (with_setting n ad) (no_parts line is_none)
line_refused n ad line _ (no_expression {name = name} {text = text} {f = f} is refused) =
    ap (λ b. cond b (Ok ad) (with_setting n ad (setting line))) (not_skipped line name text is)
    ∙ ap (with_setting n ad) (setting_from_parts line name text is)
    ∙ ap (λ r. unless_refused (at_line n r) (with_expression n ad name)) (cause_is_read text f refused)
line_refused n ad line _ (no_room {name = name} {text = text} {e = e} is says full) =
    ap (λ b. cond b (Ok ad) (with_setting n ad (setting line))) (not_skipped line name text is)
    ∙ ap (with_setting n ad) (setting_from_parts line name text is)
    ∙ ap (λ r. unless_refused (at_line n r) (with_expression n ad name)) (said_is_read text e says)
    ∙ ap (λ b. cond b (Err (fault.Full n)) (Ok (with_attribute name e ad))) (full_is name ad full)

pub refused_is_given : (text : List ℕ) (f : AdError) → IsAdRefused text f → ad_at text ≡ Err f
refused_is_given text f is =
    ap (with_lines 1 []) is.parts
    ∙ past 1 [] is.before is.ad (is.line ∷ is.later) (omega arith) is.so_far
    ∙ refuse_lines (number_from 1 (length is.before)) is.ad is.line is.later f (line_refused (number_from 1 (length is.before)) is.ad is.line f is.refused)

-- ---- and back

-- the first line that is refused, of those from number n on
record Refusal (n : ℕ) (ad : Attributes) (ls : List (List ℕ)) (f : AdError) : Type 0 where
  before : List (List ℕ)
  line : List ℕ
  later : List (List ℕ)
  new : Attributes
  parts : ls ≡ before ++ line ∷ later
  so_far : AreAdLines ad before new
  refused : IsRefusedLine (number_from n (length before)) new line f

full_from : (name : List ℕ) (ad : Attributes) → is_full_for name ad ≡ true → IsFullFor name ad
full_from name ad h =
    let p = and_parts (not (is_some (lookup name ad))) _ h in
    (no_option (lookup name ad) (not_true _ p.0), eqb-true (length ad) 256 p.1)

err_same : (f g : AdError) → (let r : Result Attributes AdError = Err f in r) ≡ Err g → f ≡ g
err_same f g e = ap in_err e
  where
    in_err : Result Attributes AdError → AdError
    in_err (Ok z) = f
    in_err (Err h) = h

module _ (n : ℕ) (small : n ≤ 4294967295) (ad : Attributes) (line : List ℕ) (more : List (List ℕ)) (f : AdError) (within : length ad ≤ 256)
    (onward : (x : Attributes) → length x ≤ 256 → with_lines (next_number n) x more ≡ Err f → Refusal (next_number n) x more f) where
  here : (g : AdError) → IsRefusedLine n ad line g → (let r : Result Attributes AdError = Err g in r) ≡ Err f → Refusal n ad (line ∷ more) f
  here g is h =
      let same : n ≡ number_from n 0 = omega arith in
      record {
        before = [];
        line = line;
        later = more;
        new = ad;
        parts = refl;
        so_far = ended;
        refused = subst (λ k. IsRefusedLine k ad line f) same (subst (λ e. IsRefusedLine n ad line e) (err_same g f h) is);
      }

  there : (new : Attributes) → ((last : Attributes) (others : List (List ℕ)) → AreAdLines new others last → AreAdLines ad (line ∷ others) last) → Refusal (next_number n) new more f → Refusal n ad (line ∷ more) f
  there new step r = record {
    before = line ∷ r.before;
    line = r.line;
    later = r.later;
    new = r.new;
    parts = ap (λ l. line ∷ l) r.parts;
    so_far = step r.new r.before r.so_far;
    refused = subst (λ k. IsRefusedLine k r.new r.line f) (next_from n (length r.before) (suc (length r.before)) refl) r.refused;
  }

  abbrev Ends : Result Attributes AdError → Type 0
  Ends r = unless_refused r (λ x. with_lines (next_number n) x more) ≡ Err f → Refusal n ad (line ∷ more) f

  with_read : (name text : List ℕ) → IsSetting line name text → (r : Result Tree ParseError) → IsReading text r → Ends (unless_refused (at_line n r) (with_expression n ad name))
  with_read name text is (Err g) says = here (fault.Expr n g) (no_expression is says)
  with_read name text is (Ok e) says = by (is_full_for name ad) refl
    where
      by : (b : Bool) → is_full_for name ad ≡ b → Ends (cond b (Err (fault.Full n)) (Ok (with_attribute name e ad)))
      by true full = here (fault.Full n) (no_room is says (full_from name ad full))
      by false more_fit =
          let room : HasRoom name ad = room_from name ad within more_fit in
          λ h. there (with_attribute name e ad) (λ last others rest. set is says room rest) (onward (with_attribute name e ad) (length-with_attribute-within name e ad (not_full name ad room) within) h)

  with_parts : (o : Option (List ℕ × List ℕ)) → setting line ≡ o → is_skipped line ≡ false → Ends (with_setting n ad o)
  with_parts None is other =
      here (fault.BadLine n) (no_setting (λ skips. let z : true ≡ false = sym (skipped_from line skips) ∙ other in cc) (λ name text sets. let z : None ≡ Some (name, text) = sym is ∙ setting_from_parts line name text sets in cc))
  with_parts (Some s) is other = with_read s.0 s.1 (setting_parts line s.0 s.1 is) (expression_at s.1) (is_reading s.1)

  with_any : (b : Bool) → is_skipped line ≡ b → Ends (cond b (Ok ad) (with_setting n ad (setting line)))
  with_any true is = λ h. there ad (λ last others rest. skip (skipped_is line is) rest) (onward ad within h)
  with_any false is = with_parts (setting line) refl is

refusal_from : (n : ℕ) (ad : Attributes) (ls : List (List ℕ)) (f : AdError) → n ≤ 4294967295 → length ad ≤ 256 → with_lines n ad ls ≡ Err f → Refusal n ad ls f
unfolding with_lines
refusal_from n ad [] f small within h = absurd (let z = h in cc)
refusal_from n ad (line ∷ more) f small within h = with_any n small ad line more f within (λ x fits. refusal_from (next_number n) x more f (next_small n) fits) (is_skipped line) refl h

pub given_is_refused : (text : List ℕ) (f : AdError) → ad_at text ≡ Err f → IsAdRefused text f
given_is_refused text f h =
    let r = refusal_from 1 [] (lines_of_text text) f (omega arith) (omega arith) h in
    record {
      before = r.before;
      line = r.line;
      later = r.later;
      ad = r.new;
      parts = r.parts;
      so_far = r.so_far;
      refused = r.refused;
    }

-- ---- what a function gives that gives what the definition does

pub found_by : (text : List ℕ) (r : Result Attributes AdError) → GivesAd (λ a. a) r (ad_at text) → IfOk r (λ ad. IsAdText text ad)
found_by text (Ok ad) gives = given_is_said text ad gives
found_by text (Err f) gives = tt

refused_by : (text : List ℕ) (f : AdError) → FailsAd f (ad_at text) → f ≢ fault.Memory → IsAdRefused text f
refused_by text fault.Memory fails other = absurd (other refl)
refused_by text (fault.BadLine n) fails other = given_is_refused text (fault.BadLine n) fails
refused_by text (fault.Expr n e) fails other = given_is_refused text (fault.Expr n e) fails
refused_by text (fault.Full n) fails other = given_is_refused text (fault.Full n) fails

pub refused_if_err : (text : List ℕ) (r : Result Attributes AdError) → GivesAd (λ a. a) r (ad_at text) → IfErr r (λ f. f ≢ fault.Memory → IsAdRefused text f)
refused_if_err text (Ok ad) gives = tt
refused_if_err text (Err f) gives = refused_by text f gives
