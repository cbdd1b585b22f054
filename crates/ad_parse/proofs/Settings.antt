-- A line as it is put together, and as it is read.
use Rattle.std.proofs.Common.{◌≡◌, inl, inr, ℕ, zero, suc, ◌-◌, ◌<◌, ◌≤◌, ◌==◌, ◌&&◌, ◌||◌, not, nat_eq, Bool, true, false, cond, List, [], ◌∷◌, ◌++◌, length, take, drop, get_or, Option, Some, None, is_some, refl, ap, sym, ◌∙◌, subst, arith}
use Rattle.std.proofs.Math.Seq.{drop-append_seam, take-append_seam}
use Rattle.std.proofs.lemmas.Bool.{eqb-true, eqb-false}
use Rattle.std.proofs.lemmas.Bool.Decides.{nat_tests}
use Rattle.std.proofs.lemmas.List.{length-append, length-drop, get_or-take, get_or_append_left, take-append-drop}
use Rattle.std.proofs.lemmas.List.Sums.{prefix_len_passes}
use Rattle.std.specs.List.{prefix_len, suffix_len}
use Rattle.ad_tree.specs.Ad.{Attributes, lookup}
use Rattle.ad_token.specs.Names.{is_letter, is_name_byte, name_length, leading_name, is_name}
use Rattle.ad_token.specs.Lexing.{is_blank}
use Rattle.ad_token.specs.Blanks.{past_blanks, trimmed_end, trimmed_text}
use Rattle.ad_parse.specs.AdText.{is_skipped, around_sign, setting_from, setting, is_full_for}
use Rattle.ad_parse.specs.AdLines.{AreBlanks, IsSkipped, blank, comment, IsTrimmed, IsSetting, HasRoom}
use Rattle.ad_token.proofs.Pieces.{NameParts, name_parts_from, run_append}
use Rattle.ad_parse.proofs.Passing.{past_run, before_run, all_append, past_whole, start_passes, start_stops, end_passes, end_stops}

-- ---- tests

or_right : (a b : Bool) → b ≡ true → (a || b) ≡ true
or_right true b h = refl
or_right false b h = h

or_left : (a b : Bool) → a ≡ true → (a || b) ≡ true
or_left true b h = refl
or_left false b h = absurd (let z : false ≡ true = h in cc)

or_none : (a b : Bool) → a ≡ false → b ≡ false → (a || b) ≡ false
or_none a b g h = ap (λ x. x || b) g ∙ h

pub and_parts : (a b : Bool) → (a && b) ≡ true → (a ≡ true) × (b ≡ true)
and_parts true b h = (refl, h)
and_parts false b h = absurd (let z : false ≡ true = h in cc)

and_both : (a b : Bool) → a ≡ true → b ≡ true → (a && b) ≡ true
and_both a b g h = ap (λ x. x && b) g ∙ h

pub not_true : (a : Bool) → not a ≡ true → a ≡ false
not_true true h = absurd (let z : false ≡ true = h in cc)
not_true false h = refl

eq_true : (m n : ℕ) → m ≡ n → (m == n) ≡ true
eq_true m n h = grind (arith, nat_tests)

eq_false : (m n : ℕ) → (m ≡ n → ⊥) → (m == n) ≡ false
eq_false m n h = by (m == n) refl
  where
    by : (b : Bool) → (m == n) ≡ b → b ≡ false
    by true e = absurd (h (eqb-true m n e))
    by false e = refl

pub no_option : {A : Type 0} (o : Option A) → is_some o ≡ false → o ≡ None
no_option None h = refl
no_option (Some x) h = absurd (let z : true ≡ false = h in cc)

-- ---- the first byte of a text, 0 where there is none

first_no_blank : (bs : List ℕ) → (0 < length bs → is_blank (get_or bs 0 0) ≡ false) → is_blank (get_or bs 0 0) ≡ false
first_no_blank [] h = refl
first_no_blank (b ∷ bs) h = h (omega arith)

last_no_blank : (bs : List ℕ) → (0 < length bs → is_blank (get_or bs (length bs - 1) 0) ≡ false) → is_blank (get_or bs (length bs - 1) 0) ≡ false
last_no_blank [] h = refl
last_no_blank (b ∷ bs) h = h (omega arith)

first_kept : (m : ℕ) (bs : List ℕ) → is_blank (get_or bs 0 0) ≡ false → is_blank (get_or (take m bs) 0 0) ≡ false
first_kept zero bs h = refl
first_kept (suc m) bs h = subst (λ b. is_blank b ≡ false) (sym (get_or-take (suc m) bs 0 0 (omega arith))) h

letter_is_no_blank : (b : ℕ) → is_letter b ≡ true → is_blank b ≡ false
letter_is_no_blank b h = grind (arith, nat_tests)

blank_or_sign : (bs ys : List ℕ) → AreBlanks bs → is_name_byte (get_or (bs ++ 61 ∷ ys) 0 0) ≡ false
blank_or_sign [] ys h = refl
blank_or_sign (b ∷ bs) ys h = blank_no_name b (h 0 0 (omega arith))
  where
    blank_no_name : (c : ℕ) → is_blank c ≡ true → is_name_byte c ≡ false
    blank_no_name c e = grind (arith, nat_tests)

-- ---- lines that are skipped

pub skipped_from : (line : List ℕ) → IsSkipped line → is_skipped line ≡ true
skipped_from line (blank all) =
    or_right (get_or line 0 0 == 35) (nat_eq (length (past_blanks line)) 0) (eq_true _ _ (ap length (past_whole is_blank line all)))
skipped_from line (comment is) = or_left (get_or line 0 0 == 35) (nat_eq (length (past_blanks line)) 0) (eq_true _ _ is)

pub skipped_is : (line : List ℕ) → is_skipped line ≡ true → IsSkipped line
skipped_is line = by (get_or line 0 0 == 35) refl
  where
    blanks : (length (past_blanks line) == 0) ≡ true → AreBlanks line
    blanks none k d less =
        let gone : length (past_blanks line) ≡ 0 = eqb-true _ _ none in
        prefix_len_passes is_blank line k d (omega (arith, length-drop (prefix_len is_blank line) line))

    by : (b : Bool) → (get_or line 0 0 == 35) ≡ b → (b || nat_eq (length (past_blanks line)) 0) ≡ true → IsSkipped line
    by true e h = comment (eqb-true _ _ e)
    by false e h = blank (blanks h)

-- ---- a line that sets an attribute

module _ (line name text : List ℕ) (is : IsSetting line name text) where
  abbrev tail : List ℕ
  tail = is.after_name ++ (61 ∷ (is.before_text ++ (text ++ is.after_text)))

  whole : line ≡ is.before_name ++ (name ++ tail)
  whole = is.parts

  name_is : NameParts name
  name_is = name_parts_from name is.name_fits

  some : 0 < length name
  some = by name name_is.letter
    where
      by : (n : List ℕ) → is_letter (get_or n 0 0) ≡ true → 0 < length n
      by [] h = absurd (let z : false ≡ true = h in cc)
      by (b ∷ n) h = omega arith

  first_letter : is_letter (get_or (name ++ tail) 0 0) ≡ true
  first_letter = subst (λ b. is_letter b ≡ true) (sym (get_or_append_left name tail 0 0 some)) name_is.letter

  past : past_blanks line ≡ name ++ tail
  past = ap past_blanks whole ∙ past_run is_blank is.before_name (name ++ tail) is.blanks.0 (λ _. letter_is_no_blank (get_or (name ++ tail) 0 0) first_letter)

  long : name_length (name ++ tail) ≡ length name
  long = ap (λ b. cond b (prefix_len is_name_byte (name ++ tail)) 0) first_letter ∙ run_append is_name_byte name tail name_is.bytes (blank_or_sign is.after_name _ is.blanks.1)

  after_its_name : past_blanks (drop (name_length (name ++ tail)) (name ++ tail)) ≡ 61 ∷ (is.before_text ++ (text ++ is.after_text))
  after_its_name = ap (λ n. past_blanks (drop n (name ++ tail))) long ∙ ap past_blanks (drop-append_seam name tail) ∙ past_run is_blank is.after_name _ is.blanks.1 (λ _. refl)

  its_name : leading_name (name ++ tail) ≡ name
  its_name = ap (λ n. take n (name ++ tail)) long ∙ take-append_seam name tail

  its_text : trimmed_text (is.before_text ++ (text ++ is.after_text)) ≡ text
  its_text = by text is.text_fits
    where
      by : (t : List ℕ) → IsTrimmed t → trimmed_text (is.before_text ++ (t ++ is.after_text)) ≡ t
      by [] h = ap trimmed_end (past_whole is_blank (is.before_text ++ is.after_text) (all_append is_blank is.before_text is.after_text is.blanks.2 is.blanks.3))
      by (b ∷ t) h =
          ap trimmed_end (past_run is_blank is.before_text ((b ∷ t) ++ is.after_text) is.blanks.2 (λ _. h.begins))
          ∙ before_run is_blank (b ∷ t) is.after_text is.blanks.3 (λ _. h.ends)

  pub setting_from_parts : setting line ≡ Some (name, text)
  setting_from_parts =
      ap setting_from past
      ∙ ap (λ n. around_sign n (past_blanks (drop (name_length (name ++ tail)) (name ++ tail)))) its_name
      ∙ ap (around_sign name) after_its_name
      ∙ ap (λ b. cond b (Some (name, trimmed_text (is.before_text ++ (text ++ is.after_text)))) None) (and_both (is_name name) true is.name_fits refl)
      ∙ ap (λ t. Some (name, t)) its_text

  first_no_hash : get_or line 0 0 ≡ 35 → ⊥
  first_no_hash e = by is.before_name is.blanks.0 (sym (ap (λ l. get_or l 0 0) whole) ∙ e)
    where
      blank_no_hash : (c : ℕ) → is_blank c ≡ true → c ≡ 35 → ⊥
      blank_no_hash c h g = grind (arith, nat_tests)

      letter_no_hash : (c : ℕ) → is_letter c ≡ true → c ≡ 35 → ⊥
      letter_no_hash c h g = let z : is_letter 35 ≡ true = subst (λ x. is_letter x ≡ true) g h in cc

      by : (bs : List ℕ) → AreBlanks bs → get_or (bs ++ (name ++ tail)) 0 0 ≡ 35 → ⊥
      by [] all = letter_no_hash _ first_letter
      by (b ∷ bs) all = blank_no_hash b (all 0 0 (omega arith))

  pub not_skipped : is_skipped line ≡ false
  not_skipped =
      or_none (get_or line 0 0 == 35) (nat_eq (length (past_blanks line)) 0) (eq_false _ _ first_no_hash)
      (eq_false _ _ (λ e. omega (arith, ap length past, length-append name tail, some)))

-- ---- a line that is read as one

some_is : {A : Type 0} (x y : A) → Some x ≡ Some y → x ≡ y
some_is {A} x y e = ap in_some e
  where
    in_some : Option A → A
    in_some None = x
    in_some (Some z) = z

sign_first : (l : List ℕ) → get_or l 0 0 ≡ 61 → l ≡ 61 ∷ drop 1 l
sign_first [] h = absurd (omega (arith, h))
sign_first (b ∷ l) h = ap (λ c. c ∷ l) h

abbrev bytes_after : List ℕ → List ℕ
bytes_after bs = past_blanks (drop (name_length bs) bs)

abbrev text_of : List ℕ → List ℕ
text_of bs = past_blanks (drop 1 (bytes_after bs))

module _ (line bs : List ℕ) (past : bs ≡ past_blanks line) (good : is_name (leading_name bs) ≡ true) (sign : get_or (bytes_after bs) 0 0 ≡ 61) where
  back : (q : List ℕ) → q ≡ trimmed_end q ++ drop (length q - suffix_len is_blank q) q
  back q = sym (take-append-drop (length q - suffix_len is_blank q) q)

  front : (l : List ℕ) → l ≡ take (prefix_len is_blank l) l ++ past_blanks l
  front l = sym (take-append-drop (prefix_len is_blank l) l)

  read_parts : IsSetting line (leading_name bs) (trimmed_end (text_of bs))
  read_parts =
      let gap = drop (name_length bs) bs in
      let rest = drop 1 (bytes_after bs) in
      let q = text_of bs in
      record {
        before_name = take (prefix_len is_blank line) line;
        after_name = take (prefix_len is_blank gap) gap;
        before_text = take (prefix_len is_blank rest) rest;
        after_text = drop (length q - suffix_len is_blank q) q;
        parts =
            front line ∙ ap (λ l. take (prefix_len is_blank line) line ++ l) (sym past ∙ sym (take-append-drop (name_length bs) bs)
            ∙ ap (λ l. leading_name bs ++ l) (front gap
            ∙ ap (λ l. take (prefix_len is_blank gap) gap ++ l) (sign_first (bytes_after bs) sign
            ∙ ap (λ l. 61 ∷ l) (front rest ∙ ap (λ l. take (prefix_len is_blank rest) rest ++ l) (back q)))));
        blanks = (start_passes is_blank line, start_passes is_blank gap, start_passes is_blank rest, end_passes is_blank q);
        name_fits = good;
        text_fits = record {
          begins = first_kept (length q - suffix_len is_blank q) q (first_no_blank q (start_stops is_blank rest));
          ends = last_no_blank (trimmed_end q) (end_stops is_blank q);
        };
      }

abbrev reading_of : List ℕ → List ℕ × List ℕ
reading_of line = (leading_name (past_blanks line), trimmed_end (text_of (past_blanks line)))

pub setting_parts : (line name text : List ℕ) → setting line ≡ Some (name, text) → IsSetting line name text
setting_parts line name text = by (is_name (leading_name (past_blanks line)) && (get_or (bytes_after (past_blanks line)) 0 0 == 61)) refl
  where
    by : (b : Bool) → (is_name (leading_name (past_blanks line)) && (get_or (bytes_after (past_blanks line)) 0 0 == 61)) ≡ b → cond b (Some (reading_of line)) None ≡ Some (name, text) → IsSetting line name text
    by true e h =
        let p = and_parts (is_name (leading_name (past_blanks line))) _ e in
        subst (λ s. IsSetting line s.0 s.1) (some_is (reading_of line) (name, text) h) (read_parts line (past_blanks line) refl p.0 (eqb-true _ _ p.1))
    by false e h = absurd (let z : None ≡ Some (name, text) = h in cc)

-- ---- room for a name

and_right : (a b : Bool) → b ≡ false → (a && b) ≡ false
and_right true b h = h
and_right false b h = refl

pub room_is : (name : List ℕ) (ad : Attributes) → HasRoom name ad → is_full_for name ad ≡ false
room_is name ad (inl there) = ap (λ b. not b && nat_eq (length ad) 256) there
room_is name ad (inr less) = and_right (not (is_some (lookup name ad))) _ (eq_false (length ad) 256 (λ e. omega (arith, e)))

pub room_from : (name : List ℕ) (ad : Attributes) → length ad ≤ 256 → is_full_for name ad ≡ false → HasRoom name ad
room_from name ad within = by (is_some (lookup name ad)) refl
  where
    by : (b : Bool) → is_some (lookup name ad) ≡ b → (not b && nat_eq (length ad) 256) ≡ false → HasRoom name ad
    by true e h = inl e
    by false e h = inr (omega (arith, eqb-false (length ad) 256 h))

pub not_full : (name : List ℕ) (ad : Attributes) → HasRoom name ad → (lookup name ad ≡ None) × (length ad ≡ 256) → ⊥
not_full name ad (inl there) h = let z : false ≡ true = sym (ap is_some h.0) ∙ there in cc
not_full name ad (inr less) h = omega (arith, h.1)
