-- The laws of lines, words and expansions.
use Rattle.std.proofs.Common.{◌≡◌, ℕ, suc, ◌+◌, ◌==◌, Bool, true, false, cond, List, [], ◌∷◌, ◌++◌, map, Some, refl, ap, sym, ◌∙◌, subst, append_assoc, arith}
use Rattle.std.specs.Prelude.{encode_utf8}
use Rattle.std.specs.Option.{option_map}
use Rattle.std.proofs.lemmas.Bool.{eqb-true}
use Rattle.line_text.specs.declared.logical.Line.{Line}
use Rattle.line_text.specs.declared.words.Place.TheVariants.{Between, Quoted, Closing}
use Rattle.line_text.specs.Lines.{logical_from, says_nothing, ends_in_backslash, without_last, kept, next_number}
use Rattle.line_text.specs.LogicalLines.{Joins, none, last, goes_on, MakeLines, ended, silent, told, line_number}
use Rattle.line_text.specs.Quoting.{doubled, quoted_words, word_bytes}
use Rattle.line_text.specs.Words.{words_from, is_between, word_at, with_part}
use Rattle.line_text.specs.Macros.{Macros}
use Rattle.line_text.specs.References.{Reference, refers, following, stretch}
use Rattle.line_text.specs.References as refs
use Rattle.line_text.specs.Expansion.{piece, put_in, joined, Expands, plain, replaced, IsExpansion}
use Rattle.line_text.proofs.Pieces.{append_none}
use Rattle.line_text.proofs.WordLemmas.{words_step}

-- ---- lines

-- what is read from a logical line on that has begun
record Rest (first n : ℕ) (begun : List ℕ) (lines : List (List ℕ)) : Type 0 where
  text : List ℕ
  count : ℕ
  more : List (List ℕ)
  made : List Line
  joins : Joins lines text count more
  read : logical_from (line_number first) (line_number n) begun lines ≡ kept (line_number first) (begun ++ text) ++ made
  rest : MakeLines (n + count) more made

from_start : (n : ℕ) (lines : List (List ℕ)) → ((first m : ℕ) (begun : List ℕ) → Rest first m begun lines) → MakeLines n lines (logical_from (line_number n) (line_number n) [] lines)
unfolding logical_from
from_start n [] all = ended
from_start n (line ∷ lines) all = by (says_nothing r.text) refl
  where
    r : Rest n n [] (line ∷ lines)
    r = all n n []

    by : (b : Bool) → says_nothing r.text ≡ b → MakeLines n (line ∷ lines) (logical_from (line_number n) (line_number n) [] (line ∷ lines))
    by true e = subst (MakeLines n (line ∷ lines)) (sym (r.read ∙ ap (λ b. cond b [] (record { number = line_number n; text = r.text } ∷ []) ++ r.made) e)) (silent r.joins e r.rest)
    by false e = subst (MakeLines n (line ∷ lines)) (sym (r.read ∙ ap (λ b. cond b [] (record { number = line_number n; text = r.text } ∷ []) ++ r.made) e)) (told r.joins e r.rest)

rest_of : (lines : List (List ℕ)) (first n : ℕ) (begun : List ℕ) → Rest first n begun lines
unfolding logical_from
rest_of [] first n begun = record {
  text = [];
  count = 0;
  more = [];
  made = [];
  joins = none;
  read = ap (kept (line_number first)) (sym (append_none begun)) ∙ sym (append_none (kept (line_number first) (begun ++ [])));
  rest = ended;
}
rest_of (line ∷ lines) first n begun = by (ends_in_backslash line) refl (rest_of lines)
  where
    next : next_number (line_number n) ≡ line_number (n + 1)
    next = omega arith

    by : (b : Bool) → ends_in_backslash line ≡ b → ((f m : ℕ) (begun : List ℕ) → Rest f m begun lines) → Rest first n begun (line ∷ lines)
    by false e all = record {
      text = line;
      count = 1;
      more = lines;
      made = logical_from (line_number (n + 1)) (line_number (n + 1)) [] lines;
      joins = last e;
      read =
          ap (λ b. cond b (logical_from (line_number first) (next_number (line_number n)) (begun ++ without_last line) lines) (kept (line_number first) (begun ++ line) ++ logical_from (next_number (line_number n)) (next_number (line_number n)) [] lines)) e
          ∙ ap (λ m. kept (line_number first) (begun ++ line) ++ logical_from m m [] lines) next;
      rest = from_start (n + 1) lines all;
    }
    by true e all =
        let r = all first (n + 1) (begun ++ without_last line) in
        record {
          text = without_last line ++ r.text;
          count = suc r.count;
          more = r.more;
          made = r.made;
          joins = goes_on e r.joins;
          read =
              ap (λ b. cond b (logical_from (line_number first) (next_number (line_number n)) (begun ++ without_last line) lines) (kept (line_number first) (begun ++ line) ++ logical_from (next_number (line_number n)) (next_number (line_number n)) [] lines)) e
              ∙ ap (λ m. logical_from (line_number first) m (begun ++ without_last line) lines) next
              ∙ r.read
              ∙ ap (λ x. kept (line_number first) x ++ r.made) (append_assoc begun (without_last line) r.text);
          rest = subst (λ k. MakeLines k r.more r.made) (let e : (n + 1) + r.count ≡ n + suc r.count = omega arith in e) r.rest;
        }

pub made_from : (lines : List (List ℕ)) → MakeLines 1 lines (logical_from 1 1 [] lines)
made_from lines = from_start 1 lines (rest_of lines)

-- ---- words
in_quotes : (w acc cs : List ℕ) → words_from true Quoted acc (doubled w ++ (39 ∷ cs)) ≡ words_from true Closing (acc ++ word_bytes w) cs
in_quotes [] acc cs = words_step true Quoted acc 39 cs ∙ ap (λ a. words_from true Closing a cs) (sym (append_none acc))
in_quotes (c ∷ w) acc cs = by (c == 39) refl (in_quotes w (acc ++ encode_utf8 c) cs)
  where
    after : List ℕ
    after = doubled w ++ (39 ∷ cs)

    grouped : (acc ++ encode_utf8 c) ++ word_bytes w ≡ acc ++ (encode_utf8 c ++ word_bytes w)
    grouped = append_assoc acc (encode_utf8 c) (word_bytes w)

    by : (b : Bool) → (c == 39) ≡ b → words_from true Quoted (acc ++ encode_utf8 c) (doubled w ++ (39 ∷ cs)) ≡ words_from true Closing ((acc ++ encode_utf8 c) ++ word_bytes w) cs → words_from true Quoted acc (cond b (c ∷ c ∷ doubled w) (c ∷ doubled w) ++ (39 ∷ cs)) ≡ words_from true Closing (acc ++ (encode_utf8 c ++ word_bytes w)) cs
    by false e rest =
        words_step true Quoted acc c (doubled w ++ (39 ∷ cs))
        ∙ ap (λ b. cond (is_between (cond b Closing Quoted)) (option_map (λ ws. word_at Quoted acc ++ ws) (words_from true Between [] (doubled w ++ (39 ∷ cs)))) (words_from true (cond b Closing Quoted) (with_part Quoted (cond b Closing Quoted) acc c) (doubled w ++ (39 ∷ cs)))) e
        ∙ rest ∙ ap (λ a. words_from true Closing a cs) grouped
    by true e rest =
        ap (λ k. words_from true Quoted acc (k ∷ k ∷ (doubled w ++ (39 ∷ cs)))) (eqb-true c 39 e)
        ∙ words_step true Quoted acc 39 (39 ∷ (doubled w ++ (39 ∷ cs)))
        ∙ words_step true Closing acc 39 (doubled w ++ (39 ∷ cs))
        ∙ ap (λ k. words_from true Quoted (acc ++ encode_utf8 k) (doubled w ++ (39 ∷ cs))) (sym (eqb-true c 39 e))
        ∙ rest ∙ ap (λ a. words_from true Closing a cs) grouped

pub words_read : (ws : List (List ℕ)) → words_from true Between [] (quoted_words ws) ≡ Some (map word_bytes ws)
unfolding words_from
words_read [] = refl
words_read (w ∷ ws) =
    words_step true Between [] 39 (doubled w ++ (39 ∷ 32 ∷ quoted_words ws))
    ∙ in_quotes w [] (32 ∷ quoted_words ws)
    ∙ words_step true Closing (word_bytes w) 32 (quoted_words ws)
    ∙ ap (option_map (λ l. word_bytes w ∷ l)) (words_read ws)

-- ---- expansions
abbrev pub name_in : Reference → List ℕ
name_in refs.ended = []
name_in refs.broken = []
name_in (refs.refers n d r) = n

abbrev pub default_in : Reference → List ℕ
default_in refs.ended = []
default_in refs.broken = []
default_in (refs.refers n d r) = d

abbrev pub rest_in : Reference → List ℕ
rest_in refs.ended = []
rest_in refs.broken = []
rest_in (refs.refers n d r) = r

apart : (x : Reference) (n d r : List ℕ) → x ≡ refs.ended → x ≡ refers n d r → ⊥
apart x n d r e f = cc

pub pieces_are_one : (t : Macros) (text : List ℕ) (ss ts : List (List ℕ)) → Expands t text ss → Expands t text ts → ss ≡ ts
pieces_are_one t text _ _ (plain e) (plain f) = refl
pieces_are_one t text _ _ (plain e) (replaced {name = n} {default = d} {rest = r} f g h) = absurd (apart (following text) n d r e f)
pieces_are_one t text _ _ (replaced {name = n} {default = d} {rest = r} f g h) (plain e) = absurd (apart (following text) n d r e f)
pieces_are_one t text _ _ (replaced {name = n} {default = d} {rest = r} {ss = ss} {ts = ts} f g h) (replaced {name = m} {default = e} {rest = s} {ss = us} {ts = vs} k i j) =
    let same : refers n d r ≡ refers m e s = sym f ∙ k in
    let value : put_in t n d ≡ put_in t m e = (λ q. put_in t (name_in (same q)) (default_in (same q))) in
    let first : ss ≡ us = pieces_are_one t (put_in t n d) ss us g (subst (λ x. Expands t x us) (sym value) i) in
    let second : ts ≡ vs = pieces_are_one t r ts vs h (subst (λ x. Expands t x vs) (sym (ap rest_in same)) j) in
    (λ q. piece (stretch text) ++ (first q ++ second q))

pub texts_are_one : (t : Macros) (text x y : List ℕ) → IsExpansion t text x → IsExpansion t text y → x ≡ y
texts_are_one t text x y a b = a.is ∙ ap joined (pieces_are_one t text a.pieces b.pieces a.written b.written) ∙ sym b.is
