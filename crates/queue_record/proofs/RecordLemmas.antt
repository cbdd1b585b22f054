-- A line says what the function of its bytes gives.
use Rattle.std.proofs.Common.{◌≡◌, ℕ, suc, ◌+◌, ◌&&◌, codes, Bool, true, false, cond, List, [], ◌∷◌, ◌++◌, drop, map, Option, Some, None, Result, Ok, Err, refl, ap, sym, ◌∙◌, subst, arith}
use Rattle.std.specs.Option.{option_map}
use Rattle.std.specs.List.{prefix_len}
use Rattle.std.specs.Str.{IsUtf8, is_utf8, bytes_eq}
use Rattle.std.specs.Cmp.Lexicographic.{bytes_decides}
use Rattle.std.proofs.lemmas.Str.{IsUtf8-from_is_utf8, is_utf8-from_IsUtf8}
use Rattle.ad_tree.specs.Tree.{Tree}
use Rattle.ad_token.specs.Lexing.{is_blank, tokens_of}
use Rattle.ad_token.specs.Blanks.{past_blanks}
use Rattle.ad_token.specs.Canonical.{tokens_in, token_of}
use Rattle.ad_token.specs.Names.{is_name}
use Rattle.ad_token.proofs.Turns.{tokens_blank}
use Rattle.ad_token.proofs.Joined.{kinds_anywhere}
use Rattle.ad_parse.specs.declared.error.ParseError.{ParseError}
use Rattle.ad_parse.specs.Grammar.{IsText, IsCond}
use Rattle.ad_parse.specs.ExprText.{IsExprText, expression_at}
use Rattle.ad_parse.proofs.Moved.{moved_cond, no_tokens}
use Rattle.ad_parse.proofs.Texts.{said_is_read, found_by}
use Rattle.queue_tx.specs.declared.key.Key.{Key}
use Rattle.queue_tx.specs.Operations.{Operation, new_ad, destroy_ad, set_attr, delete_attr}
use Rattle.queue_record.specs.Keys.{IsKeyWord}
use Rattle.queue_record.specs.Words.{first_word, past_word, begins_blank, are_blanks, with_word, at_end}
use Rattle.queue_record.specs.Entries.{Entry, begins, ends, does, stamped, new_at, new_with, new_from, destroy_at, set_at, set_with, set_from, set_to, delete_at, delete_with, delete_from, tree_in, is_numeral, sequence_of, stamp_at, stamp_of, entry_by, entry_at}
use Rattle.queue_record.specs.Records.{AreBlanks, IsWordBefore, IsNextWord, AreWordsBefore, AreKinds, neither, one, both, code_of, SaysAfter, Record}
use Rattle.queue_record.proofs.RecordWords.{first_and_rest, word_cut, first_word_is, with_is, is_with, key_with, is_key_with, at_end_is, is_at_end, blank_word}

-- ---- a new ad

new_blank : (key : Key) (rest : List ℕ) → AreBlanks rest → new_with key rest ≡ Some (new_ad key [] [])
new_blank key rest blanks = ap (λ (t : Bool). cond t (Some (new_ad key [] [])) (with_word rest (new_from key))) blanks

from_blank : (key : Key) (kind rest : List ℕ) → AreBlanks rest → new_from key kind rest ≡ Some (new_ad key kind [])
from_blank key kind rest blanks = ap (λ (t : Bool). cond t (Some (new_ad key kind [])) (with_word rest (λ other after. at_end after (new_ad key kind other)))) blanks

from_word : (key : Key) (kind rest other after : List ℕ) → IsNextWord rest other after → AreBlanks after → new_from key kind rest ≡ Some (new_ad key kind other)
from_word key kind rest other after is blanks = by (are_blanks rest) refl
  where
    by : (t : Bool) → are_blanks rest ≡ t → new_from key kind rest ≡ Some (new_ad key kind other)
    by true e = from_blank key kind rest e ∙ ap (λ (w : List ℕ). Some (new_ad key kind w)) (sym (blank_word rest other after is e).0)
    by false e =
        ap (λ (t : Bool). cond t (Some (new_ad key kind [])) (with_word rest (λ other after. at_end after (new_ad key kind other)))) e
        ∙ with_is (λ other after. at_end after (new_ad key kind other)) rest other after is
        ∙ at_end_is after (new_ad key kind other) blanks

new_words : (key : Key) (rest : List ℕ) (words : List (List ℕ)) (kind other after : List ℕ) → AreWordsBefore rest words after → AreBlanks after → AreKinds words kind other
    → new_with key rest ≡ Some (new_ad key kind other)
new_words key rest _ _ _ after same blanks neither = new_blank key rest (ap are_blanks same ∙ blanks)
new_words key rest _ _ _ after w blanks (one {kind = kind}) = by (are_blanks rest) refl
  where
    next : AreBlanks w.0
    next = ap are_blanks w.1.1 ∙ blanks

    by : (t : Bool) → are_blanks rest ≡ t → new_with key rest ≡ Some (new_ad key kind [])
    by true e = new_blank key rest e ∙ ap (λ (k : List ℕ). Some (new_ad key k [])) (sym (blank_word rest kind w.0 w.1.0 e).0)
    by false e =
        ap (λ (t : Bool). cond t (Some (new_ad key [] [])) (with_word rest (new_from key))) e
        ∙ with_is (new_from key) rest kind w.0 w.1.0
        ∙ from_blank key kind w.0 next
new_words key rest _ _ _ after w blanks (both {kind = kind} {other = other}) = by (are_blanks rest) refl
  where
    second : IsNextWord w.0 other w.1.1.0
    second = w.1.1.1.0

    last : AreBlanks w.1.1.0
    last = ap are_blanks w.1.1.1.1 ∙ blanks

    by : (t : Bool) → are_blanks rest ≡ t → new_with key rest ≡ Some (new_ad key kind other)
    by true e =
        let empty = blank_word rest kind w.0 w.1.0 e in
        let empty' = blank_word w.0 other w.1.1.0 second empty.1 in
        new_blank key rest e ∙ (λ i. Some (new_ad key (sym empty.0 i) (sym empty'.0 i)))
    by false e =
        ap (λ (t : Bool). cond t (Some (new_ad key [] [])) (with_word rest (new_from key))) e
        ∙ with_is (new_from key) rest kind w.0 w.1.0
        ∙ from_word key kind w.0 other w.1.1.0 second last

new_complete : (key : Key) (kind other after : List ℕ) → SaysAfter (does (new_ad key kind other)) after → new_at after ≡ Some (new_ad key kind other)
unfolding new_at
new_complete key kind other after says =
    let words = says.1.0 in
    let all = words.1.1 in
    key_with new_with after words.0 all.1.0.0 key all.1.0.1.0 words.1.0
    ∙ new_words key all.1.0.0 says.0 kind other all.0 all.1.0.1.1 all.1.1 says.1.1

-- what an operation that was read says, and its code
abbrev pub IsRow : List ℕ → List ℕ → Operation → Type 0
IsRow code after o = (code_of (does o) ≡ code) × SaysAfter (does o) after

abbrev value_or : {A : Type 0} → A → Option A → A
value_or d None = d
value_or d (Some x) = x

some_row : (code after : List ℕ) (x o : Operation) → IsRow code after x → Some x ≡ Some o → IsRow code after o
some_row code after x o row e = subst (λ y. IsRow code after y) (ap (value_or x) e) row

new_sound : (after : List ℕ) (o : Operation) → new_at after ≡ Some o → IsRow (codes "101") after o
unfolding new_at
new_sound after o e =
    let k = is_key_with new_with after o e in
    rest k.word k.key k.after k.is k.key_is (are_blanks k.after) refl k.makes
  where
    row : (word : List ℕ) (key : Key) (words : List (List ℕ)) (kind other next last : List ℕ) → IsNextWord after word next → IsKeyWord word key → AreWordsBefore next words last → AreBlanks last → AreKinds words kind other
        → IsRow (codes "101") after (new_ad key kind other)
    row word key words kind other next last is key_is w blanks kinds = (refl, (words, ((word, (key_is, (last, ((next, (is, w)), blanks)))), kinds)))

    third : (word : List ℕ) (key : Key) (next kind second : List ℕ) → IsNextWord after word next → IsKeyWord word key → IsNextWord next kind second → (t : Bool) → are_blanks second ≡ t
        → cond t (Some (new_ad key kind [])) (with_word second (λ other after. at_end after (new_ad key kind other))) ≡ Some o → IsRow (codes "101") after o
    third word key next kind second is key_is is2 true h e = some_row (codes "101") after (new_ad key kind []) o (row word key (kind ∷ []) kind [] next second is key_is (second, (is2, refl)) h one) e
    third word key next kind second is key_is is2 false h e =
        let w = is_with (λ other after. at_end after (new_ad key kind other)) second o e in
        let end = is_at_end w.after (new_ad key kind w.word) o w.makes in
        subst (λ y. IsRow (codes "101") after y) end.1 (row word key (kind ∷ w.word ∷ []) kind w.word next w.after is key_is (second, (is2, (w.after, (w.is, refl)))) end.0 both)

    rest : (word : List ℕ) (key : Key) (next : List ℕ) → IsNextWord after word next → IsKeyWord word key → (t : Bool) → are_blanks next ≡ t
        → cond t (Some (new_ad key [] [])) (with_word next (new_from key)) ≡ Some o → IsRow (codes "101") after o
    rest word key next is key_is true h e = some_row (codes "101") after (new_ad key [] []) o (row word key [] [] [] next next is key_is refl h neither) e
    rest word key next is key_is false h e =
        let w = is_with (new_from key) next o e in
        third word key next w.word w.after is key_is w.is (are_blanks w.after) refl w.makes

-- ---- a destroyed ad

destroy_complete : (key : Key) (after : List ℕ) → SaysAfter (does (destroy_ad key)) after → destroy_at after ≡ Some (destroy_ad key)
unfolding destroy_at
destroy_complete key after words =
    let all = words.1.1 in
    key_with (λ key rest. at_end rest (destroy_ad key)) after words.0 all.1.0.0 key all.1.0.1.0 words.1.0
    ∙ at_end_is all.1.0.0 (destroy_ad key) (ap are_blanks all.1.0.1.1 ∙ all.1.1)

destroy_sound : (after : List ℕ) (o : Operation) → destroy_at after ≡ Some o → IsRow (codes "102") after o
unfolding destroy_at
destroy_sound after o e =
    let k = is_key_with (λ key rest. at_end rest (destroy_ad key)) after o e in
    let end = is_at_end k.after (destroy_ad k.key) o k.makes in
    subst (λ y. IsRow (codes "102") after y) end.1 (refl, (k.word, (k.key_is, (k.after, ((k.after, (k.is, refl)), end.0)))))

-- ---- a deleted attribute

delete_complete : (key : Key) (name after : List ℕ) → SaysAfter (does (delete_attr key name)) after → delete_at after ≡ Some (delete_attr key name)
unfolding delete_at
delete_complete key name after says =
    let words = says.0 in
    let all = words.1.1 in
    let first = all.1.0 in
    let second = first.1.1 in
    key_with delete_with after words.0 first.0 key first.1.0 words.1.0
    ∙ with_is (delete_from key) first.0 name second.0 second.1.0
    ∙ ap (λ (t : Bool). cond t (at_end second.0 (delete_attr key name)) None) says.1
    ∙ at_end_is second.0 (delete_attr key name) (ap are_blanks second.1.1 ∙ all.1.1)

delete_sound : (after : List ℕ) (o : Operation) → delete_at after ≡ Some o → IsRow (codes "104") after o
unfolding delete_at
delete_sound after o e =
    let k = is_key_with delete_with after o e in
    let w = is_with (delete_from k.key) k.after o k.makes in
    by k.word k.key k.after w.word w.after k.is k.key_is w.is (is_name w.word) refl w.makes
  where
    by : (word : List ℕ) (key : Key) (next name last : List ℕ) → IsNextWord after word next → IsKeyWord word key → IsNextWord next name last → (t : Bool) → is_name name ≡ t
        → cond t (at_end last (delete_attr key name)) None ≡ Some o → IsRow (codes "104") after o
    by word key next name last is key_is is2 true h e =
        let end = is_at_end last (delete_attr key name) o e in
        subst (λ y. IsRow (codes "104") after y) end.1 (refl, ((word, (key_is, (last, ((next, (is, (last, (is2, refl)))), end.0)))), h))
    by word key next name last is key_is is2 false h e = absurd cc

-- ---- a set attribute

kinds_step : (b : ℕ) (bs : List ℕ) → is_blank b ≡ true → tokens_in (tokens_of (b ∷ bs)) ≡ tokens_in (tokens_of bs)
kinds_step b bs blank = ap (map token_of) (tokens_blank 0 (b ∷ bs) (omega arith) blank) ∙ kinds_anywhere 1 bs

-- blanks before a text change nothing
text_past : (b : ℕ) (bs : List ℕ) (e : Tree) → is_blank b ≡ true → IsText (tokens_of (b ∷ bs)) e → IsText (tokens_of bs) e
text_past b bs e blank is =
    let moved = moved_cond is (tokens_of bs) (kinds_step b bs blank) in
    subst (λ ys. IsCond 65 (tokens_of bs) e ys) (no_tokens moved.0 moved.1) moved.2

says_past : (b : ℕ) (bs : List ℕ) (e : Tree) → is_blank b ≡ true → IsExprText (b ∷ bs) e → IsExprText bs e
says_past b bs e blank is = let short = is.short in record { short = omega arith; spelled = text_past b bs e blank is.spelled; prints_short = is.prints_short }

drop_one : (b : ℕ) (bs : List ℕ) → is_blank b ≡ true → past_blanks (b ∷ bs) ≡ past_blanks bs
drop_one b bs blank =
    let size : prefix_len is_blank (b ∷ bs) ≡ suc (prefix_len is_blank bs) =
    ap (λ (t : Bool). cond t (1 + prefix_len is_blank bs) 0) blank ∙ (let more : 1 + prefix_len is_blank bs ≡ suc (prefix_len is_blank bs) = omega arith in more) in
    ap (λ (n : ℕ). drop n (b ∷ bs)) size

says_trimmed : (text : List ℕ) (e : Tree) → IsExprText text e → IsExprText (past_blanks text) e
says_trimmed [] e is = is
says_trimmed (b ∷ bs) e is = by (is_blank b) refl (λ more. says_trimmed bs e more)
  where
    by : (t : Bool) → is_blank b ≡ t → (IsExprText bs e → IsExprText (past_blanks bs) e) → IsExprText (past_blanks (b ∷ bs)) e
    by true blank rest = subst (λ t. IsExprText t e) (sym (drop_one b bs blank)) (rest (says_past b bs e blank is))
    by false solid rest = subst (λ t. IsExprText t e) (sym (ap (λ (t : Bool). drop (cond t (1 + prefix_len is_blank bs) 0) (b ∷ bs)) solid)) is

says_behind : (blanks text : List ℕ) (e : Tree) → AreBlanks blanks → IsExprText text e → IsExprText (past_blanks (blanks ++ text)) e
says_behind [] text e bl is = says_trimmed text e is
says_behind (b ∷ blanks) text e bl is =
    let parts = first_and_rest (is_blank b) (are_blanks blanks) bl in
    subst (λ t. IsExprText t e) (sym (drop_one b (blanks ++ text) parts.0)) (says_behind blanks text e parts.1 is)

set_complete : (key : Key) (name : List ℕ) (e : Tree) (after : List ℕ) → SaysAfter (does (set_attr key name e)) after → set_at after ≡ Some (set_attr key name e)
unfolding set_at
set_complete key name e after s =
    let first = s.words in
    let second = first.1.1 in
    let rest : second.0 ≡ s.blank ∷ (s.blanks ++ s.expression) = second.1.1 ∙ s.parts in
    let starts : begins_blank second.0 ≡ true = ap begins_blank rest ∙ s.divides in
    let past : past_blanks second.0 ≡ past_blanks (s.blanks ++ s.expression) = ap past_blanks rest ∙ drop_one s.blank (s.blanks ++ s.expression) s.divides in
    let read : expression_at (past_blanks second.0) ≡ Ok e = ap expression_at past ∙ said_is_read _ e (says_behind s.blanks s.expression e s.are_blanks s.says) in
    key_with set_with after s.word first.0 key first.1.0 s.key_is
    ∙ with_is (set_from key) first.0 name second.0 second.1.0
    ∙ ap (λ (t : Bool). cond (t && begins_blank second.0) (set_to key name (past_blanks second.0)) None) s.name_fits
    ∙ ap (λ (t : Bool). cond t (set_to key name (past_blanks second.0)) None) starts
    ∙ ap (λ r. option_map (set_attr key name) (tree_in r)) read

record Blanks (text : List ℕ) : Type 0 where
  blanks : List ℕ
  parts : text ≡ blanks ++ past_blanks text
  are_blanks : AreBlanks blanks

blanks_before : (text : List ℕ) → Blanks text
blanks_before [] = record { blanks = []; parts = refl; are_blanks = refl }
blanks_before (b ∷ bs) = by (is_blank b) refl (blanks_before bs)
  where
    by : (t : Bool) → is_blank b ≡ t → Blanks bs → Blanks (b ∷ bs)
    by true blank rest =
        record {
          blanks = b ∷ rest.blanks;
          parts = ap (λ (t : List ℕ). b ∷ t) rest.parts ∙ ap (λ (t : List ℕ). b ∷ (rest.blanks ++ t)) (sym (drop_one b bs blank));
          are_blanks = ap (λ (t : Bool). t && are_blanks rest.blanks) blank ∙ rest.are_blanks;
        }
    by false solid rest = record { blanks = []; parts = sym (ap (λ (t : Bool). drop (cond t (1 + prefix_len is_blank bs) 0) (b ∷ bs)) solid); are_blanks = refl }

read_says : (text : List ℕ) (e : Tree) → expression_at text ≡ Ok e → IsExprText text e
read_says text e read = found_by {X = Tree} (λ x. x) text (Ok e) read

set_sound : (after : List ℕ) (o : Operation) → set_at after ≡ Some o → IsRow (codes "103") after o
unfolding set_at
set_sound after o e =
    let k = is_key_with set_with after o e in
    let w = is_with (set_from k.key) k.after o k.makes in
    by k.word k.key k.after w.word w.after k.is k.key_is w.is (is_name w.word) (begins_blank w.after) refl refl w.makes
  where
    row : (word : List ℕ) (key : Key) (next name last : List ℕ) → IsNextWord after word next → IsKeyWord word key → IsNextWord next name last → is_name name ≡ true → (text : List ℕ) → last ≡ text → begins_blank text ≡ true
        → (e : Tree) → expression_at (past_blanks text) ≡ Ok e → IsRow (codes "103") after (set_attr key name e)
    row word key next name last is key_is is2 h [] same starts e read = absurd cc
    row word key next name last is key_is is2 h (b ∷ bs) same starts e read =
        let cut = blanks_before bs in (
          refl,
          record {
            word = word;
            after = last;
            blank = b;
            blanks = cut.blanks;
            expression = past_blanks bs;
            key_is = key_is;
            words = (next, (is, (last, (is2, refl))));
            name_fits = h;
            parts = same ∙ ap (λ (t : List ℕ). b ∷ t) cut.parts;
            divides = starts;
            are_blanks = cut.are_blanks;
            says = read_says (past_blanks bs) e (ap expression_at (sym (drop_one b bs starts)) ∙ read);
          },
        )

    tree_is : (key : Key) (name : List ℕ) (r : Result Tree ParseError) → option_map (set_attr key name) (tree_in r) ≡ Some o → (e : Tree) × (r ≡ Ok e) × (set_attr key name e ≡ o)
    tree_is key name (Ok x) e = (x, refl, ap (value_or (set_attr key name x)) e)
    tree_is key name (Err f) e = absurd cc

    by : (word : List ℕ) (key : Key) (next name last : List ℕ) → IsNextWord after word next → IsKeyWord word key → IsNextWord next name last → (s t : Bool) → is_name name ≡ s → begins_blank last ≡ t
        → cond (s && t) (set_to key name (past_blanks last)) None ≡ Some o → IsRow (codes "103") after o
    by word key next name last is key_is is2 true true h starts e =
        let found = tree_is key name (expression_at (past_blanks last)) e in
        subst (λ y. IsRow (codes "103") after y) found.2 (row word key next name last is key_is is2 h last refl starts found.0 found.1)
    by word key next name last is key_is is2 true false h starts e = absurd cc
    by word key next name last is key_is is2 false t h starts e = absurd cc

-- ---- a stamp

stamp_complete : (n : ℕ) (after : List ℕ) → SaysAfter (stamped n) after → stamp_at after ≡ Some n
unfolding stamp_at
stamp_complete n after s =
    let all = s.words in
    let first = all.1.0 in
    let second = first.1.1 in
    let third = second.1.1 in
    let last : are_blanks third.0 ≡ true = ap are_blanks third.1.1 ∙ all.1.1 in
    with_is (λ number bs. with_word bs (λ word cs. with_word cs (stamp_of number word))) after s.number first.0 first.1.0
    ∙ with_is (λ word cs. with_word cs (stamp_of s.number word)) first.0 (codes "CreationTimestamp") second.0 second.1.0
    ∙ with_is (stamp_of s.number (codes "CreationTimestamp")) second.0 s.time third.0 third.1.0
    ∙ ap (λ (t : Bool). cond (t && (is_numeral s.time && are_blanks third.0)) (Some (sequence_of s.number)) None) s.number_fits
    ∙ ap (λ (t : Bool). cond (t && are_blanks third.0) (Some (sequence_of s.number)) None) s.time_fits
    ∙ ap (λ (t : Bool). cond t (Some (sequence_of s.number)) None) last
    ∙ ap (λ (k : ℕ). Some k) (sym s.says)

stamp_sound : (after : List ℕ) (n : ℕ) → stamp_at after ≡ Some n → SaysAfter (stamped n) after
unfolding stamp_at
stamp_sound after n e =
    let first = is_with (λ number bs. with_word bs (λ word cs. with_word cs (stamp_of number word))) after n e in
    let second = is_with (λ word cs. with_word cs (stamp_of first.word word)) first.after n first.makes in
    let third = is_with (stamp_of first.word second.word) second.after n second.makes in
    by first.word first.after second.word second.after third.word third.after first.is second.is third.is
    (bytes_eq second.word (codes "CreationTimestamp")) (is_numeral first.word) (is_numeral third.word) (are_blanks third.after) refl refl refl refl third.makes
  where
    by : (number ds word bs time cs : List ℕ) → IsNextWord after number ds → IsNextWord ds word bs → IsNextWord bs time cs → (s t u v : Bool)
        → bytes_eq word (codes "CreationTimestamp") ≡ s → is_numeral number ≡ t → is_numeral time ≡ u → are_blanks cs ≡ v
        → cond (s && (t && (u && v))) (Some (sequence_of number)) None ≡ Some n → SaysAfter (stamped n) after
    by number ds word bs time cs i j k true true true true p q r s e =
        let same : word ≡ codes "CreationTimestamp" = (bytes_decides word (codes "CreationTimestamp")).0 p in
        record {
          number = number;
          time = time;
          words = (cs, ((ds, (i, (bs, (subst (λ w. IsNextWord ds w bs) same j, (cs, (k, refl)))))), s));
          number_fits = q;
          time_fits = r;
          says = sym (ap (value_or n) e);
        }
    by number ds word bs time cs i j k true true true false p q r s e = absurd cc
    by number ds word bs time cs i j k true true false v p q r s e = absurd cc
    by number ds word bs time cs i j k true false u v p q r s e = absurd cc
    by number ds word bs time cs i j k false t u v p q r s e = absurd cc

-- ---- the first word

by_complete : (e : Entry) (after : List ℕ) → SaysAfter e after → entry_by (code_of e) after ≡ Some e
unfolding entry_by
by_complete (does (new_ad key kind other)) after says = ap (option_map does) (new_complete key kind other after says)
by_complete (does (destroy_ad key)) after says = ap (option_map does) (destroy_complete key after says)
by_complete (does (set_attr key name e)) after says = ap (option_map does) (set_complete key name e after says)
by_complete (does (delete_attr key name)) after says = ap (option_map does) (delete_complete key name after says)
by_complete begins after says = at_end_is after begins says
by_complete ends after says = refl
by_complete (stamped n) after says = ap (option_map stamped) (stamp_complete n after says)

abbrev IsEntry : List ℕ → List ℕ → Entry → Type 0
IsEntry word after e = (word ≡ code_of e) × SaysAfter e after

does_it : (word code after : List ℕ) (o : Option Operation) (e : Entry) → word ≡ code → ((x : Operation) → o ≡ Some x → IsRow code after x) → option_map does o ≡ Some e → IsEntry word after e
does_it word code after None e same row h = absurd cc
does_it word code after (Some x) e same row h =
    let r = row x refl in
    subst (λ y. IsEntry word after y) (ap (value_or (does x)) h) (same ∙ sym r.0, r.1)

stamps_it : (word after : List ℕ) (o : Option ℕ) (e : Entry) → word ≡ codes "107" → ((n : ℕ) → o ≡ Some n → SaysAfter (stamped n) after) → option_map stamped o ≡ Some e → IsEntry word after e
stamps_it word after None e same row h = absurd cc
stamps_it word after (Some n) e same row h = subst (λ y. IsEntry word after y) (ap (value_or (stamped n)) h) (same, row n refl)

by_sound : (word after : List ℕ) (e : Entry) → entry_by word after ≡ Some e → IsEntry word after e
unfolding entry_by
by_sound word after e h =
    by (bytes_eq word (codes "101")) (bytes_eq word (codes "102")) (bytes_eq word (codes "103")) (bytes_eq word (codes "104"))
    (bytes_eq word (codes "105")) (bytes_eq word (codes "106")) (bytes_eq word (codes "107")) refl refl refl refl refl refl refl h
  where
    is : (code : List ℕ) → bytes_eq word code ≡ true → word ≡ code
    is code t = (bytes_decides word code).0 t

    by : (a b c d f g j : Bool) → bytes_eq word (codes "101") ≡ a → bytes_eq word (codes "102") ≡ b → bytes_eq word (codes "103") ≡ c → bytes_eq word (codes "104") ≡ d
        → bytes_eq word (codes "105") ≡ f → bytes_eq word (codes "106") ≡ g → bytes_eq word (codes "107") ≡ j
        → cond a (option_map does (new_at after)) (cond b (option_map does (destroy_at after)) (cond c (option_map does (set_at after)) (cond d (option_map does (delete_at after))
        (cond f (at_end after begins) (cond g (Some ends) (cond j (option_map stamped (stamp_at after)) None)))))) ≡ Some e → IsEntry word after e
    by true b c d f g j k l m n o p q h = does_it word (codes "101") after (new_at after) e (is _ k) (new_sound after) h
    by false true c d f g j k l m n o p q h = does_it word (codes "102") after (destroy_at after) e (is _ l) (destroy_sound after) h
    by false false true d f g j k l m n o p q h = does_it word (codes "103") after (set_at after) e (is _ m) (set_sound after) h
    by false false false true f g j k l m n o p q h = does_it word (codes "104") after (delete_at after) e (is _ n) (delete_sound after) h
    by false false false false true g j k l m n o p q h = let end = is_at_end after begins e h in subst (λ y. IsEntry word after y) end.1 (is _ o, end.0)
    by false false false false false true j k l m n o p q h = subst (λ y. IsEntry word after y) (ap (value_or ends) h) (is _ p, tt)
    by false false false false false false true k l m n o p q h = stamps_it word after (stamp_at after) e (is _ q) (stamp_sound after) h
    by false false false false false false false k l m n o p q h = absurd cc

-- ---- a line

pub record_is_read : (line : List ℕ) (e : Entry) → Record line e → entry_at line ≡ Some e
unfolding entry_at
record_is_read line e r =
    let cut = word_cut line (code_of e) r.after r.code in
    ap (λ (b : Bool). cond b (entry_by (first_word line) (past_word line)) None) (is_utf8-from_IsUtf8 line r.is_text)
    ∙ (λ i. entry_by (cut.0 i) (cut.1 i))
    ∙ by_complete e r.after r.says

pub read_is_record : (line : List ℕ) (e : Entry) → entry_at line ≡ Some e → Record line e
unfolding entry_at
read_is_record line e h = by (is_utf8 line) refl h
  where
    by : (b : Bool) → is_utf8 line ≡ b → cond b (entry_by (first_word line) (past_word line)) None ≡ Some e → Record line e
    by true t h =
        let is = by_sound (first_word line) (past_word line) e h in
        record {
          is_text = IsUtf8-from_is_utf8 line t;
          after = past_word line;
          code = subst (λ w. IsWordBefore line w (past_word line)) is.0 (first_word_is line);
          says = is.1;
        }
    by false t h = absurd cc
