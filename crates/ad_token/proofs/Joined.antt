-- A token's canonical text is read as that token, whatever byte that can't continue it follows.
use Rattle.std.proofs.Common.{◌≡◌, ℕ, zero, suc, ℤ, pos, negsuc, ◌+◌, ◌^◌, ◌&&◌, ◌||◌, Bool, true, false, cond, eqb, List, [], ◌∷◌, ◌++◌, map, length, drop, get_or, codes, nat_eq, Option, Some, None, refl, ap, sym, ◌∙◌, subst, arith}
use Rattle.std.proofs.lemmas.Bool.{eqb-true, eq-eqb, ltb-true}
use Rattle.std.proofs.lemmas.List.{drop_at}
use Rattle.ad_tree.specs.declared.operator.BinOp.{BinOp}
use Rattle.ad_tree.specs.declared.operator.BinOp.TheVariants as bin
use Rattle.ad_tree.specs.declared.operator.Scope.{Scope}
use Rattle.ad_tree.specs.declared.operator.Scope.TheVariants.{Bare, My, Target}
use Rattle.ad_token.specs.declared.token.Bracket.TheVariants.{Round, Curly}
use Rattle.ad_token.specs.declared.token.Token.{Token}
use Rattle.ad_token.specs.declared.token.Token.TheVariants as token
use Rattle.ad_token.specs.declared.token.Placed.{Placed}
use Rattle.ad_token.specs.Names.{is_name_byte, is_name}
use Rattle.ad_token.specs.Marks.{mark_of_three, mark_of_two, mark_of_one, longest, mark_token}
use Rattle.ad_token.specs.Lexing.{is_blank, ends_the_tokens, token_at, token_and_rest, lex_from, tokens_from}
use Rattle.ad_token.specs.Canonical.{operator_text, scope_text, token_text, is_numeral, is_proper, ends_before, token_of, kinds_of, joined_text, joined_tokens, are_apart}
use Rattle.ad_token.proofs.Turns.{tokens_blank, tokens_token, tokens_end}
use Rattle.ad_token.proofs.Pieces.{both, neither, not_true, word_at, bare_at, scope_prefix_at, my_prefix, target_prefix, my_no_word, target_no_word, true_word, false_word, undefined_word, error_word, integer_at, string_at}

-- marks that a second byte would make longer
pub turned : (k b : ℕ) → eqb b k ≡ false → nat_eq k b ≡ false
turned k b h = by (nat_eq k b) refl
  where
    by : (t : Bool) → nat_eq k b ≡ t → t ≡ false
    by false e = refl
    by true e = let same : b ≡ k = sym (eqb-true k b e) in let c = eq-eqb b k same in cc

less_at : (bs : List ℕ) → eqb (get_or bs 0 0) 61 ≡ false → token_at (60 ∷ bs) ≡ (token.Op bin.Less, 1)
unfolding token_at mark_token mark_of_three mark_of_two mark_of_one
less_at [] h = refl
less_at (b ∷ bs) h = ap (λ c. longest None (cond (c && true) (Some (token.Op bin.LessEqual)) None) (token.Op bin.Less)) (turned 61 b h)

greater_at : (bs : List ℕ) → eqb (get_or bs 0 0) 61 ≡ false → token_at (62 ∷ bs) ≡ (token.Op bin.Greater, 1)
unfolding token_at mark_token mark_of_three mark_of_two mark_of_one
greater_at [] h = refl
greater_at (b ∷ bs) h = ap (λ c. longest None (cond (c && true) (Some (token.Op bin.GreaterEqual)) None) (token.Op bin.Greater)) (turned 61 b h)

not_at : (bs : List ℕ) → eqb (get_or bs 0 0) 61 ≡ false → token_at (33 ∷ bs) ≡ (token.Not, 1)
unfolding token_at mark_token mark_of_three mark_of_two mark_of_one
not_at [] h = refl
not_at (b ∷ bs) h = ap (λ c. longest None (cond (c && true) (Some (token.Op bin.NotEqual)) None) token.Not) (turned 61 b h)

question_at : (bs : List ℕ) → eqb (get_or bs 0 0) 58 ≡ false → token_at (63 ∷ bs) ≡ (token.Question, 1)
unfolding token_at mark_token mark_of_three mark_of_two mark_of_one
question_at [] h = refl
question_at (b ∷ bs) h = ap (λ c. longest None (cond (c && true) (Some token.OrElse) None) token.Question) (turned 58 b h)

operator_at : (op : BinOp) (bs : List ℕ) → ends_before (token.Op op) (get_or bs 0 0) ≡ true → token_at (operator_text op ++ bs) ≡ (token.Op op, length (operator_text op))
unfolding token_at mark_token mark_of_three mark_of_two mark_of_one
operator_at bin.Less bs h = less_at bs (not_true (eqb (get_or bs 0 0) 61) h)
operator_at bin.Greater bs h = greater_at bs (not_true (eqb (get_or bs 0 0) 61) h)
operator_at bin.Or bs h = refl
operator_at bin.And bs h = refl
operator_at bin.Equal bs h = refl
operator_at bin.NotEqual bs h = refl
operator_at bin.Same bs h = refl
operator_at bin.NotSame bs h = refl
operator_at bin.LessEqual bs h = refl
operator_at bin.GreaterEqual bs h = refl
operator_at bin.Add bs h = refl
operator_at bin.Subtract bs h = refl
operator_at bin.Multiply bs h = refl
operator_at bin.Divide bs h = refl
operator_at bin.Modulo bs h = refl

name_at : (s : Scope) (x bs : List ℕ) → is_name x ≡ true → ends_before (token.Name s x) (get_or bs 0 0) ≡ true → token_at ((scope_text s ++ x) ++ bs) ≡ (token.Name s x, length (scope_text s ++ x))
name_at Bare x bs name h = let p = neither (is_name_byte (get_or bs 0 0)) _ h in bare_at x bs name p.0 p.1
name_at My x bs name h =
    let long : 2 + 1 + length x ≡ suc (suc (suc (length x))) = omega arith in
    scope_prefix_at My (codes "MY") x bs refl refl refl my_no_word my_prefix name (not_true (is_name_byte (get_or bs 0 0)) h) ∙ ap (λ n. (token.Name My x, n)) long
name_at Target x bs name h =
    let long : 6 + 1 + length x ≡ suc (suc (suc (suc (suc (suc (suc (length x))))))) = omega arith in
    scope_prefix_at Target (codes "TARGET") x bs refl refl refl target_no_word target_prefix name (not_true (is_name_byte (get_or bs 0 0)) h) ∙ ap (λ n. (token.Name Target x, n)) long

integer_text_at : (n : ℤ) (bs : List ℕ) → is_numeral n ≡ true → ends_before (token.Int n) (get_or bs 0 0) ≡ true → token_at (token_text (token.Int n) ++ bs) ≡ (token.Int n, length (token_text (token.Int n)))
integer_text_at (pos n) bs small h = let p = neither (is_name_byte (get_or bs 0 0)) _ h in integer_at n bs (ltb-true n (2 ^ 63) small) p.0 p.1
integer_text_at (negsuc n) bs small h = cc

-- the token at the start of its text, and its length
pub text_at : (t : Token) (bs : List ℕ) → is_proper t ≡ true → ends_before t (get_or bs 0 0) ≡ true → token_at (token_text t ++ bs) ≡ (t, length (token_text t))
unfolding token_at mark_token mark_of_three mark_of_two mark_of_one
text_at token.Undefined bs p h = word_at (codes "UNDEFINED") bs token.Undefined refl refl refl undefined_word (not_true (is_name_byte (get_or bs 0 0)) h)
text_at token.Error bs p h = word_at (codes "ERROR") bs token.Error refl refl refl error_word (not_true (is_name_byte (get_or bs 0 0)) h)
text_at token.True bs p h = word_at (codes "TRUE") bs token.True refl refl refl true_word (not_true (is_name_byte (get_or bs 0 0)) h)
text_at token.False bs p h = word_at (codes "FALSE") bs token.False refl refl refl false_word (not_true (is_name_byte (get_or bs 0 0)) h)
text_at (token.Int n) bs p h = integer_text_at n bs p h
text_at (token.Str s) bs p h = string_at s bs p
text_at (token.Name s x) bs p h = name_at s x bs p h
text_at (token.Op op) bs p h = operator_at op bs h
text_at token.Not bs p h = not_at bs (not_true (eqb (get_or bs 0 0) 61) h)
text_at token.Question bs p h = question_at bs (not_true (eqb (get_or bs 0 0) 58) h)
text_at token.Colon bs p h = refl
text_at token.OrElse bs p h = refl
text_at (token.Open Round) bs p h = refl
text_at (token.Open Curly) bs p h = refl
text_at (token.Close Round) bs p h = refl
text_at (token.Close Curly) bs p h = refl
text_at token.Comma bs p h = refl
text_at token.Real bs p h = cc
text_at token.Range bs p h = cc
text_at token.Bad bs p h = cc

pub proper_fine : (t : Token) → is_proper t ≡ true → ends_the_tokens t ≡ false
proper_fine token.Real p = cc
proper_fine token.Range p = cc
proper_fine token.Bad p = cc
proper_fine _ p = refl

-- no token begins with a blank
blank_refused : (b : ℕ) (bs : List ℕ) → is_blank b ≡ true → ends_the_tokens (token_at (b ∷ bs)).0 ≡ true
unfolding token_at mark_token mark_of_three mark_of_two mark_of_one
blank_refused b bs h = by (eqb b 32) (eqb b 9) refl refl h
  where
    space : b ≡ 32 → ends_the_tokens (token_at (b ∷ bs)).0 ≡ true
    space e = subst (λ c. ends_the_tokens (token_at (c ∷ bs)).0 ≡ true) (sym e) refl

    tab : b ≡ 9 → ends_the_tokens (token_at (b ∷ bs)).0 ≡ true
    tab e = subst (λ c. ends_the_tokens (token_at (c ∷ bs)).0 ≡ true) (sym e) refl

    by : (s t : Bool) → eqb b 32 ≡ s → eqb b 9 ≡ t → s || t ≡ true → ends_the_tokens (token_at (b ∷ bs)).0 ≡ true
    by true t e f h = space (eqb-true b 32 e)
    by false true e f h = tab (eqb-true b 9 f)
    by false false e f h = cc

empty_refused : ends_the_tokens (token_at []).0 ≡ true
unfolding token_at mark_token mark_of_three mark_of_two mark_of_one
empty_refused = refl

-- the token that a text begins with says how the tokens begin
token_at_read : (at : ℕ) (bs rest : List ℕ) (t : Token) (n : ℕ) → token_at bs ≡ (t, n) → ends_the_tokens t ≡ false → drop n bs ≡ rest → tokens_from at bs ≡ record { at = at; token = t } ∷ tokens_from (at + n) rest
token_at_read at [] rest t n e fine after = let r : ends_the_tokens t ≡ true = sym (ap (λ u. ends_the_tokens u.0) e) ∙ empty_refused in cc
token_at_read at (b ∷ bs) rest t n e fine after = by (is_blank b) refl
  where
    by : (w : Bool) → is_blank b ≡ w → tokens_from at (b ∷ bs) ≡ record { at = at; token = t } ∷ tokens_from (at + n) rest
    by true blank = let r : ends_the_tokens t ≡ true = sym (ap (λ u. ends_the_tokens u.0) e) ∙ blank_refused b bs blank in cc
    by false blank =
        let p : Placed = record { at = at; token = t } in
        tokens_token at (b ∷ bs) (omega arith) blank ∙ ap (λ u. token_and_rest tokens_from at (b ∷ bs) u) e ∙ ap (λ c. p ∷ cond c [] (tokens_from (at + n) (drop n (b ∷ bs)))) fine
        ∙ ap (λ l. p ∷ tokens_from (at + n) l) after

-- a token's text, and what follows
pub text_read : (at : ℕ) (t : Token) (bs : List ℕ) → is_proper t ≡ true → ends_before t (get_or bs 0 0) ≡ true
    → tokens_from at (token_text t ++ bs) ≡ record { at = at; token = t } ∷ tokens_from (at + length (token_text t)) bs
text_read at t bs proper ends = token_at_read at (token_text t ++ bs) bs t (length (token_text t)) (text_at t bs proper ends) (proper_fine t proper) (drop_at (token_text t) bs _ refl)

pub blank_read : (at : ℕ) (bs : List ℕ) → tokens_from at (32 ∷ bs) ≡ tokens_from (at + 1) bs
blank_read at bs = tokens_blank at (32 ∷ bs) (omega arith) refl

-- the tokens alone, wherever they stand
shift : (n at k : ℕ) (bs : List ℕ) → map token_of (lex_from n at bs) ≡ map token_of (lex_from n k bs)
unfolding lex_from
shift zero at k bs = refl
shift (suc n) at k [] = refl
shift (suc n) at k (b ∷ bs) = by (λ i j cs. shift n i j cs) (is_blank b) (token_at (b ∷ bs)) (ends_the_tokens (token_at (b ∷ bs)).0)
  where
    by : ((i j : ℕ) (cs : List ℕ) → map token_of (lex_from n i cs) ≡ map token_of (lex_from n j cs)) → (w : Bool) (t : Token × ℕ) (r : Bool)
        → map token_of (cond w (lex_from n (at + 1) bs) (record { at = at; token = t.0 } ∷ cond r [] (lex_from n (at + t.1) (drop t.1 (b ∷ bs)))))
        ≡ map token_of (cond w (lex_from n (k + 1) bs) (record { at = k; token = t.0 } ∷ cond r [] (lex_from n (k + t.1) (drop t.1 (b ∷ bs)))))
    by rest true t r = rest (at + 1) (k + 1) bs
    by rest false t true = refl
    by rest false t false = ap (λ l. t.0 ∷ l) (rest (at + t.1) (k + t.1) (drop t.1 (b ∷ bs)))

pub kinds_anywhere : (at : ℕ) (bs : List ℕ) → map token_of (tokens_from at bs) ≡ kinds_of bs
kinds_anywhere at bs = shift (length bs) at 0 bs

pub kind_read : (t : Token) (bs : List ℕ) → is_proper t ≡ true → ends_before t (get_or bs 0 0) ≡ true → kinds_of (token_text t ++ bs) ≡ t ∷ kinds_of bs
kind_read t bs proper ends = ap (map token_of) (text_read 0 t bs proper ends) ∙ ap (λ l. t ∷ l) (kinds_anywhere (0 + length (token_text t)) bs)

pub kinds_blank : (bs : List ℕ) → kinds_of (32 ∷ bs) ≡ kinds_of bs
kinds_blank bs = ap (map token_of) (blank_read 0 bs) ∙ kinds_anywhere 1 bs

pub kinds_end : kinds_of [] ≡ []
kinds_end = ap (map token_of) (tokens_end 0 [] refl)

-- an operator between blanks
before_blank : (op : BinOp) → ends_before (token.Op op) 32 ≡ true
before_blank bin.Less = refl
before_blank bin.Greater = refl
before_blank _ = refl

pub operator_read : (op : BinOp) (bs : List ℕ) → kinds_of (32 ∷ (operator_text op ++ 32 ∷ bs)) ≡ token.Op op ∷ kinds_of bs
operator_read op bs = kinds_blank (operator_text op ++ 32 ∷ bs) ∙ kind_read (token.Op op) (32 ∷ bs) refl (before_blank op) ∙ ap (λ l. token.Op op ∷ l) (kinds_blank bs)

-- a comma and a blank
pub comma_read : (bs : List ℕ) → kinds_of (44 ∷ 32 ∷ bs) ≡ token.Comma ∷ kinds_of bs
comma_read bs = kind_read token.Comma (32 ∷ bs) refl refl ∙ ap (λ l. token.Comma ∷ l) (kinds_blank bs)

-- a text made of tokens and blanks
pub joined_read : (ps : List (Option Token)) → are_apart ps ≡ true → kinds_of (joined_text ps) ≡ joined_tokens ps
joined_read [] h = kinds_end
joined_read (None ∷ ps) h = kinds_blank (joined_text ps) ∙ joined_read ps h
joined_read (Some t ∷ ps) h =
    let p = both (is_proper t) _ h in
    let q = both (ends_before t (get_or (joined_text ps) 0 0)) _ p.1 in
    kind_read t (joined_text ps) p.0 q.0 ∙ ap (λ l. t ∷ l) (joined_read ps q.1)
