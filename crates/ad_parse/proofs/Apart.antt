-- Where each name and literal of a tree can be read, no token of its canonical text goes on into what follows it.
use Rattle.std.proofs.Common.{◌≡◌, ℕ, pos, negsuc, ◌-◌, ◌<◌, ◌^◌, ◌&&◌, ◌||◌, not, List, [], ◌∷◌, ◌++◌, length, get_or, Bool, true, false, eqb, Some, None, is_some, refl, subst, arith}
use Rattle.std.specs.Prelude.{nat_le}
use Rattle.std.specs.Fmt.{decimal}
use Rattle.std.specs.Str.Parse.{AllDigits}
use Rattle.std.proofs.lemmas.Bool.{eqb-true, ltb-true, ne_eqb}
use Rattle.std.proofs.lemmas.Fmt.{decimal_is_IsNumeral}
use Rattle.std.proofs.lemmas.Str.Parse.{digit_from_value}
use Rattle.ad_value.specs.Content.{Content, undefined, error, truth, integer, text}
use Rattle.ad_value.specs.Content as content
use Rattle.ad_tree.specs.declared.operator.Scope.{Scope}
use Rattle.ad_tree.specs.declared.operator.Scope.TheVariants.{Bare, My, Target}
use Rattle.ad_tree.specs.declared.operator.UnOp.{UnOp}
use Rattle.ad_tree.specs.declared.operator.UnOp.TheVariants as un
use Rattle.ad_tree.specs.declared.operator.BinOp.{BinOp}
use Rattle.ad_tree.specs.declared.operator.BinOp.TheVariants as bin
use Rattle.ad_tree.specs.Tree.{Tree, literal, reference, unary, chain, choice, or_else, call, items, Rests, no_rests, and_rest, Trees, no_trees, and_tree}
use Rattle.ad_token.specs.declared.token.Bracket.{Bracket}
use Rattle.ad_token.specs.declared.token.Bracket.TheVariants.{Round, Curly}
use Rattle.ad_token.specs.declared.token.Token.{Token}
use Rattle.ad_token.specs.declared.token.Token.TheVariants as token
use Rattle.ad_token.specs.Names.{is_letter, is_name_byte, scope_of_prefix, is_name}
use Rattle.ad_token.specs.Canonical.{is_proper, ends_before, joined_text, are_apart}
use Rattle.ad_token.proofs.Pieces.{both, neither}
use Rattle.ad_parse.specs.Operators.{level_of}
use Rattle.ad_parse.specs.Canon.{rests_level, looseness}
use Rattle.ad_parse.specs.Spelling.{literal_token, prefix_token}
use Rattle.ad_parse.proofs.Pieces.{Pieces, enclose, pieces, rest_pieces, item_pieces, more_pieces, Proper, ProperRests, ProperTrees}

-- the first byte of a text, 0 where it is empty
abbrev front : List ℕ → ℕ
front bs = get_or bs 0 0

-- ---- no operand begins with `=`

letter_other : (b : ℕ) → is_letter b ≡ true → eqb b 61 ≡ false
letter_other b h = by (eqb b 61) refl
  where
    by : (t : Bool) → eqb b 61 ≡ t → t ≡ false
    by true e = let z : is_letter 61 ≡ true = subst (λ c. is_letter c ≡ true) (eqb-true b 61 e) h in cc
    by false e = refl

name_letter : (x : List ℕ) → is_name x ≡ true → is_letter (front x) ≡ true
unfolding is_name
name_letter x h = (both (is_letter (front x)) _ h).0

name_start : (x bs : List ℕ) → is_name x ≡ true → eqb (front (x ++ bs)) 61 ≡ false
name_start [] bs h = let z = name_letter [] h in cc
name_start (b ∷ x) bs h = letter_other b (name_letter (b ∷ x) h)

digits_start : (ds bs : List ℕ) → AllDigits 10 ds → 0 < length ds → eqb (front (ds ++ bs)) 61 ≡ false
digits_start [] bs h some = absurd (omega (arith, some))
digits_start (d ∷ ds) bs h some = let r = digit_from_value d h.0 in ne_eqb d 61 (λ e. omega arith)

decimal_start : (n : ℕ) (bs : List ℕ) → n < 2 ^ 63 → eqb (front (decimal n ++ bs)) 61 ≡ false
decimal_start n bs small = let r = (decimal_is_IsNumeral n (omega arith)).0 in digits_start (decimal n) bs r.1 r.0

literal_start : (c : Content) → is_proper (literal_token c) ≡ true → (ps : Pieces) → eqb (front (joined_text (Some (literal_token c) ∷ ps))) 61 ≡ false
literal_start undefined h ps = refl
literal_start error h ps = refl
literal_start (truth true) h ps = refl
literal_start (truth false) h ps = refl
literal_start (integer (pos n)) h ps = decimal_start n (joined_text ps) (ltb-true n (2 ^ 63) h)
literal_start (integer (negsuc n)) h ps = cc
literal_start (text s) h ps = refl
literal_start (content.items cs) h ps = cc

reference_start : (s : Scope) (x : List ℕ) → is_name x ≡ true → (ps : Pieces) → eqb (front (joined_text (Some (token.Name s x) ∷ ps))) 61 ≡ false
reference_start Bare x h ps = name_start x (joined_text ps) h
reference_start My x h ps = refl
reference_start Target x h ps = refl

prefix_start : (op : UnOp) (ps : Pieces) → eqb (front (joined_text (Some (prefix_token op) ∷ ps))) 61 ≡ false
prefix_start un.Minus ps = refl
prefix_start un.Plus ps = refl
prefix_start un.Not ps = refl

enclosed_start : (b : Bool) (inner : Pieces → Pieces) → ((ps : Pieces) → eqb (front (joined_text (inner ps))) 61 ≡ false) → (ps : Pieces) → eqb (front (joined_text (enclose b inner ps))) 61 ≡ false
enclosed_start true inner h ps = h ps
enclosed_start false inner h ps = refl

start : (e : Tree) → Proper e → (ps : Pieces) → eqb (front (joined_text (pieces e ps))) 61 ≡ false
start (literal c) h ps = literal_start c h ps
start (reference s x) h ps = reference_start s x h ps
start (unary op e) h ps = prefix_start op (enclose (nat_le (looseness e) 0) (pieces e) ps)
start (chain e rs) h ps = enclosed_start (nat_le (looseness e) (rests_level rs - 1)) (pieces e) (start e h.0) (rest_pieces rs ps)
start (choice t y n) h ps = enclosed_start (nat_le (looseness t) 6) (pieces t) (start t h.0) (None ∷ Some token.Question ∷ None ∷ pieces y (None ∷ Some token.Colon ∷ None ∷ pieces n ps))
start (or_else e f) h ps = enclosed_start (nat_le (looseness e) 6) (pieces e) (start e h.0) (None ∷ Some token.OrElse ∷ None ∷ pieces f ps)
start (call x es) h ps = name_start x (joined_text (Some (token.Open Round) ∷ item_pieces Round es ps)) h.0
start (items es) h ps = refl

-- ---- each token ends where the next piece begins

-- pieces that are apart, and that go on with no name and no number
record After (ps : Pieces) : Type 0 where
  ends : not (is_name_byte (front (joined_text ps)) || eqb (front (joined_text ps)) 46) ≡ true
  apart : are_apart ps ≡ true

one_more : (t : Token) (ps : Pieces) → is_proper t ≡ true → ends_before t (front (joined_text ps)) ≡ true → are_apart ps ≡ true → are_apart (Some t ∷ ps) ≡ true
one_more t ps p e a = λ i. p i && (e i && a i)

not_is : (b : Bool) → b ≡ false → not b ≡ true
not_is true h = cc
not_is false h = refl

name_ends : (s : Scope) (x : List ℕ) (b : ℕ) → not (is_name_byte b || eqb b 46) ≡ true → ends_before (token.Name s x) b ≡ true
name_ends Bare x b h = let p = neither (is_name_byte b) (eqb b 46) h in λ i. not (p.0 i || (p.1 i && is_some (scope_of_prefix x)))
name_ends My x b h = not_is (is_name_byte b) (neither (is_name_byte b) (eqb b 46) h).0
name_ends Target x b h = not_is (is_name_byte b) (neither (is_name_byte b) (eqb b 46) h).0

literal_ends : (c : Content) (b : ℕ) → not (is_name_byte b || eqb b 46) ≡ true → ends_before (literal_token c) b ≡ true
literal_ends undefined b h = not_is (is_name_byte b) (neither (is_name_byte b) (eqb b 46) h).0
literal_ends error b h = not_is (is_name_byte b) (neither (is_name_byte b) (eqb b 46) h).0
literal_ends (truth true) b h = not_is (is_name_byte b) (neither (is_name_byte b) (eqb b 46) h).0
literal_ends (truth false) b h = not_is (is_name_byte b) (neither (is_name_byte b) (eqb b 46) h).0
literal_ends (integer n) b h = h
literal_ends (text s) b h = refl
literal_ends (content.items cs) b h = refl

prefix_proper : (op : UnOp) → is_proper (prefix_token op) ≡ true
prefix_proper un.Minus = refl
prefix_proper un.Plus = refl
prefix_proper un.Not = refl

prefix_ends : (op : UnOp) (b : ℕ) → eqb b 61 ≡ false → ends_before (prefix_token op) b ≡ true
prefix_ends un.Minus b h = refl
prefix_ends un.Plus b h = refl
prefix_ends un.Not b h = not_is (eqb b 61) h

infix_ends : (op : BinOp) → ends_before (token.Op op) 32 ≡ true
infix_ends bin.Less = refl
infix_ends bin.Greater = refl
infix_ends _ = refl

after_close : (b : Bracket) (ps : Pieces) → are_apart ps ≡ true → After (Some (token.Close b) ∷ ps)
after_close Round ps h = record { ends = refl; apart = h }
after_close Curly ps h = record { ends = refl; apart = h }

enclosed_apart : (b : Bool) (inner : Pieces → Pieces) → ((ps : Pieces) → After ps → are_apart (inner ps) ≡ true) → (ps : Pieces) → After ps → are_apart (enclose b inner ps) ≡ true
enclosed_apart true inner h ps a = h ps a
enclosed_apart false inner h ps a = h (Some (token.Close Round) ∷ ps) (after_close Round ps a.apart)

mutual
  apart_of : (e : Tree) → Proper e → (ps : Pieces) → After ps → are_apart (pieces e ps) ≡ true
  apart_of (literal c) h ps a = one_more (literal_token c) ps h (literal_ends c (front (joined_text ps)) a.ends) a.apart
  apart_of (reference s x) h ps a = one_more (token.Name s x) ps h (name_ends s x (front (joined_text ps)) a.ends) a.apart
  apart_of (unary op e) h ps a =
      let arg = enclose (nat_le (looseness e) 0) (pieces e) ps in
      one_more (prefix_token op) arg (prefix_proper op) (prefix_ends op (front (joined_text arg)) (enclosed_start (nat_le (looseness e) 0) (pieces e) (start e h) ps))
      (enclosed_apart (nat_le (looseness e) 0) (pieces e) (apart_of e h) ps a)
  apart_of (chain e rs) h ps a = enclosed_apart (nat_le (looseness e) (rests_level rs - 1)) (pieces e) (apart_of e h.0) (rest_pieces rs ps) (apart_of_rests rs h.1 ps a)
  apart_of (choice t y n) h ps a =
      let others = None ∷ Some token.Colon ∷ None ∷ pieces n ps in
      enclosed_apart (nat_le (looseness t) 6) (pieces t) (apart_of t h.0) (None ∷ Some token.Question ∷ None ∷ pieces y others)
      record { ends = refl; apart = apart_of y h.1 others record { ends = refl; apart = apart_of n h.2 ps a } }
  apart_of (or_else e f) h ps a =
      enclosed_apart (nat_le (looseness e) 6) (pieces e) (apart_of e h.0) (None ∷ Some token.OrElse ∷ None ∷ pieces f ps) record { ends = refl; apart = apart_of f h.1 ps a }
  apart_of (call x es) h ps a = one_more (token.Name Bare x) (Some (token.Open Round) ∷ item_pieces Round es ps) h.0 refl (apart_of_items Round es h.1 ps a)
  apart_of (items es) h ps a = apart_of_items Curly es h ps a

  apart_of_rests : (rs : Rests) → ProperRests rs → (ps : Pieces) → After ps → After (rest_pieces rs ps)
  apart_of_rests no_rests h ps a = a
  apart_of_rests (and_rest op e rs) h ps a =
      let arg = enclose (nat_le (looseness e) (level_of op - 1)) (pieces e) (rest_pieces rs ps) in
      record {
        ends = refl;
        apart = one_more (token.Op op) (None ∷ arg) refl (infix_ends op) (enclosed_apart (nat_le (looseness e) (level_of op - 1)) (pieces e) (apart_of e h.0) (rest_pieces rs ps) (apart_of_rests rs h.1 ps a));
      }

  apart_of_items : (b : Bracket) (es : Trees) → ProperTrees es → (ps : Pieces) → After ps → are_apart (item_pieces b es ps) ≡ true
  apart_of_items b no_trees h ps a = (after_close b ps a.apart).apart
  apart_of_items b (and_tree e es) h ps a = apart_of e h.0 (more_pieces b es ps) (apart_of_more b es h.1 ps a)

  apart_of_more : (b : Bracket) (es : Trees) → ProperTrees es → (ps : Pieces) → After ps → After (more_pieces b es ps)
  apart_of_more b no_trees h ps a = after_close b ps a.apart
  apart_of_more b (and_tree e es) h ps a = record { ends = refl; apart = apart_of e h.0 (more_pieces b es ps) (apart_of_more b es h.1 ps a) }

pub pieces_apart : (e : Tree) → Proper e → are_apart (pieces e []) ≡ true
pieces_apart e h = apart_of e h [] record { ends = refl; apart = refl }
