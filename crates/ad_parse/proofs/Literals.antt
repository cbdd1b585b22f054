-- The canonical text of a value's tree is the value's literal, and within the limits it is read as that tree.
use Rattle.std.proofs.Common.{◌≡◌, ◌≢◌, ℕ, zero, suc, ℤ, pos, negsuc, ◌+◌, ◌-◌, max, ◌^◌, ◌<◌, ◌≤◌, ◌==◌, Bool, true, false, cond, List, [], ◌∷◌, ◌++◌, length, codes, refl, sym, ap, ◌∙◌, subst, arith}
use Rattle.std.specs.Fmt.{digits, decimal, signed_decimal}
use Rattle.std.specs.Ordering.{int_eq}
use Rattle.std.proofs.lemmas.Bool.{eqb-true, eqb-false, lt-ltb, ltb-true}
use Rattle.std.proofs.lemmas.Bool.Decides.{Decides-int_eq}
use Rattle.ad_value.specs.Content.{Content, Contents, undefined, error, truth, integer, text, no_contents, and_content}
use Rattle.ad_value.specs.Content as value
use Rattle.ad_value.specs.Literal.{least_integer, integer_text, literal_text, items_text, more_items_text}
use Rattle.ad_tree.specs.Tree.{Tree, literal, reference, unary, chain, choice, or_else, call, items, Rests, no_rests, and_rest, Trees, no_trees, and_tree}
use Rattle.ad_tree.specs.ValueTree.{minus_tree, least_tree, integer_tree, value_tree, value_trees}
use Rattle.ad_token.specs.declared.token.Bracket.{Bracket}
use Rattle.ad_token.specs.declared.token.Bracket.TheVariants.{Curly}
use Rattle.ad_token.specs.declared.token.Token.TheVariants as token
use Rattle.ad_token.specs.declared.token.Placed.{Placed}
use Rattle.ad_token.specs.Lexing.{tokens_of}
use Rattle.ad_parse.specs.Grammar.{IsCond, alone, chosen, otherwise, IsLevel, operand, single, chained, IsRests, ended, more, IsOperand, prefixed, literally, named, called, bracketed, listed, IsItems, none, some, IsMore, last, another, IsText}
use Rattle.ad_parse.specs.Canon.{canon, canon_items, canon_more}
use Rattle.ad_parse.specs.Spelling.{spell, spell_items, spell_more}
use Rattle.ad_parse.specs.ExprText.{IsExprText}
use Rattle.ad_parse.specs.ValueText.{IsShortInteger, IsPlain, ArePlain, nesting, nesting_of_items, HasReadableLiteral}
use Rattle.ad_parse.proofs.Again.{mark, place, place-append, alone_at, lift, spelled_again}
use Rattle.ad_parse.proofs.Pieces.{Proper, ProperTrees}
use Rattle.ad_parse.proofs.Reread.{canon_spells}
use Rattle.ad_parse.proofs.Proper.{what_is_read_is_proper}

-- ---- the canonical text

not_least : (n : ℕ) → n ≢ 9223372036854775807 → int_eq (negsuc n) least_integer ≡ false
not_least n other = by (int_eq (negsuc n) least_integer) refl
  where
    magnitude : ℤ → ℕ
    magnitude (pos k) = 0
    magnitude (negsuc k) = k

    by : (b : Bool) → int_eq (negsuc n) least_integer ≡ b → b ≡ false
    by true is = absurd (other (ap magnitude ((Decides-int_eq (negsuc n) least_integer).0 is)))
    by false is = refl

least_canon : canon least_tree ≡ codes "-9223372036854775807 - 1"
unfolding digits
least_canon = refl

integer_canon : (n : ℤ) → canon (integer_tree n) ≡ integer_text n
integer_canon (pos n) = refl
integer_canon (negsuc n) = by (n == 9223372036854775807) refl
  where
    by : (b : Bool) → (n == 9223372036854775807) ≡ b → canon (cond b least_tree (minus_tree (pos (n + 1)))) ≡ integer_text (negsuc n)
    by true is = subst (λ k. canon least_tree ≡ integer_text (negsuc k)) (sym (eqb-true n 9223372036854775807 is)) least_canon
    by false is =
        let one : n + 1 ≡ suc n = omega arith in
        ap (λ k. 45 ∷ decimal k) one ∙ sym (ap (λ b. cond b (codes "-9223372036854775807 - 1") (signed_decimal (negsuc n))) (not_least n (eqb-false n 9223372036854775807 is)))

mutual
  pub value_canon : (c : Content) → canon (value_tree c) ≡ literal_text c
  value_canon undefined = refl
  value_canon error = refl
  value_canon (truth b) = refl
  value_canon (integer n) = integer_canon n
  value_canon (text s) = refl
  value_canon (value.items cs) = ap (λ l. codes "{" ++ l ++ codes "}") (items_canon cs)

  items_canon : (cs : Contents) → canon_items (value_trees cs) ≡ items_text cs
  items_canon no_contents = refl
  items_canon (and_content c cs) = λ i. value_canon c i ++ more_canon cs i

  more_canon : (cs : Contents) → canon_more (value_trees cs) ≡ more_items_text cs
  more_canon no_contents = refl
  more_canon (and_content c cs) = λ i. codes ", " ++ value_canon c i ++ more_canon cs i

-- ---- its tokens can be read

integer_proper : (n : ℤ) → IsShortInteger n → Proper (integer_tree n)
integer_proper (pos n) small = lt-ltb n (2 ^ 63) small
integer_proper (negsuc n) small = by (n == 9223372036854775807) refl
  where
    by : (b : Bool) → (n == 9223372036854775807) ≡ b → Proper (cond b least_tree (minus_tree (pos (n + 1))))
    by true is = (refl, (refl, tt))
    by false is = let other : n ≢ 9223372036854775807 = eqb-false n 9223372036854775807 is in lt-ltb (n + 1) (2 ^ 63) (omega arith)

mutual
  value_proper : (c : Content) → IsPlain c → Proper (value_tree c)
  value_proper undefined h = refl
  value_proper error h = refl
  value_proper (truth true) h = refl
  value_proper (truth false) h = refl
  value_proper (integer n) h = integer_proper n h
  value_proper (text s) h = h
  value_proper (value.items cs) h = items_proper cs h

  items_proper : (cs : Contents) → ArePlain cs → ProperTrees (value_trees cs)
  items_proper no_contents h = tt
  items_proper (and_content c cs) h = (value_proper c h.0, items_proper cs h.1)

-- ---- and spell it

-- an operand's tokens before others
abbrev Spells : ℕ → Tree → Type 0
Spells n e = (vs : List Placed) → IsCond n (place (spell e) vs) e vs

from_operand : (n : ℕ) (ts vs : List Placed) (e : Tree) → IsOperand n ts e vs → IsCond n ts e vs
from_operand n ts vs e a = alone_at n ts vs e (lift 0 6 n ts vs e (omega arith) (operand a))

minus_operand : (n k : ℕ) (vs : List Placed) → IsOperand (suc (suc n)) (place (spell (minus_tree (pos k))) vs) (minus_tree (pos k)) vs
minus_operand n k vs = prefixed refl (literally refl)

least_spells : (n : ℕ) → Spells (suc (suc n)) least_tree
least_spells n vs =
    let one : IsLevel 1 (suc (suc n)) (mark (token.Int (pos 1)) ∷ vs) (literal (integer (pos 1))) vs = single (operand (literally refl)) in
    let whole : IsLevel 2 (suc (suc n)) (place (spell least_tree) vs) least_tree vs = chained (single (operand (minus_operand n 9223372036854775807 _))) (more refl refl one ended) in
    alone_at (suc (suc n)) (place (spell least_tree) vs) vs least_tree (lift 2 6 (suc (suc n)) (place (spell least_tree) vs) vs least_tree (omega arith) whole)

integer_spells : (n : ℕ) (k : ℤ) → nesting (integer k) < n → Spells n (integer_tree k)
integer_spells zero k less = absurd (omega (arith, less))
integer_spells (suc n) (pos k) less = λ vs. from_operand (suc n) _ vs (literal (integer (pos k))) (literally refl)
integer_spells (suc zero) (negsuc k) less = absurd (omega (arith, less))
integer_spells (suc (suc n)) (negsuc k) less = by (k == 9223372036854775807)
  where
    by : (b : Bool) → Spells (suc (suc n)) (cond b least_tree (minus_tree (pos (k + 1))))
    by true = least_spells n
    by false = λ vs. from_operand (suc (suc n)) _ vs (minus_tree (pos (k + 1))) (minus_operand n (k + 1) vs)

mutual
  value_spells : (n : ℕ) (c : Content) → nesting c < n → Spells n (value_tree c)
  value_spells zero c less = absurd (omega (arith, less))
  value_spells (suc n) undefined less = λ vs. from_operand (suc n) _ vs (literal undefined) (literally refl)
  value_spells (suc n) error less = λ vs. from_operand (suc n) _ vs (literal error) (literally refl)
  value_spells (suc n) (truth true) less = λ vs. from_operand (suc n) _ vs (literal (truth true)) (literally refl)
  value_spells (suc n) (truth false) less = λ vs. from_operand (suc n) _ vs (literal (truth false)) (literally refl)
  value_spells (suc n) (integer k) less = integer_spells (suc n) k less
  value_spells (suc n) (text s) less = λ vs. from_operand (suc n) _ vs (literal (text s)) (literally refl)
  value_spells (suc n) (value.items cs) less = λ vs. from_operand (suc n) _ vs (items (value_trees cs)) (listed refl (items_spell n cs (omega (arith, less)) vs))

  items_spell : (n : ℕ) (cs : Contents) → nesting_of_items cs ≤ n → (vs : List Placed) → IsItems Curly n (place (spell_items Curly (value_trees cs)) vs) (value_trees cs) vs
  items_spell n no_contents less vs = none refl
  items_spell n (and_content c cs) less vs =
      subst (λ ts. IsItems Curly n ts (value_trees (and_content c cs)) vs) (sym (place-append (spell (value_tree c)) (spell_more Curly (value_trees cs)) vs))
      (some (value_spells n c (omega (arith, less)) (place (spell_more Curly (value_trees cs)) vs)) (more_spell n cs (omega (arith, less)) vs))

  more_spell : (n : ℕ) (cs : Contents) → nesting_of_items cs ≤ n → (vs : List Placed) → IsMore Curly n (place (spell_more Curly (value_trees cs)) vs) (value_trees cs) vs
  more_spell n no_contents less vs = last refl
  more_spell n (and_content c cs) less vs =
      subst (λ ts. IsMore Curly n (mark token.Comma ∷ ts) (value_trees (and_content c cs)) vs) (sym (place-append (spell (value_tree c)) (spell_more Curly (value_trees cs)) vs))
      (another refl (value_spells n c (omega (arith, less)) (place (spell_more Curly (value_trees cs)) vs)) (more_spell n cs (omega (arith, less)) vs))

canon_says : (c : Content) → HasReadableLiteral c → IsExprText (canon (value_tree c)) (value_tree c)
canon_says c h =
    let e = value_tree c in
    let short : length (canon e) ≤ 8192 = subst (λ bs. length bs ≤ 8192) (sym (value_canon c)) h.short in
    let spells : IsText (place (spell e) []) e = value_spells 65 c (omega (arith, h.shallow)) [] in
    record {
      short = short;
      spelled = spelled_again (place (spell e) []) (tokens_of (canon e)) e spells (canon_spells e (value_proper c h.plain));
      prints_short = short;
    }

pub literal_says : (c : Content) → HasReadableLiteral c → IsExprText (literal_text c) (value_tree c)
literal_says c h = subst (λ bs. IsExprText bs (value_tree c)) (value_canon c) (canon_says c h)

-- ---- what is read is within the limits

integer_plain : (n : ℤ) → Proper (integer_tree n) → IsShortInteger n
integer_plain (pos n) h = ltb-true n (2 ^ 63) h
integer_plain (negsuc n) h = by (n == 9223372036854775807) refl h
  where
    by : (b : Bool) → (n == 9223372036854775807) ≡ b → Proper (cond b least_tree (minus_tree (pos (n + 1)))) → n < 2 ^ 63
    by true is h = let same = eqb-true n 9223372036854775807 is in omega (arith, same)
    by false is h = let less = ltb-true (n + 1) (2 ^ 63) h in omega (arith, less)

mutual
  value_plain : (c : Content) → Proper (value_tree c) → IsPlain c
  value_plain undefined h = tt
  value_plain error h = tt
  value_plain (truth b) h = tt
  value_plain (integer n) h = integer_plain n h
  value_plain (text s) h = h
  value_plain (value.items cs) h = items_plain cs h

  items_plain : (cs : Contents) → ProperTrees (value_trees cs) → ArePlain cs
  items_plain no_contents h = tt
  items_plain (and_content c cs) h = (value_plain c h.0, items_plain cs h.1)

-- how many brackets and operators hold the innermost operand of a tree
abbrev mutual
  depth : Tree → ℕ
  depth (literal c) = 0
  depth (reference s x) = 0
  depth (unary op e) = 1 + depth e
  depth (chain e rs) = max (depth e) (depth_of_rests rs)
  depth (choice t y n) = max (depth t) (1 + max (depth y) (depth n))
  depth (or_else e f) = max (depth e) (1 + depth f)
  depth (call x es) = depth_of_items es
  depth (items es) = depth_of_items es

  depth_of_rests : Rests → ℕ
  depth_of_rests no_rests = 0
  depth_of_rests (and_rest op e rs) = max (depth e) (depth_of_rests rs)

  depth_of_items : Trees → ℕ
  depth_of_items no_trees = 0
  depth_of_items (and_tree e es) = max (1 + depth e) (depth_of_items es)

mutual
  cond_depth : {n : ℕ} {ts us : List Placed} {e : Tree} → IsCond n ts e us → depth e < n
  cond_depth (alone a) = level_depth a
  cond_depth (chosen a i b j c) = omega (arith, level_depth a, cond_depth b, cond_depth c)
  cond_depth (otherwise a i b) = omega (arith, level_depth a, cond_depth b)

  level_depth : {l n : ℕ} {ts us : List Placed} {e : Tree} → IsLevel l n ts e us → depth e < n
  level_depth (operand a) = operand_depth a
  level_depth (single a) = level_depth a
  level_depth (chained a b) = omega (arith, level_depth a, rests_depth b, level_depth a)

  rests_depth : {l n : ℕ} {ts us : List Placed} {rs : Rests} → IsRests l n ts rs us → depth_of_rests rs ≤ n - 1
  rests_depth ended = omega arith
  rests_depth (more i k a b) = omega (arith, level_depth a, rests_depth b)

  operand_depth : {n : ℕ} {ts us : List Placed} {e : Tree} → IsOperand n ts e us → depth e < n
  operand_depth (prefixed i a) = omega (arith, operand_depth a)
  operand_depth (literally i) = omega arith
  operand_depth (named i) = omega arith
  operand_depth (called i j a) = omega (arith, items_depth a)
  operand_depth (bracketed i a j) = omega (arith, cond_depth a)
  operand_depth (listed i a) = omega (arith, items_depth a)

  items_depth : {b : Bracket} {n : ℕ} {ts us : List Placed} {es : Trees} → IsItems b n ts es us → depth_of_items es ≤ n
  items_depth (none i) = omega arith
  items_depth (some a c) = omega (arith, cond_depth a, more_depth c)

  more_depth : {b : Bracket} {n : ℕ} {ts us : List Placed} {es : Trees} → IsMore b n ts es us → depth_of_items es ≤ n
  more_depth (last i) = omega arith
  more_depth (another i a c) = omega (arith, cond_depth a, more_depth c)

integer_depth : (n : ℤ) → nesting (integer n) ≤ depth (integer_tree n)
integer_depth (pos n) = omega arith
integer_depth (negsuc n) = by (n == 9223372036854775807)
  where
    by : (b : Bool) → 1 ≤ depth (cond b least_tree (minus_tree (pos (n + 1))))
    by true = omega arith
    by false = omega arith

mutual
  value_depth : (c : Content) → nesting c ≤ depth (value_tree c)
  value_depth undefined = omega arith
  value_depth error = omega arith
  value_depth (truth b) = omega arith
  value_depth (integer n) = integer_depth n
  value_depth (text s) = omega arith
  value_depth (value.items cs) = contents_depth cs

  contents_depth : (cs : Contents) → nesting_of_items cs ≤ depth_of_items (value_trees cs)
  contents_depth no_contents = omega arith
  contents_depth (and_content c cs) = omega (arith, value_depth c, contents_depth cs)

pub says_within : (c : Content) → IsExprText (literal_text c) (value_tree c) → HasReadableLiteral c
says_within c is =
    let deep = cond_depth is.spelled in
    record {
      plain = value_plain c (what_is_read_is_proper (literal_text c) (value_tree c) is.spelled);
      shallow = omega (arith, deep, value_depth c);
      short = is.short;
    }
