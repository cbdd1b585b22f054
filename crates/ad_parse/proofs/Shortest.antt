-- No text that spells a tree has fewer tokens than its canonical text.
use Rattle.std.proofs.Common.{◌≡◌, ℕ, ◌+◌, ◌-◌, ◌≤◌, Bool, true, false, cond, List, [], ◌∷◌, ◌++◌, length, refl, ap, arith}
use Rattle.std.specs.Prelude.{nat_le}
use Rattle.std.proofs.lemmas.Bool.{le-leb}
use Rattle.std.proofs.lemmas.List.{length-append, length-map}
use Rattle.ad_tree.specs.Tree.{Tree, literal, reference, unary, chain, call, items, Rests, and_rest, Trees}
use Rattle.ad_token.specs.declared.token.Bracket.{Bracket}
use Rattle.ad_token.specs.declared.token.Bracket.TheVariants.{Round}
use Rattle.ad_token.specs.declared.token.Token.{Token}
use Rattle.ad_token.specs.declared.token.Token.TheVariants as token
use Rattle.ad_token.specs.declared.token.Placed.{Placed}
use Rattle.ad_token.specs.Lexing.{tokens_of}
use Rattle.ad_token.specs.Canonical.{token_of, tokens_in}
use Rattle.ad_parse.specs.Operators.{level_of}
use Rattle.ad_parse.specs.Grammar.{IsCond, alone, chosen, otherwise, IsLevel, operand, single, chained, IsRests, ended, more, IsOperand, prefixed, literally, named, called, bracketed, listed, IsItems, none, some, IsMore, last, another}
use Rattle.ad_parse.specs.Canon.{looseness, canon}
use Rattle.ad_parse.specs.Spelling.{spell_within, spell, spell_rests, spell_items, spell_more}
use Rattle.ad_parse.proofs.Again.{rests_op}
use Rattle.ad_parse.proofs.Reread.{canon_spells}
use Rattle.ad_parse.proofs.Proper.{what_is_read_is_proper}

-- how many tokens spell a tree, where l is the loosest that needs no brackets
abbrev size : Tree → ℕ
size e = length (spell e)

abbrev size_within : ℕ → Tree → ℕ
size_within l e = length (spell_within l (looseness e) (spell e))

enclosed : (b : Bool) (ts : List Token) → length (cond b ts (token.Open Round ∷ (ts ++ token.Close Round ∷ []))) ≤ 2 + length ts
enclosed true ts = omega arith
enclosed false ts = omega (arith, length-append ts (token.Close Round ∷ []))

within_most : (l : ℕ) (e : Tree) → size_within l e ≤ 2 + size e
within_most l e = enclosed (nat_le (looseness e) l) (spell e)

bare : (b : Bool) (ts : List Token) → b ≡ true → length (cond b ts (token.Open Round ∷ (ts ++ token.Close Round ∷ []))) ≡ length ts
bare true ts h = refl
bare false ts h = cc

within_tight : (l : ℕ) (e : Tree) → looseness e ≤ l → size_within l e ≡ size e
within_tight l e h = bare (nat_le (looseness e) l) (spell e) (le-leb (looseness e) l h)

at_least : (b : Bool) (ts : List Token) → length ts ≤ length (cond b ts (token.Open Round ∷ (ts ++ token.Close Round ∷ [])))
at_least true ts = omega arith
at_least false ts = omega (arith, length-append ts (token.Close Round ∷ []))

within_least : (l : ℕ) (e : Tree) → size e ≤ size_within l e
within_least l e = at_least (nat_le (looseness e) l) (spell e)

-- what an operand that needs no brackets takes, it takes at each place
tight : (e : Tree) (m k : ℕ) → looseness e ≡ 0 → size e ≤ m → size_within k e ≤ m
tight e m k h less = let same = within_tight k e (omega (arith, h)) in omega (arith, same, less)

mutual
  short_cond : {n : ℕ} {ts us : List Placed} {e : Tree} → IsCond n ts e us → size e + length us ≤ length ts
  short_cond (alone {e = e} a) = omega (arith, short_level a 6 (omega arith), within_least 6 e)
  short_cond (chosen {t = t} {y = y} {e = e} a i b j c) =
      omega (
        arith,
        short_level a 6 (omega arith),
        short_cond b,
        short_cond c,
        length-append (spell_within 6 (looseness t) (spell t)) (token.Question ∷ (spell y ++ (token.Colon ∷ spell e))),
        length-append (spell y) (token.Colon ∷ spell e),
      )
  short_cond (otherwise {e = e} {f = f} a i b) =
      omega (arith, short_level a 6 (omega arith), short_cond b, length-append (spell_within 6 (looseness e) (spell e)) (token.OrElse ∷ spell f))

  -- at a place that takes level l, and brackets round what is looser
  short_level : {l n : ℕ} {ts us : List Placed} {e : Tree} → IsLevel l n ts e us → (k : ℕ) → l ≤ k → size_within k e + length us ≤ length ts
  short_level (operand a) k h = short_operand a k
  short_level (single a) k h = short_level a k (omega arith)
  short_level (chained {l = l} {op = op} {e = e} {f = f} {rs = rs} a b) k h =
      let at = rests_op b in
      let less : level_of op - 1 ≡ l = omega arith in
      let whole = within_tight k (chain e (and_rest op f rs)) (omega arith) in
      let first : size_within (level_of op - 1) e ≡ size_within l e = ap (λ m. size_within m e) less in
      omega (arith, whole, first, short_level a l (omega arith), short_rests b, length-append (spell_within (level_of op - 1) (looseness e) (spell e)) (spell_rests (and_rest op f rs)))

  short_rests : {l n : ℕ} {ts us : List Placed} {rs : Rests} → IsRests l n ts rs us → length (spell_rests rs) + length us ≤ length ts
  short_rests ended = omega arith
  short_rests (more {l = l} {op = op} {e = e} {rs = rs} i at a b) =
      let less : level_of op - 1 ≡ l = omega arith in
      let first : size_within (level_of op - 1) e ≡ size_within l e = ap (λ m. size_within m e) less in
      omega (arith, first, short_level a l (omega arith), short_rests b, length-append (spell_within (level_of op - 1) (looseness e) (spell e)) (spell_rests rs))

  short_operand : {n : ℕ} {ts us : List Placed} {e : Tree} → IsOperand n ts e us → (k : ℕ) → size_within k e + length us ≤ length ts
  short_operand (prefixed {op = op} {e = e} i a) k =
      let whole = within_tight k (unary op e) (omega arith) in
      omega (arith, whole, short_operand a 0)
  short_operand (literally {c = c} i) k = let whole = within_tight k (literal c) (omega arith) in omega (arith, whole)
  short_operand (named {s = s} {x = x} i) k = let whole = within_tight k (reference s x) (omega arith) in omega (arith, whole)
  short_operand (called {x = x} {es = es} i j a) k = let whole = within_tight k (call x es) (omega arith) in omega (arith, whole, short_items a)
  short_operand (bracketed {e = e} i a j) k = omega (arith, within_most k e, short_cond a)
  short_operand (listed {es = es} i a) k = let whole = within_tight k (items es) (omega arith) in omega (arith, whole, short_items a)

  short_items : {b : Bracket} {n : ℕ} {ts us : List Placed} {es : Trees} → IsItems b n ts es us → length (spell_items b es) + length us ≤ length ts
  short_items (none i) = omega arith
  short_items {b} (some {e = e} {es = es} a c) = omega (arith, short_cond a, short_more c, length-append (spell e) (spell_more b es))

  short_more : {b : Bracket} {n : ℕ} {ts us : List Placed} {es : Trees} → IsMore b n ts es us → length (spell_more b es) + length us ≤ length ts
  short_more (last i) = omega arith
  short_more {b} (another {e = e} {es = es} i a c) = omega (arith, short_cond a, short_more c, length-append (spell e) (spell_more b es))

pub fewest_tokens : (n : ℕ) (text : List ℕ) (e : Tree) → IsCond n (tokens_of text) e [] → length (tokens_of (canon e)) ≤ length (tokens_of text)
fewest_tokens n text e is =
    let same : length (tokens_in (tokens_of (canon e))) ≡ length (spell e) = ap length (canon_spells e (what_is_read_is_proper text e is)) in
    omega (arith, short_cond is, same, length-map (tokens_of (canon e)) token_of)
