-- Strings, piece by piece.
use Rattle.std.proofs.Common.{◌≡◌, ℕ, suc, ◌+◌, ◌&&◌, ◌||◌, not, Bool, true, false, cond, eqb, List, [], ◌∷◌, ◌++◌, length, Option, Some, None, refl, ap, ◌∙◌, arith}
use Rattle.std.specs.Option.{option_map}
use Rattle.std.proofs.lemmas.Bool.{eqb-true}
use Rattle.std.proofs.lemmas.Bool.Decides.{nat_tests}
use Rattle.std.proofs.lemmas.List.{take_at}
use Rattle.ad_token.specs.declared.token.Token.TheVariants as token
use Rattle.ad_token.specs.Strings.{is_escapable, is_plain_byte, closing_quote, unescape_text, string_to, StringSays, nothing, plain, escape, backslash}
use Rattle.ad_token.specs.Lexing.{token_at}
use Rattle.ad_token.proofs.Escapes.{one_less}
use Rattle.ad_token.proofs.Pieces.{closing_step, and_false, at_quote, both, not_true}

-- a byte that stands for itself
record IsPlainByte (b : ℕ) : Type 0 where
  no_line : eqb b 10 ≡ false
  no_quote : eqb b 34 ≡ false
  no_backslash : eqb b 92 ≡ false

neither : (a b : Bool) → a || b ≡ false → (a ≡ false) × (b ≡ false)
neither true b h = cc
neither false b h = (refl, h)

plain_byte : (b : ℕ) → is_plain_byte b ≡ true → IsPlainByte b
plain_byte b h =
    let p = both (not (is_escapable b)) (not (eqb b 10)) h in
    let q = neither (eqb b 34) (eqb b 92) (not_true (is_escapable b) p.0) in
    record { no_line = not_true (eqb b 10) p.1; no_quote = q.0; no_backslash = q.1 }

escapable_no_line : (b : ℕ) → is_escapable b ≡ true → eqb b 10 ≡ false
escapable_no_line b h = grind (arith, nat_tests)

-- ---- what is written is read

one_more : (o : Option ℕ) (n : ℕ) → o ≡ Some n → option_map (λ k. k + 1) o ≡ Some (suc n)
one_more o n e = ap (λ p. option_map (λ k. k + 1) p) e ∙ ap (λ k. Some k) (omega arith)

held : (b : ℕ) (rest : List ℕ) (n : ℕ) → eqb b 10 ≡ false → closing_quote false rest ≡ Some n → closing_quote false (92 ∷ b ∷ rest) ≡ Some (suc (suc n))
held b rest n line e =
    let inner : closing_quote true (b ∷ rest) ≡ Some (suc n) =
    closing_step true b rest line (and_false (eqb b 34))
    ∙ ap (λ k. option_map (λ m. m + 1) (closing_quote k rest)) (and_false (eqb b 92))
    ∙ one_more (closing_quote false rest) n e in
    one_more (closing_quote true (b ∷ rest)) (suc n) inner

closes : (written said bs : List ℕ) → StringSays written said → closing_quote false (written ++ 34 ∷ bs) ≡ Some (length written)
closes _ _ bs nothing = refl
closes _ _ bs (plain {b = b} {written = ws} {said = ss} h says) =
    let p = plain_byte b h in
    closing_step false b (ws ++ 34 ∷ bs) p.no_line (ap (λ c. c && true) p.no_quote)
    ∙ ap (λ c. option_map (λ m. m + 1) (closing_quote (c && true) (ws ++ 34 ∷ bs))) p.no_backslash
    ∙ one_more (closing_quote false (ws ++ 34 ∷ bs)) (length ws) (closes ws ss bs says)
closes _ _ bs (escape {b = b} {written = ws} {said = ss} h says) = held b (ws ++ 34 ∷ bs) (length ws) (escapable_no_line b h) (closes ws ss bs says)
closes _ _ bs (backslash {b = b} {written = ws} {said = ss} h says) = held b (ws ++ 34 ∷ bs) (length ws) (plain_byte b h).no_line (closes ws ss bs says)

unescapes : (written said : List ℕ) → StringSays written said → unescape_text false written ≡ said
unescapes _ _ nothing = refl
unescapes _ _ (plain {b = b} {written = ws} {said = ss} h says) =
    ap (λ c. cond c (unescape_text true ws) (b ∷ unescape_text false ws)) (plain_byte b h).no_backslash ∙ ap (λ l. b ∷ l) (unescapes ws ss says)
unescapes _ _ (escape {b = b} {written = ws} {said = ss} h says) =
    ap (λ c. cond c (b ∷ unescape_text false ws) (92 ∷ b ∷ unescape_text false ws)) h ∙ ap (λ l. b ∷ l) (unescapes ws ss says)
unescapes _ _ (backslash {b = b} {written = ws} {said = ss} h says) =
    let p = plain_byte b h in
    let no_escape : is_escapable b ≡ false = λ i. p.no_quote i || p.no_backslash i in
    ap (λ c. cond c (b ∷ unescape_text false ws) (92 ∷ b ∷ unescape_text false ws)) no_escape ∙ ap (λ l. 92 ∷ b ∷ l) (unescapes ws ss says)

pub written_at : (written said bs : List ℕ) → StringSays written said → token_at (34 ∷ (written ++ 34 ∷ bs)) ≡ (token.Str said, length written + 2)
written_at written said bs says =
    at_quote (written ++ 34 ∷ bs)
    ∙ ap (λ o. string_to o (written ++ 34 ∷ bs)) (closes written said bs says)
    ∙ ap (λ l. (token.Str (unescape_text false l), length written + 2)) (take_at written (34 ∷ bs) _ refl)
    ∙ ap (λ l. (token.Str l, length written + 2)) (unescapes written said says)

-- ---- and nothing else is

-- what is written before a closing quote, where a backslash stands before it or none
abbrev before : Bool → List ℕ → List ℕ
before true ws = 92 ∷ ws
before false ws = ws

record IsClosed (escaped : Bool) (bs : List ℕ) : Type 0 where
  written : List ℕ
  said : List ℕ
  more : List ℕ
  parts : bs ≡ written ++ 34 ∷ more
  says : StringSays (before escaped written) said

plain_from : (b : ℕ) → eqb b 10 ≡ false → eqb b 34 ≡ false → eqb b 92 ≡ false → is_plain_byte b ≡ true
plain_from b line quote slash = λ i. not (quote i || slash i) && not (line i)

closed : (escaped : Bool) (bs : List ℕ) (n : ℕ) → closing_quote escaped bs ≡ Some n → IsClosed escaped bs
closed escaped [] n e = cc
closed escaped (b ∷ bs) n e = by (eqb b 10) (eqb b 34) (eqb b 92) escaped refl refl refl (λ k m h. closed k bs m h) e
  where
    -- after one byte more
    plainly : IsClosed false bs → is_plain_byte b ≡ true → IsClosed false (b ∷ bs)
    plainly r h = record { written = b ∷ r.written; said = b ∷ r.said; more = r.more; parts = ap (λ l. b ∷ l) r.parts; says = plain h r.says }

    holding : IsClosed true bs → b ≡ 92 → IsClosed false (b ∷ bs)
    holding r is = record { written = 92 ∷ r.written; said = r.said; more = r.more; parts = (λ i. is i ∷ r.parts i); says = r.says }

    escaping : IsClosed false bs → is_escapable b ≡ true → IsClosed true (b ∷ bs)
    escaping r h = record { written = b ∷ r.written; said = b ∷ r.said; more = r.more; parts = ap (λ l. b ∷ l) r.parts; says = escape h r.says }

    keeping : IsClosed false bs → is_plain_byte b ≡ true → IsClosed true (b ∷ bs)
    keeping r h = record { written = b ∷ r.written; said = 92 ∷ b ∷ r.said; more = r.more; parts = ap (λ l. b ∷ l) r.parts; says = backslash h r.says }

    by : (t u w k : Bool) → eqb b 10 ≡ t → eqb b 34 ≡ u → eqb b 92 ≡ w → ((k : Bool) (m : ℕ) → closing_quote k bs ≡ Some m → IsClosed k bs)
        → cond t None (cond (u && not k) (Some 0) (option_map (λ m. m + 1) (closing_quote (w && not k) bs))) ≡ Some n → IsClosed k (b ∷ bs)
    by true u w k line quote slash rest h = cc
    by false true w false line quote slash rest h = record { written = []; said = []; more = bs; parts = ap (λ c. c ∷ bs) (eqb-true b 34 quote); says = nothing }
    by false true true true line quote slash rest h = let m = one_less (closing_quote false bs) n h in escaping (rest false m.0 m.1) (λ i. quote i || slash i)
    by false true false true line quote slash rest h = let m = one_less (closing_quote false bs) n h in escaping (rest false m.0 m.1) (λ i. quote i || slash i)
    by false false true false line quote slash rest h = let m = one_less (closing_quote true bs) n h in holding (rest true m.0 m.1) (eqb-true b 92 slash)
    by false false false false line quote slash rest h = let m = one_less (closing_quote false bs) n h in plainly (rest false m.0 m.1) (plain_from b line quote slash)
    by false false true true line quote slash rest h = let m = one_less (closing_quote false bs) n h in escaping (rest false m.0 m.1) (λ i. quote i || slash i)
    by false false false true line quote slash rest h = let m = one_less (closing_quote false bs) n h in keeping (rest false m.0 m.1) (plain_from b line quote slash)

pub unclosed_at : (bs : List ℕ) → ((written said more : List ℕ) → bs ≡ written ++ 34 ∷ more → StringSays written said → ⊥) → token_at (34 ∷ bs) ≡ (token.Bad, 1)
unclosed_at bs never = at_quote bs ∙ ap (λ o. string_to o bs) (none_there (closing_quote false bs) refl)
  where
    none_there : (o : Option ℕ) → closing_quote false bs ≡ o → o ≡ None
    none_there None e = refl
    none_there (Some n) e = let r = closed false bs n e in absurd (never r.written r.said r.more r.parts r.says)
