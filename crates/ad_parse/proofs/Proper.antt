-- What a text says holds names and literals that can be read.
use Rattle.std.proofs.Common.{◌≡◌, ℕ, List, [], ◌∷◌, true, Option, Some, None, refl, ap, subst}
use Rattle.std.specs.List.{All}
use Rattle.std.proofs.lemmas.List.Elements.{All-head, All-tail}
use Rattle.ad_value.specs.Content.{Content}
use Rattle.ad_tree.specs.Tree.{Tree, Rests, Trees}
use Rattle.ad_token.specs.declared.token.Bracket.{Bracket}
use Rattle.ad_token.specs.declared.token.Token.{Token}
use Rattle.ad_token.specs.declared.token.Token.TheVariants as token
use Rattle.ad_token.specs.declared.token.Placed.{Placed}
use Rattle.ad_token.specs.Lexing.{tokens_of}
use Rattle.ad_token.specs.Canonical.{is_proper, is_fit, token_of}
use Rattle.ad_token.proofs.Proper.{tokens_fit}
use Rattle.ad_parse.specs.Operators.{literal_of}
use Rattle.ad_parse.specs.Grammar.{IsCond, alone, chosen, otherwise, IsLevel, operand, single, chained, IsRests, ended, more, IsOperand, prefixed, literally, named, called, bracketed, listed, IsItems, none, some, IsMore, last, another}
use Rattle.ad_parse.specs.Spelling.{literal_token}
use Rattle.ad_parse.proofs.Pieces.{Proper, ProperRests, ProperTrees}

-- each token stands in no expression, or can be read
abbrev Fit : List Placed → Type 0
Fit [] = Unit {0}
Fit (p ∷ ts) = (is_fit p.token ≡ true) × Fit ts

fit : (ts : List Placed) → All (λ p. is_fit (token_of p) ≡ true) ts → Fit ts
fit [] h = tt
fit (p ∷ ts) h = (All-head (λ p. is_fit (token_of p) ≡ true) p ts h, fit ts (All-tail (λ p. is_fit (token_of p) ≡ true) p ts h))

abbrev token_from : Option Content → Token
token_from None = token.Bad
token_from (Some c) = literal_token c

literal_proper : (k : Token) (c : Content) → literal_of k ≡ Some c → is_fit k ≡ true → is_proper (literal_token c) ≡ true
literal_proper token.Undefined c h f = subst (λ t. is_proper t ≡ true) (ap token_from h) refl
literal_proper token.Error c h f = subst (λ t. is_proper t ≡ true) (ap token_from h) refl
literal_proper token.True c h f = subst (λ t. is_proper t ≡ true) (ap token_from h) refl
literal_proper token.False c h f = subst (λ t. is_proper t ≡ true) (ap token_from h) refl
literal_proper (token.Int n) c h f = subst (λ t. is_proper t ≡ true) (ap token_from h) f
literal_proper (token.Str s) c h f = subst (λ t. is_proper t ≡ true) (ap token_from h) f
literal_proper _ c h f = cc

mutual
  proper_cond : {n : ℕ} {ts us : List Placed} {e : Tree} → IsCond n ts e us → Fit ts → Proper e × Fit us
  proper_cond (alone a) f = proper_level a f
  proper_cond (chosen a i b j c) f = let x = proper_level a f in let y = proper_cond b x.1.1 in let z = proper_cond c y.1.1 in ((x.0, y.0, z.0), z.1)
  proper_cond (otherwise a i b) f = let x = proper_level a f in let y = proper_cond b x.1.1 in ((x.0, y.0), y.1)

  proper_level : {l n : ℕ} {ts us : List Placed} {e : Tree} → IsLevel l n ts e us → Fit ts → Proper e × Fit us
  proper_level (operand a) f = proper_operand a f
  proper_level (single a) f = proper_level a f
  proper_level (chained a b) f = let x = proper_level a f in let y = proper_rests b x.1 in ((x.0, y.0), y.1)

  proper_rests : {l n : ℕ} {ts us : List Placed} {rs : Rests} → IsRests l n ts rs us → Fit ts → ProperRests rs × Fit us
  proper_rests ended f = (tt, f)
  proper_rests (more i k a b) f = let x = proper_level a f.1 in let y = proper_rests b x.1 in ((x.0, y.0), y.1)

  proper_operand : {n : ℕ} {ts us : List Placed} {e : Tree} → IsOperand n ts e us → Fit ts → Proper e × Fit us
  proper_operand (prefixed i a) f = proper_operand a f.1
  proper_operand (literally {p = p} {c = c} i) f = (literal_proper p.token c i f.0, f.1)
  proper_operand (named i) f = (subst (λ t. is_fit t ≡ true) i f.0, f.1)
  proper_operand (called i j a) f = let x = proper_items a f.1.1 in ((subst (λ t. is_fit t ≡ true) i f.0, x.0), x.1)
  proper_operand (bracketed i a j) f = let x = proper_cond a f.1 in (x.0, x.1.1)
  proper_operand (listed i a) f = proper_items a f.1

  proper_items : {b : Bracket} {n : ℕ} {ts us : List Placed} {es : Trees} → IsItems b n ts es us → Fit ts → ProperTrees es × Fit us
  proper_items (none i) f = (tt, f.1)
  proper_items (some a c) f = let x = proper_cond a f in let y = proper_more c x.1 in ((x.0, y.0), y.1)

  proper_more : {b : Bracket} {n : ℕ} {ts us : List Placed} {es : Trees} → IsMore b n ts es us → Fit ts → ProperTrees es × Fit us
  proper_more (last i) f = (tt, f.1)
  proper_more (another i a c) f = let x = proper_cond a f.1 in let y = proper_more c x.1 in ((x.0, y.0), y.1)

pub what_is_read_is_proper : {n : ℕ} (text : List ℕ) (e : Tree) → IsCond n (tokens_of text) e [] → Proper e
what_is_read_is_proper text e is = (proper_cond is (fit (tokens_of text) (tokens_fit text))).0
