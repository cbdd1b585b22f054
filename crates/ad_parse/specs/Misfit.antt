-- Where a text that is refused leaves the grammar.
use Rattle.std.specs.Prelude.{◌≡◌, ℕ, ◌+◌, pos, List, [], ◌∷◌, ◌++◌, true, false}
use Rattle.ad_tree.specs.Tree.{Tree}
use Rattle.ad_token.specs.declared.token.Token.TheVariants as token
use Rattle.ad_token.specs.declared.token.Placed.{Placed}
use Rattle.ad_token.specs.Lexing.{ends_the_tokens}
use Rattle.ad_parse.specs.declared.error.ParseError.{ParseError}
use Rattle.ad_parse.specs.declared.error.ParseError.TheVariants as fault
use Rattle.ad_parse.specs.declared.parse.TheConstants.{MOST_NESTED}
use Rattle.ad_parse.specs.Grammar.{IsCond}
use Rattle.ad_parse.specs.Reader.{misplaced_token}

-- some text of the grammar with this limit of nesting begins with these tokens
abbrev pub BeginsWithin : ℕ → List Placed → Type 0
BeginsWithin n ts = (more : List Placed) × (e : Tree) × IsCond n (ts ++ more) e []

-- some text of the grammar begins with these tokens, however deep it nests
abbrev pub CanGoOn : List Placed → Type 0
CanGoOn ts = (n : ℕ) × BeginsWithin n ts

-- an operand, the numeral 0
abbrev pub operand_there : Placed
operand_there = record { at = 0; token = token.Int (pos 0) }

-- some text of the grammar begins with these tokens, with no operand deeper than it may stand
abbrev pub BeginsShallow : List Placed → Type 0
BeginsShallow ts = BeginsWithin (MOST_NESTED + 1) ts

-- an operand is wanted after these tokens, and it would stand deeper than it may
pub record TooDeepAfter (ts : List Placed) : Type 0 where
  pub wanted : CanGoOn (ts ++ operand_there ∷ [])
  pub too_deep : BeginsShallow (ts ++ operand_there ∷ []) → ⊥

-- no token of these stands too deep; a bracket that closes nothing but itself may stand where an
-- operand would be too deep
abbrev pub IsShallow : List Placed → Type 0
IsShallow ts = (before : List Placed) (p : Placed) (left : List Placed)
    → ts ≡ before ++ p ∷ left → TooDeepAfter before → BeginsShallow (before ++ p ∷ [])

-- Why a token that is one of the grammar's can't stand after these: it stands too deep, or no text
-- can go on with it.
pub data IsMisfit (before : List Placed) (p : Placed) : ParseError → Type 0 where
  deep : TooDeepAfter before → (BeginsShallow (before ++ p ∷ []) → ⊥)
      → IsMisfit before p (fault.TooDeep p.at)
  strange : (TooDeepAfter before → ⊥) → (CanGoOn (before ++ p ∷ []) → ⊥)
      → IsMisfit before p (fault.Syntax p.at)

-- The first token, or the end, after which no text of the grammar can go on, or that stands too
-- deep.
pub record FirstMisfit (end : ℕ) (ts : List Placed) (f : ParseError) : Type 0 where
  pub before : List Placed
  pub left : List Placed
  pub parts : ts ≡ before ++ left
  pub begins : CanGoOn before
  pub shallow : IsShallow before
  pub at_end : left ≡ [] → (f ≡ fault.Syntax end) × ((n : ℕ) (e : Tree) → IsCond n ts e [] → ⊥)
  pub foreign : (p : Placed) (vs : List Placed)
      → left ≡ p ∷ vs → ends_the_tokens p.token ≡ true → f ≡ misplaced_token p.token p.at
  pub misfit : (p : Placed) (vs : List Placed)
      → left ≡ p ∷ vs → ends_the_tokens p.token ≡ false → IsMisfit before p f
