-- The values whose literals are read as expressions.
use Rattle.std.specs.Prelude.{◌≡◌, ℕ, ◌+◌, ◌^◌, ◌<◌, ◌≤◌, max, ℤ, pos, negsuc, true, length}
use Rattle.ad_value.specs.Content.{Content, Contents, undefined, error, truth, integer, text, items, no_contents, and_content}
use Rattle.ad_value.specs.Literal.{literal_text}
use Rattle.ad_token.specs.Canonical.{is_line}
use Rattle.ad_value.specs.declared.limits.TheConstants.{MAX_EXPRESSION}
use Rattle.ad_parse.specs.declared.parse.TheConstants.{MOST_NESTED}

-- of 64 bits
abbrev pub IsShortInteger : ℤ → Type 0
IsShortInteger (pos n) = n < 2 ^ 63
IsShortInteger (negsuc n) = n < 2 ^ 63

-- each string stands on one line, and each integer has 64 bits
abbrev mutual
  pub IsPlain : Content → Type 0
  IsPlain undefined = Unit {0}
  IsPlain error = Unit {0}
  IsPlain (truth b) = Unit {0}
  IsPlain (integer n) = IsShortInteger n
  IsPlain (text s) = is_line s ≡ true
  IsPlain (items cs) = ArePlain cs

  pub ArePlain : Contents → Type 0
  ArePlain no_contents = Unit {0}
  ArePlain (and_content c cs) = IsPlain c × ArePlain cs

-- how many brackets and signs hold the innermost operand
abbrev mutual
  pub nesting : Content → ℕ
  nesting undefined = 0
  nesting error = 0
  nesting (truth b) = 0
  nesting (integer (pos n)) = 0
  nesting (integer (negsuc n)) = 1
  nesting (text s) = 0
  nesting (items cs) = nesting_of_items cs

  pub nesting_of_items : Contents → ℕ
  nesting_of_items no_contents = 0
  nesting_of_items (and_content c cs) = max (1 + nesting c) (nesting_of_items cs)

-- the literal is within the limits of expressions
pub record HasReadableLiteral (c : Content) : Type 0 where
  pub plain : IsPlain c
  pub shallow : nesting c ≤ MOST_NESTED
  pub short : length (literal_text c) ≤ MAX_EXPRESSION
