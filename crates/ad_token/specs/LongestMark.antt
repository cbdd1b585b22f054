-- The longest mark is taken, said of each mark's own text.
use Rattle.ad_value.specs.Bytes.{code}
use Rattle.std.specs.Prelude.{◌≡◌, ℕ, ◌≤◌, ◌==◌, Bool, true, false, List, length}
use Rattle.std.specs.Char.{is_ascii_digit}
use Rattle.ad_token.specs.declared.token.Token.{Token}
use Rattle.ad_token.specs.declared.token.Token.TheVariants as token
use Rattle.ad_token.specs.Names.{is_letter}
use Rattle.ad_token.specs.Marks.{begins_with}
use Rattle.ad_token.specs.Canonical.{token_text}

-- an operator, a bracket or another mark
abbrev pub is_mark : Token → Bool
is_mark (token.Op op) = true
is_mark token.Not = true
is_mark token.Question = true
is_mark token.Colon = true
is_mark token.OrElse = true
is_mark (token.Open b) = true
is_mark (token.Close b) = true
is_mark token.Comma = true
is_mark _ = false

-- a mark that a text begins with
pub record StandsAt (bs : List ℕ) (t : Token) : Type 0 where
  pub mark : is_mark t ≡ true
  pub there : begins_with bs (token_text t) ≡ true

-- a mark that a text begins with, and its length; no longer one stands there
pub record IsLongestMark (bs : List ℕ) (t : Token × ℕ) : Type 0 where
  pub stands : StandsAt bs t.0
  pub size : t.1 ≡ length (token_text t.0)
  pub no_longer : (u : Token) → StandsAt bs u → length (token_text u) ≤ t.1

-- a byte that begins no name, no number and no string, and is no dot
pub record BeginsNoOther (b : ℕ) : Type 0 where
  pub letter : is_letter b ≡ false
  pub digit : is_ascii_digit b ≡ false
  pub quote : (b == code "\"") ≡ false
  pub dot : (b == code ".") ≡ false
