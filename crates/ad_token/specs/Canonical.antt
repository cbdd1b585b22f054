-- The canonical text of a token, and what may stand after it.
use Rattle.ad_value.specs.Bytes.{code}
use Rattle.std.specs.Prelude.{ℕ, ℤ, pos, negsuc, ◌==◌, ◌||◌, ◌&&◌, ◌^◌, not, Bool, true, false, List, [], ◌∷◌, ◌++◌, map, codes, nat_lt, slice_index, Option, Some, None, is_some}
use Rattle.std.specs.Fmt.{signed_decimal}
use Rattle.std.specs.List.{list_all}
use Rattle.ad_value.specs.Literal.{quoted_text}
use Rattle.ad_tree.specs.declared.operator.BinOp.{BinOp}
use Rattle.ad_tree.specs.declared.operator.BinOp.TheVariants as bin
use Rattle.ad_tree.specs.declared.operator.Scope.{Scope}
use Rattle.ad_tree.specs.declared.operator.Scope.TheVariants.{Bare, My, Target}
use Rattle.ad_token.specs.declared.token.Bracket.TheVariants.{Round, Curly}
use Rattle.ad_token.specs.declared.token.Token.{Token}
use Rattle.ad_token.specs.declared.token.Token.TheVariants as token
use Rattle.ad_token.specs.declared.token.Placed.{Placed}
use Rattle.ad_token.specs.Names.{is_name_byte, is_name, scope_of_prefix}
use Rattle.ad_token.specs.Lexing.{ends_the_tokens, tokens_of}

abbrev pub operator_text : BinOp → List ℕ
operator_text bin.Or = codes "||"
operator_text bin.And = codes "&&"
operator_text bin.Equal = codes "=="
operator_text bin.NotEqual = codes "!="
operator_text bin.Same = codes "=?="
operator_text bin.NotSame = codes "=!="
operator_text bin.Less = codes "<"
operator_text bin.LessEqual = codes "<="
operator_text bin.GreaterEqual = codes ">="
operator_text bin.Greater = codes ">"
operator_text bin.Add = codes "+"
operator_text bin.Subtract = codes "-"
operator_text bin.Multiply = codes "*"
operator_text bin.Divide = codes "/"
operator_text bin.Modulo = codes "%"

abbrev pub scope_text : Scope → List ℕ
scope_text Bare = []
scope_text My = codes "MY."
scope_text Target = codes "TARGET."

-- Real, Range and Bad have none
abbrev pub token_text : Token → List ℕ
token_text token.Undefined = codes "UNDEFINED"
token_text token.Error = codes "ERROR"
token_text token.True = codes "TRUE"
token_text token.False = codes "FALSE"
token_text (token.Int n) = signed_decimal n
token_text (token.Str s) = quoted_text s
token_text (token.Name scope x) = scope_text scope ++ x
token_text (token.Op op) = operator_text op
token_text token.Not = codes "!"
token_text token.Question = codes "?"
token_text token.Colon = codes ":"
token_text token.OrElse = codes "?:"
token_text (token.Open Round) = codes "("
token_text (token.Open Curly) = codes "{"
token_text (token.Close Round) = codes ")"
token_text (token.Close Curly) = codes "}"
token_text token.Comma = codes ","
token_text _ = []

-- a text on one line
unfoldable pub is_line : List ℕ → Bool
is_line s = list_all (λ b. not (b == code "\n")) s

abbrev pub is_numeral : ℤ → Bool
is_numeral (pos n) = nat_lt n (2 ^ 63)
is_numeral (negsuc n) = false

-- what a token of an expression's text may hold
abbrev pub is_proper : Token → Bool
is_proper (token.Int n) = is_numeral n
is_proper (token.Str s) = is_line s
is_proper (token.Name scope x) = is_name x
is_proper t = not (ends_the_tokens t)

-- what a token of any text is
abbrev pub is_fit : Token → Bool
is_fit t = ends_the_tokens t || is_proper t

-- whether a token's text ends where a byte follows; 0 stands for the end of the text
abbrev pub ends_before : Token → ℕ → Bool
ends_before token.Undefined b = not (is_name_byte b)
ends_before token.Error b = not (is_name_byte b)
ends_before token.True b = not (is_name_byte b)
ends_before token.False b = not (is_name_byte b)
ends_before (token.Int n) b = not (is_name_byte b || (b == code "."))
ends_before (token.Name Bare x) b =
    not (is_name_byte b || ((b == code ".") && is_some (scope_of_prefix x)))
ends_before (token.Name scope x) b = not (is_name_byte b)
ends_before (token.Op bin.Less) b = not (b == code "=")
ends_before (token.Op bin.Greater) b = not (b == code "=")
ends_before token.Not b = not (b == code "=")
ends_before token.Question b = not (b == code ":")
ends_before _ b = true

-- the same of the text that follows
abbrev pub ends_at : Token → List ℕ → Bool
ends_at t bs = ends_before t (slice_index bs 0)

-- a token and the offset of its first byte
abbrev pub placed_token : ℕ → Token → Placed
placed_token at t = record { at = at; token = t }

-- tokens, wherever they stand
abbrev pub token_of : Placed → Token
token_of p = p.token

abbrev pub tokens_in : List Placed → List Token
tokens_in ps = map token_of ps

-- the tokens of a text, wherever they stand
abbrev pub kinds_of : List ℕ → List Token
kinds_of bs = tokens_in (tokens_of bs)

-- a text made of tokens and, for each None, a blank
abbrev pub joined_text : List (Option Token) → List ℕ
joined_text [] = []
joined_text (None ∷ ps) = code " " ∷ joined_text ps
joined_text (Some t ∷ ps) = token_text t ++ joined_text ps

abbrev pub joined_tokens : List (Option Token) → List Token
joined_tokens [] = []
joined_tokens (None ∷ ps) = joined_tokens ps
joined_tokens (Some t ∷ ps) = t ∷ joined_tokens ps

-- whether each token has a text that ends where the next piece begins
abbrev pub are_apart : List (Option Token) → Bool
are_apart [] = true
are_apart (None ∷ ps) = are_apart ps
are_apart (Some t ∷ ps) = is_proper t && (ends_at t (joined_text ps) && are_apart ps)
