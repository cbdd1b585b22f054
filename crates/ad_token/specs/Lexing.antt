-- The tokens of a text. The first that stands in no expression ends the list, since no expression
-- goes on after it.
use Rattle.ad_value.specs.Bytes.{code}
use Rattle.std.specs.Prelude.{ℕ, zero, suc, ◌+◌, ◌==◌, ◌||◌, Bool, true, false, List, [], ◌∷◌, length, drop, slice_index, if◌then◌else◌}
use Rattle.std.specs.Char.{is_ascii_digit}
use Rattle.ad_token.specs.declared.token.Token.{Token}
use Rattle.ad_token.specs.declared.token.Token.TheVariants as token
use Rattle.ad_token.specs.declared.token.Placed.{Placed}
use Rattle.ad_token.specs.Names.{is_letter, name_token}
use Rattle.ad_token.specs.Numbers.{number_token, point_token}
use Rattle.ad_token.specs.Strings.{string_token}
use Rattle.ad_token.specs.Marks.{mark_token}

abbrev pub is_blank : ℕ → Bool
is_blank b = (b == code " ") || (b == code "\t")

-- a real number, an integer out of range, a piece that is no token: none stands in an expression
abbrev pub ends_the_tokens : Token → Bool
ends_the_tokens token.Real = true
ends_the_tokens token.Range = true
ends_the_tokens token.Bad = true
ends_the_tokens _ = false

-- what the first byte begins
abbrev pub token_by : ℕ → List ℕ → Token × ℕ
token_by b bs =
    if is_letter b then name_token bs
    else (if is_ascii_digit b then number_token bs
    else (if b == code "\"" then string_token bs
    else (if b == code "." then point_token bs
    else mark_token bs)))

-- the token at the start of a text that is not empty and begins with no blank, and its length in
-- bytes
unfoldable pub token_at : List ℕ → Token × ℕ
token_at bs = token_by (slice_index bs 0) bs

-- a token, and the tokens of the rest
abbrev pub token_and_rest : (ℕ → List ℕ → List Placed) → ℕ → List ℕ → Token × ℕ → List Placed
token_and_rest more at bs t =
    record { at = at; token = t.0 }
    ∷ (if ends_the_tokens t.0 then [] else more (at + t.1) (drop t.1 bs))

-- The tokens of a text that begins at an offset. The first number bounds the steps, and is at least
-- the text's length.
unfoldable pub lex_from : ℕ → ℕ → List ℕ → List Placed
lex_from zero at bs = []
lex_from (suc n) at [] = []
lex_from (suc n) at (b ∷ bs) =
    if is_blank b then lex_from n (at + 1) bs
    else token_and_rest (lex_from n) at (b ∷ bs) (token_at (b ∷ bs))

abbrev pub tokens_from : ℕ → List ℕ → List Placed
tokens_from at bs = lex_from (length bs) at bs

abbrev pub tokens_of : List ℕ → List Placed
tokens_of bs = tokens_from 0 bs
