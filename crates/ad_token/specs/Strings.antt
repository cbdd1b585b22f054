-- Strings on one line, with two escapes (HTCondor manual, "ClassAd syntax").
use Rattle.ad_value.specs.Bytes.{code}
use Rattle.std.specs.Prelude.{◌≡◌, ℕ, ◌+◌, ◌==◌, ◌||◌, ◌&&◌, not, Bool, true, false, List, [], ◌∷◌, ◌++◌, take, drop, String, string_bytes, encode_utf8, Option, Some, None, option_map, if◌then◌else◌}
use Rattle.ad_token.specs.declared.token.Token.{Token}
use Rattle.ad_token.specs.declared.token.Token.TheVariants as token

-- a quote or a backslash
abbrev pub is_escapable : ℕ → Bool
is_escapable b = (b == code "\"") || (b == code "\\")

-- a byte that stands for itself in a string, with a backslash before it or none
abbrev pub is_plain_byte : ℕ → Bool
is_plain_byte b = not (is_escapable b) && not (b == code "\n")

-- What is written between the quotes, piece by piece, and what it says: a plain byte stands for
-- itself, a quote or a backslash after a backslash for itself alone, and any other backslash for
-- itself too.
pub data StringSays : List ℕ → List ℕ → Type 0 where
  nothing : StringSays [] []
  plain : {b : ℕ} {written said : List ℕ}
      → is_plain_byte b ≡ true → StringSays written said → StringSays (b ∷ written) (b ∷ said)
  escape : {b : ℕ} {written said : List ℕ}
      → is_escapable b ≡ true → StringSays written said
      → StringSays (code "\\" ∷ b ∷ written) (b ∷ said)
  backslash : {b : ℕ} {written said : List ℕ}
      → is_plain_byte b ≡ true → StringSays written said
      → StringSays (code "\\" ∷ b ∷ written) (code "\\" ∷ b ∷ said)

-- How many bytes stand before the closing quote, if it comes on this line. A quote after a
-- backslash that begins an escape closes nothing; the first argument says whether one stands
-- before.
abbrev pub closing_quote : Bool → List ℕ → Option ℕ
closing_quote escaped [] = None
closing_quote escaped (b ∷ bs) =
    if b == code "\n" then None
    else (if (b == code "\"") && not escaped then Some 0
    else option_map (λ n. n + 1) (closing_quote ((b == code "\\") && not escaped) bs))

-- What is written between the quotes, without the backslashes of escapes. The first argument says
-- whether a backslash was read, and is to come unless it begins an escape.
abbrev pub unescape_text : Bool → List ℕ → List ℕ
unescape_text false [] = []
unescape_text true [] = code "\\" ∷ []
unescape_text false (b ∷ bs) =
    if b == code "\\" then unescape_text true bs
    else b ∷ unescape_text false bs
unescape_text true (b ∷ bs) =
    if is_escapable b then b ∷ unescape_text false bs
    else code "\\" ∷ b ∷ unescape_text false bs

-- One character more: what was written, with what the rest adds to it, stays the same. The first
-- argument says whether a backslash was held back before the character, the last one after it.
abbrev pub TakesCharacter : {A : Type 0} → Bool → ℕ → List ℕ → String A → String A → Bool → Type 0
TakesCharacter held c rest old new now_held =
    string_bytes new ++ unescape_text now_held rest
    ≡ string_bytes old ++ unescape_text held (encode_utf8 c ++ rest)

abbrev pub string_to : Option ℕ → List ℕ → Token × ℕ
string_to None bs = (token.Bad, 1)
string_to (Some n) bs = (token.Str (unescape_text false (take n bs)), n + 2)

-- the token that begins with a quote, and its length
unfoldable pub string_token : List ℕ → Token × ℕ
string_token bs = string_to (closing_quote false (drop 1 bs)) (drop 1 bs)
