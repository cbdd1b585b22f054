-- Names, the words that are none, and the prefixes before names (HTCondor manual,
-- "ClassAd syntax").
use Rattle.ad_value.specs.Bytes.{code}
use Rattle.std.specs.Prelude.{ℕ, ◌+◌, ◌≡◌, ◌==◌, ◌||◌, ◌&&◌, not, Bool, false, List, [], ◌∷◌, ◌++◌, length, take, drop, codes, nat_lt, slice_index, Option, Some, None, is_some, if◌then◌else◌}
use Rattle.std.specs.Char.{is_ascii_alphabetic, is_ascii_digit}
use Rattle.std.specs.List.{prefix_len, list_all}
use Rattle.ad_value.specs.Names.{same_name}
use Rattle.ad_tree.specs.declared.operator.BinOp.TheVariants as bin
use Rattle.ad_tree.specs.declared.operator.Scope.{Scope}
use Rattle.ad_tree.specs.declared.operator.Scope.TheVariants.{Bare, My, Target}
use Rattle.ad_token.specs.declared.names.TheConstants.{MAX_NAME}
use Rattle.ad_token.specs.declared.token.Token.{Token}
use Rattle.ad_token.specs.declared.token.Token.TheVariants as token

-- an ASCII letter or `_`
abbrev pub is_letter : ℕ → Bool
is_letter b = is_ascii_alphabetic b || (b == code "_")

abbrev pub is_name_byte : ℕ → Bool
is_name_byte b = is_letter b || is_ascii_digit b

-- how long the name is that a text begins with, 0 where none begins
abbrev pub name_length : List ℕ → ℕ
name_length bs = if is_letter (slice_index bs 0) then prefix_len is_name_byte bs else 0

abbrev pub leading_name : List ℕ → List ℕ
leading_name bs = take (name_length bs) bs

abbrev pub is_too_long : List ℕ → Bool
is_too_long name = nat_lt MAX_NAME (length name)

-- the words, without case
unfoldable pub word_of : List ℕ → Option Token
word_of name =
    if same_name name (codes "TRUE") then Some token.True
    else (if same_name name (codes "FALSE") then Some token.False
    else (if same_name name (codes "UNDEFINED") then Some token.Undefined
    else (if same_name name (codes "ERROR") then Some token.Error
    else (if same_name name (codes "IS") then Some (token.Op bin.Same)
    else (if same_name name (codes "ISNT") then Some (token.Op bin.NotSame)
    else None)))))

-- a name that is no word
unfoldable pub is_name : List ℕ → Bool
is_name x =
    is_letter (slice_index x 0)
    && (list_all is_name_byte x && (not (is_too_long x) && not (is_some (word_of x))))

-- the prefixes, without case
unfoldable pub scope_of_prefix : List ℕ → Option Scope
scope_of_prefix name =
    if same_name name (codes "MY") then Some My
    else (if same_name name (codes "TARGET") then Some Target
    else None)

-- a name that is no word, or nothing
abbrev pub unless_word : List ℕ → List ℕ
unless_word name = if is_some (word_of name) then [] else name

-- the name after the dot that a text begins with; empty where there is no dot, and where no name
-- or a word comes after it
unfoldable pub name_after_dot : List ℕ → List ℕ
name_after_dot bs =
    if slice_index bs 0 == code "." then unless_word (leading_name (drop 1 bs))
    else []

-- What follows where no name stands after a dot: no dot, one with no letter after it, or one with a
-- word after it.
pub data NoNameFollows : List ℕ → Type 0 where
  no_dot : {bs : List ℕ} → (slice_index bs 0 == code ".") ≡ false → NoNameFollows bs
  no_letter : {bs : List ℕ} → is_letter (slice_index bs 0) ≡ false → NoNameFollows (code "." ∷ bs)
  a_word : (x bs : List ℕ) {w : Token}
      → word_of x ≡ Some w → is_name_byte (slice_index bs 0) ≡ false
      → NoNameFollows (code "." ∷ (x ++ bs))

-- a name with nothing before it
abbrev pub bare_name : List ℕ → Token
bare_name name = token.Name Bare name

-- A name that may be a prefix, and the name after its dot. Where that one is too long, the dot
-- belongs to the first, so that what is refused is the second.
unfoldable pub scope_prefix_token : Scope → List ℕ → List ℕ → Token × ℕ
scope_prefix_token scope prefix [] = (bare_name prefix, length prefix)
scope_prefix_token scope prefix (b ∷ bs) =
    if is_too_long (b ∷ bs) then (bare_name prefix, length prefix + 1)
    else (token.Name scope (b ∷ bs), length prefix + 1 + length (b ∷ bs))

abbrev pub perhaps_scope_prefix : Option Scope → List ℕ → List ℕ → Token × ℕ
perhaps_scope_prefix None name after = (bare_name name, length name)
perhaps_scope_prefix (Some scope) name after = scope_prefix_token scope name (name_after_dot after)

abbrev pub perhaps_word : Option Token → List ℕ → List ℕ → Token × ℕ
perhaps_word (Some word) name after = (word, length name)
perhaps_word None name after = perhaps_scope_prefix (scope_of_prefix name) name after

-- the token of a name and of the text after it
abbrev pub token_of_name : List ℕ → List ℕ → Token × ℕ
token_of_name name after =
    if is_too_long name then (token.Bad, length name)
    else perhaps_word (word_of name) name after

-- the token that begins with a letter, and its length
unfoldable pub name_token : List ℕ → Token × ℕ
name_token bs = token_of_name (leading_name bs) (drop (name_length bs) bs)
