-- References in a text (HTCondor manual, "Submit file macros").
use Rattle.ad_value.specs.Bytes.{code}
use Rattle.std.specs.Prelude.{ℕ, ◌+◌, ◌==◌, ◌||◌, ◌&&◌, not, nat_lt, Bool, List, [], ◌∷◌, length, take, drop, slice_index, if◌then◌else◌}
use Rattle.std.specs.Char.{is_ascii_digit}
use Rattle.std.specs.List.{prefix_len}
use Rattle.ad_token.specs.Names.{is_letter}

-- a letter, a digit, `_` or `.`
abbrev pub is_name_byte : ℕ → Bool
is_name_byte b = is_letter b || (is_ascii_digit b || (b == code "."))

-- how many letters or `_` stand after the first byte
abbrev pub letters_after : List ℕ → ℕ
letters_after bs = prefix_len is_letter (drop 1 bs)

-- A reference begins here, a good one or a bad one: with `$(`, with `$$(`, or with `$`, letters and
-- `(`. Any other `$` stands for itself.
unfoldable pub begins_reference : List ℕ → Bool
begins_reference bs =
    (slice_index bs 0 == code "$")
    && ((slice_index bs 1 == code "(")
    || (((slice_index bs 1 == code "$") && (slice_index bs 2 == code "("))
    || (nat_lt 0 (letters_after bs) && (slice_index bs (1 + letters_after bs) == code "("))))

-- how many bytes of plain text stand before the first reference
abbrev pub stretch_length : List ℕ → ℕ
stretch_length [] = 0
stretch_length (b ∷ bs) = if begins_reference (b ∷ bs) then 0 else 1 + stretch_length bs

-- the plain text that a text begins with, and the text after it
abbrev pub stretch : List ℕ → List ℕ
stretch text = take (stretch_length text) text

abbrev pub past_stretch : List ℕ → List ℕ
past_stretch text = drop (stretch_length text) text

-- what stands where plain text ends: the end, no good reference, or one with its name, its default
-- text, and the text after it
pub data Reference : Type 0 where
  ended : Reference
  broken : Reference
  refers : List ℕ → List ℕ → List ℕ → Reference

abbrev pub before_close : List ℕ → ℕ
before_close bs = prefix_len (λ b. not (b == code ")")) bs

-- a name, with what stands after `:`; the default text ends at the first `)`
abbrev pub with_default : List ℕ → List ℕ → Reference
with_default name after =
    if nat_lt (before_close after) (length after)
    then refers name (take (before_close after) after) (drop (1 + before_close after) after)
    else broken

-- a name, with what stands after it
abbrev pub after_name : List ℕ → List ℕ → Reference
after_name name after =
    if slice_index after 0 == code ")" then refers name [] (drop 1 after)
    else (if slice_index after 0 == code ":" then with_default name (drop 1 after)
    else broken)

abbrev pub after_name_at : ℕ → List ℕ → Reference
after_name_at n bs = if n == 0 then broken else after_name (take n bs) (drop n bs)

-- what stands after `$(`
abbrev pub after_open : List ℕ → Reference
after_open bs = after_name_at (prefix_len is_name_byte bs) bs

-- the reference that a text begins with, where one begins
unfoldable pub reference_at : List ℕ → Reference
reference_at [] = ended
reference_at (b ∷ bs) = if slice_index bs 0 == code "(" then after_open (drop 1 bs) else broken

-- what follows the plain text that a text begins with
abbrev pub following : List ℕ → Reference
following text = reference_at (past_stretch text)
