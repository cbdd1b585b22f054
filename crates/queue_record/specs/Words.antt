-- The words of a line, each of which stands behind one blank.
use Rattle.std.specs.Prelude.{ℕ, Bool, not, List, take, drop, slice_index, Option, Some, None, option_and_then, if◌then◌else◌}
use Rattle.std.specs.List.{prefix_len, list_all}
use Rattle.ad_token.specs.Lexing.{is_blank}

-- the bytes up to the first blank, and those from it on
abbrev pub word_length : List ℕ → ℕ
word_length bs = prefix_len (λ b. not (is_blank b)) bs

abbrev pub first_word : List ℕ → List ℕ
first_word bs = take (word_length bs) bs

abbrev pub past_word : List ℕ → List ℕ
past_word bs = drop (word_length bs) bs

abbrev pub begins_blank : List ℕ → Bool
begins_blank bs = is_blank (slice_index bs 0)

abbrev pub are_blanks : List ℕ → Bool
are_blanks bs = list_all is_blank bs

-- the word behind one blank, and the bytes from the next blank on
abbrev pub next_word : List ℕ → Option (List ℕ × List ℕ)
next_word bs =
    if begins_blank bs then Some (first_word (drop 1 bs), past_word (drop 1 bs))
    else None

-- what is made of that word and those bytes
abbrev pub with_word : {A : Type 0} → List ℕ → (List ℕ → List ℕ → Option A) → Option A
with_word bs f = option_and_then (λ p. f p.0 p.1) (next_word bs)

-- a value, where only blanks follow
abbrev pub at_end : {A : Type 0} → List ℕ → A → Option A
at_end bs x = if are_blanks bs then Some x else None
