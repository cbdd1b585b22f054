-- Logical lines: lines that are joined at backslashes, without those that say nothing (HTCondor
-- manual, "Submitting a job").
use Rattle.ad_value.specs.Bytes.{code}
use Rattle.std.specs.Prelude.{ℕ, ◌+◌, ◌-◌, ◌^◌, ◌==◌, min, Bool, true, not, List, [], ◌∷◌, ◌++◌, length, take, slice_index, Option, Some, None, find, if◌then◌else◌}
use Rattle.std.specs.Str.Lines.{lines}
use Rattle.ad_token.specs.Lexing.{is_blank}
use Rattle.line_text.specs.declared.logical.Line.{Line}

abbrev pub begins_comment : Option ℕ → Bool
begins_comment None = true
begins_comment (Some b) = b == code "#"

abbrev pub first_past_blanks : List ℕ → Option ℕ
first_past_blanks text = find (λ b. not (is_blank b)) text

-- blanks alone, or a `#` as the first byte past blanks
abbrev pub says_nothing : List ℕ → Bool
says_nothing text = begins_comment (first_past_blanks text)

abbrev pub ends_in_backslash : List ℕ → Bool
ends_in_backslash line = slice_index line (length line - 1) == code "\\"

abbrev pub without_last : List ℕ → List ℕ
without_last line = take (length line - 1) line

-- numbers stop at the greatest of 32 bits
abbrev pub next_number : ℕ → ℕ
next_number n = min (n + 1) (2 ^ 32 - 1)

-- the line, unless it says nothing
abbrev pub kept : ℕ → List ℕ → List Line
kept number text =
    if says_nothing text then []
    else record { number = number; text = text } ∷ []

-- The logical lines from one on that has begun with a text at the line numbered first. The lines
-- that are left begin at the number after it.
unfoldable pub logical_from : ℕ → ℕ → List ℕ → List (List ℕ) → List Line
logical_from first number joined [] = kept first joined
logical_from first number joined (line ∷ more) =
    if ends_in_backslash line
    then logical_from first (next_number number) (joined ++ without_last line) more
    else kept first (joined ++ line)
    ++ logical_from (next_number number) (next_number number) [] more

abbrev pub logical_lines : List ℕ → List Line
logical_lines text = logical_from 1 1 [] (lines text)
