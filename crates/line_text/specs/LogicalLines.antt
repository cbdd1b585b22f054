-- Logical lines, told without a reader.
use Rattle.std.specs.Prelude.{◌≡◌, ℕ, suc, ◌+◌, ◌-◌, ◌^◌, min, true, false, List, [], ◌∷◌, ◌++◌}
use Rattle.line_text.specs.declared.logical.Line.{Line}
use Rattle.line_text.specs.Lines.{says_nothing, ends_in_backslash, without_last}

-- lines, the text that the first of them make, how many these are, and the lines that are left: all
-- of them but the last end in a backslash, or all where no line is left
pub data Joins : List (List ℕ) → List ℕ → ℕ → List (List ℕ) → Type 0 where
  none : Joins [] [] 0 []
  last : {line : List ℕ} {more : List (List ℕ)}
      → ends_in_backslash line ≡ false → Joins (line ∷ more) line 1 more
  goes_on : {line text : List ℕ} {n : ℕ} {lines more : List (List ℕ)}
      → ends_in_backslash line ≡ true → Joins lines text n more
      → Joins (line ∷ lines) (without_last line ++ text) (suc n) more

-- numbers stop at the greatest of 32 bits
abbrev pub line_number : ℕ → ℕ
line_number n = min n (2 ^ 32 - 1)

-- lines from that of a number on, and the logical lines that they make
pub data MakeLines : ℕ → List (List ℕ) → List Line → Type 0 where
  ended : {n : ℕ} → MakeLines n [] []
  silent : {n k : ℕ} {line text : List ℕ} {lines more : List (List ℕ)} {made : List Line}
      → Joins (line ∷ lines) text k more → says_nothing text ≡ true
      → MakeLines (n + k) more made → MakeLines n (line ∷ lines) made
  told : {n k : ℕ} {line text : List ℕ} {lines more : List (List ℕ)} {made : List Line}
      → Joins (line ∷ lines) text k more → says_nothing text ≡ false
      → MakeLines (n + k) more made
      → MakeLines n (line ∷ lines) (record { number = line_number n; text = text } ∷ made)
