-- What ad a text says, one attribute a line, or why it is refused.
use Rattle.ad_value.specs.Bytes.{code}
use Rattle.std.specs.Prelude.{◌≡◌, ℕ, ◌+◌, ◌-◌, ◌^◌, ◌==◌, ◌&&◌, ◌||◌, not, min, nat_eq, Bool, List, [], ◌∷◌, length, drop, slice_index, Option, Some, None, is_some, Result, Ok, Err, if◌then◌else◌}
use Rattle.std.specs.List.{slice_split}
use Rattle.ad_tree.specs.declared.ad.TheConstants.{MAX_ATTRIBUTES}
use Rattle.ad_tree.specs.Tree.{Tree}
use Rattle.ad_tree.specs.Ad.{Attributes, lookup, with_attribute}
use Rattle.ad_token.specs.Names.{name_length, leading_name, is_name}
use Rattle.ad_token.specs.Blanks.{past_blanks, trimmed_text}
use Rattle.ad_parse.specs.declared.error.ParseError.{ParseError}
use Rattle.ad_parse.specs.declared.error.AdError.{AdError}
use Rattle.ad_parse.specs.declared.error.AdError.TheVariants as fault
use Rattle.ad_parse.specs.ExprText.{expression_at}

-- ---- a line

-- the pieces between newlines
abbrev pub lines_of_text : List ℕ → List (List ℕ)
lines_of_text text = slice_split (λ b. b == code "\n") text

-- a line of blanks alone, or one that begins with `#`
abbrev pub is_skipped : List ℕ → Bool
is_skipped line = (slice_index line 0 == code "#") || nat_eq (length (past_blanks line)) 0

-- the name and the text of the expression, where `=` stands between them
abbrev pub around_sign : List ℕ → List ℕ → Option (List ℕ × List ℕ)
around_sign name after =
    if is_name name && (slice_index after 0 == code "=")
    then Some (name, trimmed_text (drop 1 after))
    else None

abbrev pub setting_from : List ℕ → Option (List ℕ × List ℕ)
setting_from bs = around_sign (leading_name bs) (past_blanks (drop (name_length bs) bs))

-- the name that a line sets, and the text of its expression
abbrev pub setting : List ℕ → Option (List ℕ × List ℕ)
setting line = setting_from (past_blanks line)

-- ---- what a line makes of the ad so far; it comes with its number

abbrev pub is_full_for : List ℕ → Attributes → Bool
is_full_for name ad = not (is_some (lookup name ad)) && nat_eq (length ad) MAX_ATTRIBUTES

-- goes on where nothing was refused
abbrev pub unless_refused : {A B : Type 0}
    → Result A AdError → (A → Result B AdError) → Result B AdError
unless_refused (Ok x) more = more x
unless_refused (Err f) more = Err f

-- the expression of the line
abbrev pub at_line : ℕ → Result Tree ParseError → Result Tree AdError
at_line n (Ok e) = Ok e
at_line n (Err f) = Err (fault.Expr n f)

abbrev pub with_expression : ℕ → Attributes → List ℕ → Tree → Result Attributes AdError
with_expression n ad name e =
    if is_full_for name ad then Err (fault.Full n)
    else Ok (with_attribute name e ad)

abbrev pub with_setting : ℕ → Attributes → Option (List ℕ × List ℕ) → Result Attributes AdError
with_setting n ad None = Err (fault.BadLine n)
with_setting n ad (Some s) =
    unless_refused (at_line n (expression_at s.1)) (with_expression n ad s.0)

abbrev pub with_line : ℕ → Attributes → List ℕ → Result Attributes AdError
with_line n ad line = if is_skipped line then Ok ad else with_setting n ad (setting line)

-- ---- the lines of a text

-- numbers stop at the greatest of 32 bits
abbrev pub next_number : ℕ → ℕ
next_number n = min (n + 1) (2 ^ 32 - 1)

-- the lines from that of a number on
unfoldable pub with_lines : ℕ → Attributes → List (List ℕ) → Result Attributes AdError
with_lines n ad [] = Ok ad
with_lines n ad (line ∷ more) =
    unless_refused (with_line n ad line) (λ new. with_lines (next_number n) new more)

abbrev pub ad_at : List ℕ → Result Attributes AdError
ad_at text = with_lines 1 [] (lines_of_text text)

-- ---- a function of the program gives what the definition does, unless memory runs out

abbrev pub FailsAd : {Y : Type 0} → AdError → Result Y AdError → Type 0
FailsAd fault.Memory read = Unit {0}
FailsAd (fault.BadLine n) read = read ≡ Err (fault.BadLine n)
FailsAd (fault.Expr n f) read = read ≡ Err (fault.Expr n f)
FailsAd (fault.Full n) read = read ≡ Err (fault.Full n)

abbrev pub GivesAd : {X Y : Type 0} → (X → Y) → Result X AdError → Result Y AdError → Type 0
GivesAd view (Ok x) read = read ≡ Ok (view x)
GivesAd view (Err f) read = FailsAd f read
