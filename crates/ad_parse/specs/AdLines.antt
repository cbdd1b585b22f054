-- What it means that a text says an ad: each line is skipped, or sets an attribute for which there
-- is room. And why another text is refused.
use Rattle.ad_value.specs.Bytes.{code}
use Rattle.std.specs.Prelude.{◌≡◌, ◌⊎◌, ℕ, ◌+◌, ◌-◌, ◌^◌, ◌<◌, min, true, false, List, [], ◌∷◌, ◌++◌, length, codes, slice_index, IsSome}
use Rattle.std.specs.List.{AllPass}
use Rattle.ad_tree.specs.declared.ad.TheConstants.{MAX_ATTRIBUTES}
use Rattle.ad_tree.specs.Tree.{Tree}
use Rattle.ad_tree.specs.Ad.{Attributes, lookup, with_attribute, IsFullFor}
use Rattle.ad_token.specs.Names.{is_name}
use Rattle.ad_token.specs.Lexing.{is_blank}
use Rattle.ad_parse.specs.declared.error.ParseError.{ParseError}
use Rattle.ad_parse.specs.declared.error.AdError.{AdError}
use Rattle.ad_parse.specs.declared.error.AdError.TheVariants as fault
use Rattle.ad_parse.specs.ExprText.{IsExprText, IsRefused}
use Rattle.ad_parse.specs.AdText.{lines_of_text}

abbrev pub AreBlanks : List ℕ → Type 0
AreBlanks bs = AllPass is_blank bs

-- a line of blanks alone, or one that begins with `#`
pub data IsSkipped (line : List ℕ) : Type 0 where
  blank : AreBlanks line → IsSkipped line
  comment : slice_index line 0 ≡ code "#" → IsSkipped line

-- a text that neither begins nor ends with a blank
pub record IsTrimmed (text : List ℕ) : Type 0 where
  pub begins : is_blank (slice_index text 0) ≡ false
  pub ends : is_blank (slice_index text (length text - 1)) ≡ false

-- `Name = expression`, with blanks anywhere round the name and the expression
pub record IsSetting (line name text : List ℕ) : Type 0 where
  pub before_name : List ℕ
  pub after_name : List ℕ
  pub before_text : List ℕ
  pub after_text : List ℕ
  pub parts : line
      ≡ before_name
      ++ (name ++ (after_name ++ (codes "=" ++ (before_text ++ (text ++ after_text)))))
  pub blanks : AreBlanks before_name × AreBlanks after_name
      × AreBlanks before_text × AreBlanks after_text
  pub name_fits : is_name name ≡ true
  pub text_fits : IsTrimmed text

-- the name is there, or may be one more
abbrev pub HasRoom : List ℕ → Attributes → Type 0
HasRoom name ad = IsSome (lookup name ad) ⊎ (length ad < MAX_ATTRIBUTES)

-- the lines make of an ad another
pub data AreAdLines : Attributes → List (List ℕ) → Attributes → Type 0 where
  ended : {ad : Attributes} → AreAdLines ad [] ad
  skip : {ad new : Attributes} {line : List ℕ} {more : List (List ℕ)}
      → IsSkipped line → AreAdLines ad more new → AreAdLines ad (line ∷ more) new
  set : {ad new : Attributes} {line name text : List ℕ} {e : Tree} {more : List (List ℕ)}
      → IsSetting line name text → IsExprText text e → HasRoom name ad
      → AreAdLines (with_attribute name e ad) more new → AreAdLines ad (line ∷ more) new

abbrev pub IsAdText : List ℕ → Attributes → Type 0
IsAdText text ad = AreAdLines [] (lines_of_text text) ad

-- why a line neither is skipped nor sets an attribute of an ad, where n is its number
pub data IsRefusedLine (n : ℕ) (ad : Attributes) (line : List ℕ) : AdError → Type 0 where
  no_setting : (IsSkipped line → ⊥) → ((name text : List ℕ) → IsSetting line name text → ⊥)
      → IsRefusedLine n ad line (fault.BadLine n)
  no_expression : {name text : List ℕ} {f : ParseError}
      → IsSetting line name text → IsRefused text f → IsRefusedLine n ad line (fault.Expr n f)
  no_room : {name text : List ℕ} {e : Tree}
      → IsSetting line name text → IsExprText text e → IsFullFor name ad
      → IsRefusedLine n ad line (fault.Full n)

-- the number of the line that stands after others; it stops at the greatest of 32 bits
abbrev pub number_after : List (List ℕ) → ℕ
number_after lines = min (1 + length lines) (2 ^ 32 - 1)

-- The first line that neither is skipped nor sets an attribute of the ad that the lines before it
-- say, with its cause.
pub record IsAdRefused (text : List ℕ) (f : AdError) : Type 0 where
  pub before : List (List ℕ)
  pub line : List ℕ
  pub later : List (List ℕ)
  pub ad : Attributes
  pub parts : lines_of_text text ≡ before ++ line ∷ later
  pub so_far : AreAdLines [] before ad
  pub refused : IsRefusedLine (number_after before) ad line f
