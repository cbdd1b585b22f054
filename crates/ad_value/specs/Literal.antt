-- The text of a value as a literal of an expression.
use Rattle.ad_value.specs.Bytes.{code}
use Rattle.std.specs.Prelude.{ℕ, ◌==◌, ◌||◌, ◌-◌, ◌^◌, ℤ, negsuc, true, false, List, [], ◌∷◌, ◌++◌, codes, if◌then◌else◌}
use Rattle.std.specs.Fmt.{signed_decimal}
use Rattle.std.specs.List.{flat_map}
use Rattle.std.specs.Ordering.{int_eq}
use Rattle.ad_value.specs.Content.{Content, Contents, undefined, error, truth, integer, text, items, no_contents, and_content}

-- of 64 bits
abbrev pub least_integer : ℤ
least_integer = negsuc (2 ^ 63 - 1)

-- the least integer is no numeral with a sign before it
abbrev pub integer_text : ℤ → List ℕ
integer_text n =
    if int_eq n least_integer then codes "-9223372036854775807 - 1"
    else signed_decimal n

-- a backslash stands before each quote and each backslash
abbrev pub escape_text : ℕ → List ℕ
escape_text b =
    if (b == code "\"") || (b == code "\\") then code "\\" ∷ b ∷ []
    else b ∷ []

abbrev pub quoted_text : List ℕ → List ℕ
quoted_text s = codes "\"" ++ flat_map escape_text s ++ codes "\""

-- what stands before the item at a place of a list
abbrev pub item_separator : ℕ → List ℕ
item_separator i = if i == 0 then [] else codes ", "

abbrev mutual
  pub literal_text : Content → List ℕ
  literal_text undefined = codes "UNDEFINED"
  literal_text error = codes "ERROR"
  literal_text (truth true) = codes "TRUE"
  literal_text (truth false) = codes "FALSE"
  literal_text (integer n) = integer_text n
  literal_text (text s) = quoted_text s
  literal_text (items cs) = codes "{" ++ items_text cs ++ codes "}"

  pub items_text : Contents → List ℕ
  items_text no_contents = []
  items_text (and_content c cs) = literal_text c ++ more_items_text cs

  pub more_items_text : Contents → List ℕ
  more_items_text no_contents = []
  more_items_text (and_content c cs) = codes ", " ++ literal_text c ++ more_items_text cs
