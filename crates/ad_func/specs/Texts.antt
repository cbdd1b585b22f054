-- Texts of values, and what is made of them.
use Rattle.std.specs.Prelude.{ℕ, ◌+◌, ◌-◌, min, max, ℤ, pos, negsuc, true, false, List, [], ◌∷◌, ◌++◌, length, map, take, drop, codes, chars, encode_utf8_all, Option, Some, None}
use Rattle.std.specs.Char.{to_ascii_uppercase, to_ascii_lowercase}
use Rattle.std.specs.Fmt.{signed_decimal}
use Rattle.std.specs.Ordering.{nat_cmp}
use Rattle.std.specs.Cmp.Lexicographic.{slice_cmp}
use Rattle.std.specs.declared.cmp.Ordering.{Ordering}
use Rattle.std.specs.declared.cmp.Ordering.TheVariants as ordering
use Rattle.ad_value.specs.Content.{Content, error, truth, integer, text}
use Rattle.ad_value.specs.Order.{folded_order}
use Rattle.ad_func.specs.Arguments.{strict}

-- a list has no text
abbrev pub plain_text : Content → Option (List ℕ)
plain_text (text s) = Some s
plain_text (integer n) = Some (signed_decimal n)
plain_text (truth true) = Some (codes "true")
plain_text (truth false) = Some (codes "false")
plain_text v = None

abbrev pub from_string : (List ℕ → Content) → Option (List ℕ) → Content
from_string f None = error
from_string f (Some s) = f s

-- what f makes of the texts of one value, or of two
abbrev pub of_string : (List ℕ → Content) → Content → Content
of_string f x = from_string f (plain_text x)

abbrev pub of_strings : (List ℕ → List ℕ → Content) → Content → Content → Content
of_strings f x y = of_string (λ a. of_string (λ b. f a b) y) x

abbrev pub strcat_text : Option (List ℕ) → Option (List ℕ) → Option (List ℕ)
strcat_text (Some s) (Some t) = Some (s ++ t)
strcat_text s t = None

-- the texts of all, one after another
abbrev pub text_of_all : List Content → Option (List ℕ)
text_of_all [] = Some []
text_of_all (x ∷ xs) = strcat_text (plain_text x) (text_of_all xs)

abbrev pub strcat : List Content → Content
strcat args = strict args (from_string text (text_of_all args))

abbrev pub upper : List ℕ → Content
upper s = text (map to_ascii_uppercase s)

abbrev pub lower : List ℕ → Content
lower s = text (map to_ascii_lowercase s)

abbrev pub sign : Ordering → ℤ
sign ordering.Less = negsuc 0
sign ordering.Equal = pos 0
sign ordering.Greater = pos 1

-- texts are compared by their bytes
abbrev pub comparison_value : List ℕ → List ℕ → Content
comparison_value a b = integer (sign (slice_cmp nat_cmp a b))

abbrev pub folded_comparison_value : List ℕ → List ℕ → Content
folded_comparison_value a b = integer (sign (folded_order a b))

abbrev pub strcmp : Content → Content → Content
strcmp x y = of_strings comparison_value x y

abbrev pub stricmp : Content → Content → Content
stricmp x y = of_strings folded_comparison_value x y

-- the place at an offset within c characters: from the start, or where it is negative from the end
abbrev pub start_of : ℕ → ℤ → ℕ
start_of c (pos o) = min o c
start_of c (negsuc o) = c - (o + 1)

-- a negative length leaves characters out at the end
abbrev pub end_of : ℕ → ℕ → ℤ → ℕ
end_of c start (pos n) = min c (start + n)
end_of c start (negsuc n) = max start (c - (n + 1))

-- the text of the characters from start to end
abbrev pub characters : ℕ → ℕ → List ℕ → List ℕ
characters start end s = encode_utf8_all (take (end - start) (drop start (chars s)))

abbrev pub substring : List ℕ → ℤ → List ℕ
substring s o = let count = length (chars s) in characters (start_of count o) count s

abbrev pub substring_of_length : List ℕ → ℤ → ℤ → List ℕ
substring_of_length s o n =
    let count = length (chars s) in
    let start = start_of count o in
    characters start (end_of count start n) s

abbrev pub substr : Content → Content → Option Content → Content
substr (text s) (integer o) None = text (substring s o)
substr (text s) (integer o) (Some (integer n)) = text (substring_of_length s o n)
substr s o n = error
