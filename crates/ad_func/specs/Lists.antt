-- Items of lists, and pieces of texts.
use Rattle.std.specs.Prelude.{ℕ, pos, Bool, true, false, not, ◌==◌, List, length, chars, codes, bytes_eq, Option, Some, None, if◌then◌else◌}
use Rattle.std.specs.List.{list_any, filter, slice_split}
use Rattle.ad_value.specs.declared.order.Order.{Order}
use Rattle.ad_value.specs.declared.order.Order.TheVariants as order
use Rattle.ad_value.specs.Content.{Content, error, truth, integer, text, items, list_content}
use Rattle.ad_value.specs.Order.{order_of}
use Rattle.ad_func.specs.declared.function.ValueKind.TheVariants as kind
use Rattle.ad_func.specs.Kinds.{is_of_kind}

abbrev pub is_equal : Order → Bool
is_equal order.Equal = true
is_equal o = false

-- an item that compares as equal under `==`
abbrev pub has_equal : Content → List Content → Bool
has_equal x vs = list_any (λ v. is_equal (order_of x v)) vs

abbrev pub member : Content → Content → Content
member x (items l) = if is_of_kind kind.List x then error else truth (has_equal x (list_content l))
member x v = error

abbrev pub has_char : List ℕ → ℕ → Bool
has_char cs c = list_any (λ d. d == c) cs

abbrev pub is_piece : List ℕ → Bool
is_piece cs = not (length cs == 0)

-- the pieces of a text's characters between delimiters; empty ones are dropped
abbrev pub pieces_between : List ℕ → List ℕ → List (List ℕ)
pieces_between delimiters cs = filter is_piece (slice_split (λ c. has_char delimiters c) cs)

abbrev pub pieces : List ℕ → List ℕ → List (List ℕ)
pieces delimiters s = pieces_between (chars delimiters) (chars s)

abbrev pub default_delimiters : List ℕ
default_delimiters = codes " ,"

abbrev pub has_piece : List ℕ → List ℕ → List ℕ → Bool
has_piece s delimiters l = list_any (λ p. bytes_eq p (chars s)) (pieces delimiters l)

abbrev pub string_list_member : Content → Content → Option Content → Content
string_list_member (text s) (text l) None = truth (has_piece s default_delimiters l)
string_list_member (text s) (text l) (Some (text d)) = truth (has_piece s d l)
string_list_member s l d = error

abbrev pub string_list_size : Content → Option Content → Content
string_list_size (text l) None = integer (pos (length (pieces default_delimiters l)))
string_list_size (text l) (Some (text d)) = integer (pos (length (pieces d l)))
string_list_size l d = error
