-- Folding of texts that are ASCII, and of equal ones.
use Rattle.std.proofs.Common.{◌≡◌, ℕ, List, IsAscii, chars, encode_utf8_all, Equal, ap, sym, ◌∙◌, Bool, IsTrue, ◌↔◌}
use Rattle.std.specs.Char.{to_ascii_lowercase}
use Rattle.std.specs.Ordering.{nat_cmp, is_eq}
use Rattle.std.specs.Cmp.Lexicographic.{slice_cmp, bytes_decides}
use Rattle.std.proofs.lemmas.Map.Text.{is_eq-slice_cmp}
use Rattle.std.proofs.lemmas.Cmp.{nat_list_cmp_total, tied_itself}
use Rattle.std.proofs.lemmas.Str.{chars-IsAscii, encodes-IsAscii}
use Rattle.std.proofs.lemmas.Str.Ascii.{IsAscii-map, lowercase_ascii}
use Rattle.caseless.proofs.CaselessLemmas.{default_case_fold-ascii, All-chars}
use Rattle.ad_value.specs.Names.{lowercase}
use Rattle.ad_value.specs.Order.{folded_text, folded_order}

folded_text-ascii : (bs : List ℕ) → IsAscii bs → folded_text bs ≡ lowercase bs
folded_text-ascii bs h =
    ap encode_utf8_all (default_case_fold-ascii (chars bs) (All-chars bs h) ∙ ap lowercase (chars-IsAscii bs h))
    ∙ encodes-IsAscii (lowercase bs) (IsAscii-map to_ascii_lowercase bs lowercase_ascii h)

-- two that are ASCII stand as their bytes in lower case
pub folded_order-ascii : (a b : List ℕ) → IsAscii a → IsAscii b → folded_order a b ≡ slice_cmp nat_cmp (lowercase a) (lowercase b)
folded_order-ascii a b p q = λ i. slice_cmp nat_cmp (folded_text-ascii a p i) (folded_text-ascii b q i)

-- equal ones stand as equal
pub folded_order-same : (a b : List ℕ) → a ≡ b → folded_order a b ≡ Equal
folded_order-same a b e = ap (λ l. folded_order l b) e ∙ tied_itself nat_list_cmp_total (folded_text b)

-- they stand as equal exactly where their foldings are
pub folded_order-is_eq : (r : Bool) (a b : List ℕ) → r ≡ is_eq (folded_order a b) → IsTrue r ↔ (folded_text a ≡ folded_text b)
folded_order-is_eq r a b h =
    let tests = h ∙ is_eq-slice_cmp (folded_text a) (folded_text b) in
    let decides = bytes_decides (folded_text a) (folded_text b) in (λ t. decides.0 (sym tests ∙ t), λ e. tests ∙ decides.1 e)
