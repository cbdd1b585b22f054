-- Words, as a loop comes to them one by one.
use Rattle.std.proofs.Common.{◌≡◌, ◌∙◌, ◌&&◌, ◌<◌, ◌+◌, ℕ, suc, Bool, true, false, List, length, drop, drop-cons, get_or, String, Global, string_bytes, sym, ap, arith}
use Rattle.std.specs.List.{list_all}
use Rattle.pool_input.specs.Words.{is_plain, texts}

from_here : (words : List (String Global)) (i : ℕ) (word : String Global) → i < length words → word ≡ get_or words i word → list_all is_plain (texts (drop i words)) ≡ (is_plain (string_bytes word) && list_all is_plain (texts (drop (i + 1) words)))
from_here words i word below is =
    let next : suc i ≡ i + 1 = omega arith in
    ap (λ (l : List (String Global)). list_all is_plain (texts l)) (drop-cons words i word below)
    ∙ ap (λ (w : String Global). is_plain (string_bytes w) && list_all is_plain (texts (drop (suc i) words))) (sym is)
    ∙ ap (λ (n : ℕ). is_plain (string_bytes word) && list_all is_plain (texts (drop n words))) next

as_told : (words : List (String Global)) (i : ℕ) (word : String Global) (text : List ℕ) (plain : Bool) → i < length words → word ≡ get_or words i word → text ≡ string_bytes word → plain ≡ is_plain text → list_all is_plain (texts (drop i words)) ≡ (plain && list_all is_plain (texts (drop (i + 1) words)))
as_told words i word text plain below is same told =
    from_here words i word below is ∙ ap (λ (b : Bool). b && list_all is_plain (texts (drop (i + 1) words))) (sym (told ∙ ap is_plain same))

-- a plain word leaves it to the others
pub others_tell : (words : List (String Global)) (i : ℕ) (word : String Global) (text : List ℕ) (all : Bool) → i < length words → word ≡ get_or words i word → text ≡ string_bytes word → true ≡ is_plain text → list_all is_plain (texts (drop i words)) ≡ all → list_all is_plain (texts (drop (i + 1) words)) ≡ all
others_tell words i word text all below is same plain so_far = sym (as_told words i word text true below is same plain) ∙ so_far

-- a word that isn't plain tells it
pub not_all : (words : List (String Global)) (i : ℕ) (word : String Global) (text : List ℕ) (all : Bool) → i < length words → word ≡ get_or words i word → text ≡ string_bytes word → false ≡ is_plain text → list_all is_plain (texts (drop i words)) ≡ all → false ≡ all
not_all words i word text all below is same plain so_far = sym (as_told words i word text false below is same plain) ∙ so_far
