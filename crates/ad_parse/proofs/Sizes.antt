-- Sizes that grow by one text more, up to the greatest number of 64 bits.
use Rattle.std.proofs.Common.{◌≡◌, ℕ, ◌+◌, ◌<◌, min, ◌||◌, Bool, true, false, cond, eqb, List, [], ◌∷◌, ◌++◌, length, take, get_or, refl, ap, sym, ◌∙◌, arith}
use Rattle.std.specs.List.{flat_map, count_by, sum_by, slice_get}
use Rattle.std.specs.Option.{option_map_or}
use Rattle.std.proofs.lemmas.List.{length-append, take_more}
use Rattle.std.proofs.lemmas.Option.{slice_get-get_or}
use Rattle.std.proofs.lemmas.List.Sums.{sum_by-append}
use Rattle.ad_value.specs.Literal.{escape_text, quoted_text}
use Rattle.ad_token.specs.Strings.{is_escapable}

-- a separator and an item more
pub item_grown : (s total before new : ℕ) (front gap more whole : List ℕ) → total ≡ min (s + length front) 18446744073709551615 → before ≡ min (total + length gap) 18446744073709551615
    → new ≡ min (before + length more) 18446744073709551615 → (front ++ gap) ++ more ≡ whole → new ≡ min (s + length whole) 18446744073709551615
item_grown s total before new front gap more whole p q r e = omega (arith, ap length e, length-append (front ++ gap) more, length-append front gap)

-- an operator and its operand more
pub rest_grown : (s total before new : ℕ) (front gap more whole : List ℕ) → total ≡ min (s + length front) 18446744073709551615 → before ≡ min (total + length gap) 18446744073709551615
    → new ≡ min (before + length more) 18446744073709551615 → front ++ (gap ++ more) ≡ whole → new ≡ min (s + length whole) 18446744073709551615
rest_grown s total before new front gap more whole p q r e = omega (arith, ap length e, length-append front (gap ++ more), length-append gap more)

escaped_length : (s : List ℕ) → length (flat_map escape_text s) ≡ length s + count_by is_escapable s
escaped_length [] = refl
escaped_length (b ∷ s) = by ((eqb b 34) || (eqb b 92)) (escaped_length s) ∙ ap (λ n. length (b ∷ s) + n) (sym (sum_by-append (λ x. cond (is_escapable x) 1 0) (b ∷ []) s))
  where
    by : (h : Bool) → length (flat_map escape_text s) ≡ length s + count_by is_escapable s
        → length (cond h (92 ∷ b ∷ []) (b ∷ []) ++ flat_map escape_text s) ≡ length (b ∷ s) + ((0 + cond h 1 0) + count_by is_escapable s)
    by true e = omega (arith, e)
    by false e = omega (arith, e)

-- a string, its escapes and its quotes
pub quoted_grown : (s a b c n : ℕ) (text : List ℕ) → a ≡ min (s + length text) 18446744073709551615 → b ≡ min (a + n) 18446744073709551615 → n ≡ count_by is_escapable text
    → c ≡ min (b + 2) 18446744073709551615 → c ≡ min (s + length (quoted_text text)) 18446744073709551615
quoted_grown s a b c n text p q e r = omega (arith, escaped_length text, length-append (flat_map escape_text text) (34 ∷ []))

-- an attribute more
pub attribute_grown : {X : Type 0} (f : X → ℕ) (xs : List X) (i : ℕ) (d : X) (s t : ℕ) → i < length xs → s ≡ min (sum_by f (take i xs)) 18446744073709551615
    → t ≡ min (s + option_map_or f (slice_get xs i) 0) 18446744073709551615 → t ≡ min (sum_by f (take (i + 1) xs)) 18446744073709551615
attribute_grown f xs i d s t less p q =
    let x = get_or xs i d in
    let here : option_map_or f (slice_get xs i) 0 ≡ f x = ap (λ o. option_map_or f o 0) (slice_get-get_or xs i d less) in
    let more : sum_by f (take (i + 1) xs) ≡ sum_by f (take i xs) + (0 + f x) = ap (sum_by f) (take_more xs i d less) ∙ sum_by-append f (take i xs) (x ∷ []) in
    omega (arith, here, more)
