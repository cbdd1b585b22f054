-- The two forms of arguments (HTCondor manual, "condor_submit", `arguments`).
use Rattle.ad_value.specs.Bytes.{code}
use Rattle.std.specs.Prelude.{ℕ, ◌==◌, ◌&&◌, ◌-◌, nat_le, List, [], ◌∷◌, length, take, drop, slice_index, Option, Some, None, if◌then◌else◌}
use Rattle.std.specs.Option.{option_map}

-- each backslash with a quote behind it is a quote
unfoldable pub plain_arguments : List ℕ → List ℕ
plain_arguments [] = []
plain_arguments (b ∷ []) = b ∷ []
plain_arguments (b ∷ (c ∷ bs)) =
    if (b == code "\\") && (c == code "\"") then code "\"" ∷ plain_arguments bs
    else b ∷ plain_arguments (c ∷ bs)

-- each two quotes are one; none where a quote stands alone
unfoldable pub paired : List ℕ → Option (List ℕ)
paired [] = Some []
paired (b ∷ []) = if b == code "\"" then None else Some (b ∷ [])
paired (b ∷ (c ∷ bs)) =
    if b == code "\""
    then (if c == code "\"" then option_map (λ r. code "\"" ∷ r) (paired bs) else None)
    else option_map (λ r. b ∷ r) (paired (c ∷ bs))

-- what stands between a quote at the start and another at the end
abbrev pub between : ℕ → ℕ → List ℕ → Option (List ℕ)
between open_ close bs =
    if nat_le 2 (length bs)
    && ((slice_index bs 0 == open_) && (slice_index bs (length bs - 1) == close))
    then Some (take (length bs - 2) (drop 1 bs))
    else None

abbrev pub paired_in : Option (List ℕ) → Option (List ℕ)
paired_in None = None
paired_in (Some inner) = paired inner

abbrev pub quoted_arguments : List ℕ → Option (List ℕ)
quoted_arguments bs = paired_in (between (code "\"") (code "\"") bs)
