-- Names in a list.
use Rattle.std.proofs.Common.{◌≡◌, ℕ, List, [], ◌∷◌, ◌++◌, true, false, ◌||◌, refl, ◌≢◌, Bool, not, filter, sym, ◌∙◌}
use Rattle.std.proofs.lemmas.Slice.Eq.{bytes_eq-Decides}
use Rattle.std.specs.Str.{bytes_eq}
use Rattle.pool_outer.specs.Files.{is_named}

-- a list has the name that was put at its end
pub pushed_is_named : (names : List (List ℕ)) (name : List ℕ) → is_named (names ++ name ∷ []) name ≡ true
pushed_is_named [] name = rw ((bytes_eq-Decides name name).1 refl) refl
pushed_is_named (n ∷ names) name =
    elim (bytes_eq n name) as (λ b. (b || is_named (names ++ name ∷ []) name) ≡ true) [ true ↦ refl | false ↦ pushed_is_named names name ]

-- a list without a name doesn't have it
pub without_name : (names : List (List ℕ)) (name : List ℕ) → is_named (filter (λ known. not (bytes_eq known name)) names) name ≡ false
without_name [] name = refl
without_name (n ∷ names) name = one (bytes_eq n name) refl (without_name names name)
  where
    one : (b : Bool) → bytes_eq n name ≡ b → is_named (filter (λ known. not (bytes_eq known name)) names) name ≡ false → is_named (filter (λ known. not (bytes_eq known name)) (n ∷ names)) name ≡ false
    one true is rest = rw is rest
    one false is rest = rw (is, is) rest

-- it has the others that it had
pub without_others : (name other : List ℕ) → other ≢ name → (names : List (List ℕ)) → is_named (filter (λ known. not (bytes_eq known name)) names) other ≡ is_named names other
without_others name other apart [] = refl
without_others name other apart (n ∷ names) = one (bytes_eq n name) refl (bytes_eq n other) refl (without_others name other apart names)
  where
    one : (b : Bool) → bytes_eq n name ≡ b → (d : Bool) → bytes_eq n other ≡ d → is_named (filter (λ known. not (bytes_eq known name)) names) other ≡ is_named names other → is_named (filter (λ known. not (bytes_eq known name)) (n ∷ names)) other ≡ is_named (n ∷ names) other
    one true is true too rest = absurd (apart (sym ((bytes_eq-Decides n other).0 too) ∙ (bytes_eq-Decides n name).0 is))
    one true is false too rest = rw (is, too) rest
    one false is true too rest = rw (is, too) refl
    one false is false too rest = rw (is, too) rest
