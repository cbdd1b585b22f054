-- How a table's entries show its macros.
use Rattle.std.proofs.Common.{◌≡◌, ℕ, suc, ◌+◌, ◌<◌, Bool, true, false, cond, List, [], ◌∷◌, ◌++◌, length, map, slice_get, Option, Some, None, refl, ap, sym, ◌∙◌, String, string_bytes, subst, append_assoc, ltb, not, arith}
use Rattle.std.specs.Prelude.{unwrap_or}
use Rattle.std.proofs.lemmas.Option.{slice_get-map}
use Rattle.std.proofs.lemmas.Bool.{ltb-true}
use Rattle.std.proofs.lemmas.List.{length-map}
use Rattle.std.specs.List.{position, prefix_len, IsDistinct, AllByRecursion}
use Rattle.std.proofs.lemmas.Cmp.{nat_list_eq_equiv}
use Rattle.std.specs.Option.{option_map}
use Rattle.std.specs.Str.{bytes_eq}
use Rattle.std.specs.String.{string_eq}
use Rattle.indexmap.specs.IndexMap.{insert_entry, set_value_at}
use Rattle.indexmap.proofs.MapLemmas.{insert_entry-first, Found-position}
use Rattle.line_text.specs.Macros.{Macros, macros_of, with_macro, names, find_macro, place_of, value_at}

module _ {A : Type 0} where
  pub macros-insert_entry : (es : List (String A × List ℕ)) (k : String A) (v : List ℕ) → macros_of (insert_entry string_eq es k v) ≡ with_macro (string_bytes k) v (macros_of es)
  macros-insert_entry [] k v = refl
  macros-insert_entry (e ∷ es) k v = by (bytes_eq (string_bytes k) (string_bytes e.0)) (macros-insert_entry es k v)
    where
      by : (b : Bool) → macros_of (insert_entry string_eq es k v) ≡ with_macro (string_bytes k) v (macros_of es) → macros_of (cond b ((e.0, v) ∷ es) (e ∷ insert_entry string_eq es k v)) ≡ cond b ((string_bytes e.0, v) ∷ macros_of es) ((string_bytes e.0, e.1) ∷ with_macro (string_bytes k) v (macros_of es))
      by true rest = refl
      by false rest = ap (λ l. (string_bytes e.0, e.1) ∷ l) rest

  -- a write at the place of a name
  pub macros-set_value_at : (es : List (String A × List ℕ)) (k : String A) (v : List ℕ) (i : ℕ) → position (string_eq k) (map (λ e. e.0) es) ≡ Some i → macros_of (set_value_at es i v) ≡ with_macro (string_bytes k) v (macros_of es)
  macros-set_value_at es k v i at =
      sym (ap macros_of (insert_entry-first string_eq k v es i (Found-position (string_eq k) es i at).first)) ∙ macros-insert_entry es k v

  prefix_len-keys : (x : List ℕ) (es : List (String A × List ℕ)) → prefix_len (λ b. not (bytes_eq x b)) (names (macros_of es)) ≡ prefix_len (λ k. not (bytes_eq x (string_bytes k))) (map (λ e. e.0) es)
  prefix_len-keys x [] = refl
  prefix_len-keys x (e ∷ es) = ap (λ n. cond (not (bytes_eq x (string_bytes e.0))) (1 + n) 0) (prefix_len-keys x es)

  length-keys : (es : List (String A × List ℕ)) → length (names (macros_of es)) ≡ length (map (λ e. e.0) es)
  length-keys [] = refl
  length-keys (e ∷ es) = ap (λ n. suc n) (length-keys es)

  pub place_of-macros_of : (x : List ℕ) (es : List (String A × List ℕ)) → place_of x (macros_of es) ≡ position (λ k. bytes_eq x (string_bytes k)) (map (λ e. e.0) es)
  place_of-macros_of x es = λ i. cond (ltb (prefix_len-keys x es i) (length-keys es i)) (Some (prefix_len-keys x es i)) None

  pub value_at-macros_of : (es : List (String A × List ℕ)) (i : ℕ) (k : String A) (v : List ℕ) → slice_get es i ≡ Some (k, v) → value_at (macros_of es) i ≡ v
  value_at-macros_of es i k v at =
      ap (λ o. unwrap_or (option_map (λ m. m.1) o) []) (slice_get-map (λ e. (string_bytes e.0, e.1)) es i ∙ ap (option_map (λ e. (string_bytes e.0, e.1))) at)

  pub length-macros_of : (es : List (String A × List ℕ)) → length (macros_of es) ≡ length es
  length-macros_of [] = refl
  length-macros_of (e ∷ es) = ap (λ n. suc n) (length-macros_of es)

abbrev pub IsAbsent : List ℕ → Macros → Type 0
IsAbsent x [] = Unit {0}
IsAbsent x (m ∷ ms) = (bytes_eq x m.0 ≡ false) × IsAbsent x ms

-- no name is equal to one after it
abbrev pub AreDistinct : Macros → Type 0
AreDistinct [] = Unit {0}
AreDistinct (m ∷ ms) = IsAbsent m.0 ms × AreDistinct ms

module _ {A : Type 0} where
  absent_from : (k : String A) (es : List (String A × List ℕ)) → AllByRecursion (λ y. string_eq k y ≡ false) (map (λ e. e.0) es) → IsAbsent (string_bytes k) (macros_of es)
  absent_from k [] h = tt
  absent_from k (e ∷ es) h = (h.0, absent_from k es h.1)

  pub distinct_from : (es : List (String A × List ℕ)) → IsDistinct string_eq (map (λ e. e.0) es) → AreDistinct (macros_of es)
  unfolding IsDistinct
  distinct_from [] h = tt
  distinct_from (e ∷ es) h = (absent_from e.0 es h.0, distinct_from es h.1)

absent_at_next : (y : List ℕ) (ms : Macros) (m : List ℕ × List ℕ) (more : Macros) → IsAbsent y (ms ++ m ∷ more) → bytes_eq y m.0 ≡ false
absent_at_next y [] m more h = h.0
absent_at_next y (b ∷ ms) m more h = absent_at_next y ms m more h.1

-- a new name comes last
with_macro-new : (done : Macros) (m : List ℕ × List ℕ) (more : Macros) → AreDistinct (done ++ m ∷ more) → with_macro m.0 m.1 done ≡ done ++ m ∷ []
with_macro-new [] m more h = refl
with_macro-new (b ∷ done) m more h =
    ap (λ t. cond t ((b.0, m.1) ∷ done) (b ∷ with_macro m.0 m.1 done)) (nat_list_eq_equiv.symm m.0 b.0 ∙ absent_at_next b.0 done m more h.0)
    ∙ ap (λ l. b ∷ l) (with_macro-new done m more h.1)

-- a name that is moved from the beginning of what is left to the end of what is done
pub copied_more : (done : Macros) (m : List ℕ × List ℕ) (more whole : Macros) → done ++ m ∷ more ≡ whole → AreDistinct whole → with_macro m.0 m.1 done ++ more ≡ whole
copied_more done m more whole e distinct =
    ap (λ l. l ++ more) (with_macro-new done m more (subst AreDistinct (sym e) distinct)) ∙ append_assoc done (m ∷ []) more ∙ e

abbrev pub hit : ℕ → List ℕ → Option (ℕ × List ℕ)
hit p v = Some (p, v)

abbrev pub place_in : Option (ℕ × List ℕ) → ℕ
place_in None = 0
place_in (Some f) = f.0

abbrev pub value_in : Option (ℕ × List ℕ) → List ℕ
value_in None = []
value_in (Some f) = f.1

-- a name that is found has the value of its place
pub value_of_found : (x : List ℕ) (ms : Macros) (p : ℕ) (v : List ℕ) → find_macro x ms ≡ Some (p, v) → v ≡ value_at ms p
value_of_found x ms p v found = by (place_of x ms) found
  where
    by : (o : Option ℕ) → option_map {U = ℕ × List ℕ} (λ k. (k, value_at ms k)) o ≡ hit p v → v ≡ value_at ms p
    by None h = absurd (no h)
      where
        no : None ≡ hit p v → ⊥
        no h = cc
    by (Some k) h = sym (ap value_in h) ∙ ap (value_at ms) (ap place_in h)

-- and this place is one of the table
pub find_within : (x : List ℕ) (ms : Macros) (p : ℕ) (v : List ℕ) → find_macro x ms ≡ Some (p, v) → p < length ms
find_within x ms p v found = by (ltb first (length (names ms))) refl found
  where
    first : ℕ
    first = prefix_len (λ y. not (bytes_eq x y)) (names ms)

    by : (b : Bool) → ltb first (length (names ms)) ≡ b → option_map {U = ℕ × List ℕ} (λ k. (k, value_at ms k)) (cond b (Some first) None) ≡ hit p v → p < length ms
    by true less h =
        let is : first ≡ p = ap place_in h in
        omega (arith, is, ltb-true first (length (names ms)) less, length-map ms (λ m. m.0))
    by false less h = absurd (no h)
      where
        no : None ≡ hit p v → ⊥
        no h = cc
