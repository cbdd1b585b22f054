-- The places of settings, by their names in lower case.
use Rattle.std.proofs.Common.{Bor, Result, Ok, Err, OnOk, ◌≡◌, ℕ, zero, suc, ◌+◌, ◌<◌, ◌≤◌, not, Bool, true, false, true≢false, cond, List, [], ◌∷◌, ◌++◌, ◌||◌, length, map, get_or, slice_get, slice_set, String, Global, string_bytes, Option, Some, None, refl, ap, sym, ◌∙◌, arith}
use Rattle.std.specs.Prelude.{nat_lt}
use Rattle.std.specs.List.{list_any, position, position_or_len}
use Rattle.std.specs.Option.{option_map}
use Rattle.std.specs.Slice.{IsItemAt}
use Rattle.std.specs.Str.{bytes_eq}
use Rattle.std.specs.String.{string_eq}
use Rattle.std.proofs.lemmas.Bool.{ltb-false, or_from}
use Rattle.std.proofs.lemmas.Cmp.{nat_list_eq_equiv}
use Rattle.std.proofs.lemmas.List.{map-append, length-map}
use Rattle.std.proofs.lemmas.Option.{slice_get_past}
use Rattle.ad_value.specs.Names.{lowercase, same_name}
use Rattle.submit_lines.specs.declared.command.Command.{Command}
use Rattle.submit_lines.specs.declared.command.Command.TheVariants as command
use Rattle.submit_lines.specs.Commands.{command_name}
use Rattle.submit_file.specs.declared.setting.Setting.{Setting}
use Rattle.submit_file.specs.Settings.{setting_of, lowercase_names}
use Rattle.submit_file.proofs.Puts.{with_value}

-- where a name in lower case stands
abbrev pub place_of : List ℕ → List Setting → ℕ
place_of x ss = position_or_len (λ s. bytes_eq (lowercase s.name) x) ss

place-keys : (x : List ℕ) (ks : List (String Global)) → position_or_len (λ k. bytes_eq x (string_bytes k)) ks ≡ position_or_len (bytes_eq x) (map string_bytes ks)
place-keys x [] = refl
place-keys x (k ∷ ks) = ap (λ n. cond (not (bytes_eq x (string_bytes k))) (1 + n) 0) (place-keys x ks)

place-names : (x : List ℕ) (ss : List Setting) → position_or_len (bytes_eq x) (lowercase_names ss) ≡ place_of x ss
place-names x [] = refl
place-names x (s ∷ ss) =
    let turned : bytes_eq x (lowercase s.name) ≡ bytes_eq (lowercase s.name) x = nat_list_eq_equiv.symm x (lowercase s.name) in
    (λ i. cond (not (turned i)) (1 + place-names x ss i) 0)

within : (x : List ℕ) (ss : List Setting) → place_of x ss ≤ length ss
within x [] = omega arith
within x (s ∷ ss) = by (not (bytes_eq (lowercase s.name) x)) (within x ss)
  where
    by : (b : Bool) → place_of x ss ≤ length ss → cond b (1 + place_of x ss) 0 ≤ length (s ∷ ss)
    by true rest = omega (arith, rest)
    by false rest = omega arith

abbrev place_or : Option ℕ → ℕ → ℕ
place_or None n = n
place_or (Some i) n = i

-- the place that the names' index gives
pub place_is : (x : List ℕ) (ks : List (String Global)) (ss : List Setting) (r : Option ℕ) → map string_bytes ks ≡ lowercase_names ss → r ≡ position (λ k. bytes_eq x (string_bytes k)) ks → place_or r (length ss) ≡ place_of x ss
place_is x ks ss r names is = ap (λ o. place_or o (length ss)) is ∙ by (nat_lt first (length ks)) refl
  where
    first : ℕ
    first = position_or_len (λ k. bytes_eq x (string_bytes k)) ks

    at : first ≡ place_of x ss
    at = place-keys x ks ∙ ap (position_or_len (bytes_eq x)) names ∙ place-names x ss

    long : length ks ≡ length ss
    long = sym (length-map ks string_bytes) ∙ ap length names ∙ length-map ss (λ s. lowercase s.name)

    by : (b : Bool) → nat_lt first (length ks) ≡ b → place_or (cond b (Some first) None) (length ss) ≡ place_of x ss
    by true less = at
    by false more = let least = ltb-false first (length ks) more in omega (arith, least, at, long, within x ss)

-- the setting at a name's place
pub found_at : (x : List ℕ) (ss : List Setting) → lowercase x ≡ x → slice_get ss (place_of x ss) ≡ setting_of x ss
found_at x [] lower = refl
found_at x (s ∷ ss) lower = by (bytes_eq (lowercase s.name) x) (same_name s.name x) (ap (bytes_eq (lowercase s.name)) (sym lower)) (found_at x ss lower)
  where
    by : (b t : Bool) → b ≡ t → slice_get ss (place_of x ss) ≡ setting_of x ss → slice_get (s ∷ ss) (cond (not b) (1 + place_of x ss) 0) ≡ cond t (Some s) (setting_of x ss)
    by true true both rest = refl
    by true false both rest = absurd (true≢false both)
    by false true both rest = absurd (true≢false (sym both))
    by false false both rest =
        let one : 1 + place_of x ss ≡ suc (place_of x ss) = omega arith in
        ap (slice_get (s ∷ ss)) one ∙ rest

there : (ss : List Setting) (i : ℕ) (s : Setting) → i < length ss → s ≡ get_or ss i s → slice_get ss i ≡ Some s
there [] i s inside is = absurd (omega (arith, inside))
there (t ∷ ss) zero s inside is = ap Some (sym is)
there (t ∷ ss) (suc i) s inside is = there ss i s (omega (arith, inside)) is

-- what a slice lends
pub lent : (ss : List Setting) (i : ℕ) (r : Option (Bor Setting)) → IsItemAt ss i r → option_map (λ s. s.now) r ≡ slice_get ss i
lent ss i None is = sym (slice_get_past ss i is.3)
lent ss i (Some s) is = sym (there ss i s.now is.3.0 is.1)

-- a value that is written leaves the names
pub names_stay : (v : List ℕ) (n i : ℕ) (ss : List Setting) (s : Setting) → i < length ss → s ≡ get_or ss i s → lowercase_names (slice_set ss i (with_value v n s)) ≡ lowercase_names ss
names_stay v n i [] s inside is = absurd (omega arith)
names_stay v n zero (t ∷ ss) s inside is = ap (λ (s : Setting). lowercase s.name ∷ lowercase_names ss) is
names_stay v n (suc i) (t ∷ ss) s inside is = ap (λ l. lowercase t.name ∷ l) (names_stay v n i ss s (omega arith) is)

-- a name that stands at no place is new
pub absent : (x : List ℕ) (ss : List Setting) → length ss ≤ place_of x ss → list_any (bytes_eq x) (lowercase_names ss) ≡ false
absent x [] past = refl
absent x (s ∷ ss) past = by (bytes_eq (lowercase s.name) x) (nat_list_eq_equiv.symm x (lowercase s.name)) past (absent x ss)
  where
    by : (b : Bool) → bytes_eq x (lowercase s.name) ≡ b → length (s ∷ ss) ≤ cond (not b) (1 + place_of x ss) 0 → (length ss ≤ place_of x ss → list_any (bytes_eq x) (lowercase_names ss) ≡ false) → (bytes_eq x (lowercase s.name) || list_any (bytes_eq x) (lowercase_names ss)) ≡ false
    by true is past rest = absurd (omega arith)
    by false is past rest = or_from (bytes_eq x (lowercase s.name)) (list_any (bytes_eq x) (lowercase_names ss)) is (rest (omega (arith, past)))

any-keys : (x : List ℕ) (ks : List (String Global)) → list_any (λ k. bytes_eq x (string_bytes k)) ks ≡ list_any (bytes_eq x) (map string_bytes ks)
any-keys x [] = refl
any-keys x (k ∷ ks) = ap (λ b. bytes_eq x (string_bytes k) || b) (any-keys x ks)

-- a new name and its setting come last
pub names_more : (k : String Global) (ks new : List (String Global)) (ss : List Setting) (s : Setting) → map string_bytes ks ≡ lowercase_names ss → string_bytes k ≡ lowercase s.name → list_any (bytes_eq (string_bytes k)) (lowercase_names ss) ≡ false
    → new ≡ cond (list_any (string_eq k) ks) ks (ks ++ k ∷ []) → map string_bytes new ≡ lowercase_names (ss ++ s ∷ [])
names_more k ks new ss s names named none is =
    let free : list_any (string_eq k) ks ≡ false = any-keys (string_bytes k) ks ∙ ap (list_any (bytes_eq (string_bytes k))) names ∙ none in
    ap (map string_bytes) (is ∙ ap (λ b. cond b ks (ks ++ k ∷ [])) free)
    ∙ map-append string_bytes ks (k ∷ [])
    ∙ (λ i. names i ++ named i ∷ [])
    ∙ sym (map-append (λ s. lowercase s.name) ss (s ∷ []))

pub then_ok : {A E P Q : Type 0} (r : Result A E) → (P → Q) → OnOk r P → OnOk r Q
then_ok (Ok a) next is = next is
then_ok (Err e) next is = tt

-- ---- the names of commands

pub lower_command : (c : Command) → lowercase (command_name c) ≡ command_name c
lower_command command.Executable = refl
lower_command command.Arguments = refl
lower_command command.Universe = refl
lower_command command.InitialDir = refl
lower_command command.Input = refl
lower_command command.Output = refl
lower_command command.Error = refl
lower_command command.Log = refl
lower_command command.Priority = refl
lower_command command.Requirements = refl
lower_command command.Rank = refl
lower_command command.RequestCpus = refl
lower_command command.RequestMemory = refl
lower_command command.RequestDisk = refl
lower_command command.JobLeaseDuration = refl
lower_command command.OnExitHold = refl
lower_command command.OnExitRemove = refl
lower_command command.PeriodicHold = refl
lower_command command.PeriodicRemove = refl
lower_command command.PeriodicRelease = refl
