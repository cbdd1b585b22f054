-- The macros of one job after those of another, and those in which a job's own have no expansion.
use Rattle.std.proofs.Common.{◌≡◌, ℕ, suc, ◌+◌, Bool, true, false, true≢false, cond, List, [], ◌∷◌, length, Option, Some, None, refl, ap, sym, ◌∙◌, subst, inl, inr, ◌⊎◌, ltb, not, codes, arith}
use Rattle.std.specs.Option.{option_map}
use Rattle.std.specs.List.{position_or_len}
use Rattle.std.specs.Map.{lookup}
use Rattle.std.specs.Str.{bytes_eq}
use Rattle.std.specs.Cmp.Lexicographic.{bytes_decides}
use Rattle.std.proofs.lemmas.Bool.{lt-ltb, le-ltb, ltb-true, ltb-false}
use Rattle.ad_value.specs.Names.{lowercase}
use Rattle.line_text.specs.Macros.{Macros, with_macro, names, value_at}
use Rattle.submit_file.specs.JobMacros.{job_macros, variable_of, AreJobMacros, blocked}
use Rattle.submit_file.specs.Plans.{macro_value, Spares}

-- ---- a name that is set again

same : (a : List ℕ) → bytes_eq a a ≡ true
same a = (bytes_decides a a).1 refl

again : (a v w : List ℕ) (t : Macros) → with_macro a v (with_macro a w t) ≡ with_macro a v t
again a v w [] = ap (λ b. cond b ((a, v) ∷ []) ((a, w) ∷ ((a, v) ∷ []))) (same a)
again a v w (m ∷ ms) = by (bytes_eq a m.0) refl (again a v w ms)
  where
    by : (b : Bool) → bytes_eq a m.0 ≡ b → with_macro a v (with_macro a w ms) ≡ with_macro a v ms → with_macro a v (cond b ((m.0, w) ∷ ms) (m ∷ with_macro a w ms)) ≡ cond b ((m.0, v) ∷ ms) (m ∷ with_macro a v ms)
    by true e more = ap (λ b. cond b ((m.0, v) ∷ ms) ((m.0, w) ∷ with_macro a v ms)) e
    by false e more = ap (λ b. cond b ((m.0, v) ∷ with_macro a w ms) (m ∷ with_macro a v (with_macro a w ms))) e ∙ ap (λ l. m ∷ l) more

abbrev Has : List ℕ → Macros → Type 0
Has a [] = ⊥
Has a (m ∷ ms) = (bytes_eq a m.0 ≡ true) ⊎ Has a ms

has_set : (a v : List ℕ) (t : Macros) → Has a (with_macro a v t)
has_set a v [] = inl (same a)
has_set a v (m ∷ ms) = by (bytes_eq a m.0) refl (has_set a v ms)
  where
    by : (b : Bool) → bytes_eq a m.0 ≡ b → Has a (with_macro a v ms) → Has a (cond b ((m.0, v) ∷ ms) (m ∷ with_macro a v ms))
    by true e more = inl e
    by false e more = inr more

has_more : (a b w : List ℕ) (t : Macros) → Has a t → Has a (with_macro b w t)
has_more a b w [] has = absurd has
has_more a b w (m ∷ ms) has = by (bytes_eq b m.0) has (has_more a b w ms)
  where
    by : (c : Bool) → (bytes_eq a m.0 ≡ true) ⊎ Has a ms → (Has a ms → Has a (with_macro b w ms)) → Has a (cond c ((m.0, w) ∷ ms) (m ∷ with_macro b w ms))
    by true has more = has
    by false (inl e) more = inl e
    by false (inr h) more = inr (more h)

-- a name that is there is set before another as well as after it
past : (a b v w : List ℕ) → bytes_eq a b ≡ false → (t : Macros) → Has a t → with_macro a v (with_macro b w t) ≡ with_macro b w (with_macro a v t)
past a b v w apart [] has = absurd has
past a b v w apart (m ∷ ms) has = by (bytes_eq a m.0) (bytes_eq b m.0) refl refl has (past a b v w apart ms)
  where
    clash : bytes_eq a m.0 ≡ true → bytes_eq b m.0 ≡ true → ⊥
    clash e f = true≢false (sym ((bytes_decides a b).1 ((bytes_decides a m.0).0 e ∙ sym ((bytes_decides b m.0).0 f))) ∙ apart)

    left : (false ≡ true) ⊎ Has a ms → Has a ms
    left (inl e) = absurd (true≢false (sym e))
    left (inr h) = h

    by : (c d : Bool) → bytes_eq a m.0 ≡ c → bytes_eq b m.0 ≡ d → (c ≡ true) ⊎ Has a ms → (Has a ms → with_macro a v (with_macro b w ms) ≡ with_macro b w (with_macro a v ms)) → with_macro a v (cond d ((m.0, w) ∷ ms) (m ∷ with_macro b w ms)) ≡ with_macro b w (cond c ((m.0, v) ∷ ms) (m ∷ with_macro a v ms))
    by true true e f h more = absurd (clash e f)
    by true false e f h more =
        ap (λ c. cond c ((m.0, v) ∷ with_macro b w ms) (m ∷ with_macro a v (with_macro b w ms))) e
        ∙ sym (ap (λ c. cond c ((m.0, w) ∷ ms) ((m.0, v) ∷ with_macro b w ms)) f)
    by false true e f h more =
        ap (λ c. cond c ((m.0, v) ∷ ms) ((m.0, w) ∷ with_macro a v ms)) e
        ∙ sym (ap (λ c. cond c ((m.0, w) ∷ with_macro a v ms) (m ∷ with_macro b w (with_macro a v ms))) f)
    by false false e f h more =
        ap (λ c. cond c ((m.0, v) ∷ with_macro b w ms) (m ∷ with_macro a v (with_macro b w ms))) e
        ∙ ap (λ l. m ∷ l) (more (left h))
        ∙ sym (ap (λ c. cond c ((m.0, w) ∷ with_macro a v ms) (m ∷ with_macro b w (with_macro a v ms))) f)

-- ---- the macros of a job

abbrev procid : List ℕ
procid = lowercase (codes "ProcId")

abbrev process : List ℕ
process = lowercase (codes "Process")

abbrev numbers : List ℕ → Macros → Macros
numbers m t = with_macro procid m (with_macro process m t)

numbers_again : (m n k : List ℕ) (t : Macros) → numbers m (with_macro procid n (with_macro process k t)) ≡ numbers m t
numbers_again m n k t =
    ap (with_macro procid m) (past process procid m n refl (with_macro process k t) (has_set process k t) ∙ ap (with_macro procid n) (again process m k t))
    ∙ again procid m n (with_macro process m t)

-- where the variable is neither of the numbers
variable_apart : (v x y m n : List ℕ) (t : Macros) → bytes_eq v procid ≡ false → bytes_eq v process ≡ false → numbers m (with_macro v y (numbers n (with_macro v x t))) ≡ numbers m (with_macro v y t)
variable_apart v x y m n t e f =
    ap (numbers m) (
    past v procid y n e (with_macro process n (with_macro v x t)) (has_more v process n (with_macro v x t) (has_set v x t))
    ∙ ap (with_macro procid n) (past v process y n f (with_macro v x t) (has_set v x t) ∙ ap (with_macro process n) (again v y x t))
    )
    ∙ numbers_again m n n (with_macro v y t)

variable_process : (x y m n : List ℕ) (t : Macros) → numbers m (with_macro process y (numbers n (with_macro process x t))) ≡ numbers m (with_macro process y t)
variable_process x y m n t =
    ap (with_macro procid m) (again process m y (numbers n (with_macro process x t)))
    ∙ numbers_again m n n (with_macro process x t)
    ∙ ap (with_macro procid m) (again process m x t ∙ sym (again process m y t))

variable_procid : (x y m n : List ℕ) (t : Macros) → numbers m (with_macro procid y (numbers n (with_macro procid x t))) ≡ numbers m (with_macro procid y t)
variable_procid x y m n t =
    ap (numbers m) (again procid y n (with_macro process n (with_macro procid x t)))
    ∙ numbers_again m y n (with_macro procid x t)
    ∙ forgets x
    ∙ sym (forgets y)
  where
    forgets : (x : List ℕ) → numbers m (with_macro procid x t) ≡ with_macro process m (with_macro procid m t)
    forgets x = past procid process m m refl (with_macro procid x t) (has_set procid x t) ∙ ap (with_macro process m) (again procid m x t)

variable_again : (v x y m n : List ℕ) (t : Macros) → numbers m (with_macro v y (numbers n (with_macro v x t))) ≡ numbers m (with_macro v y t)
variable_again v x y m n t = by (bytes_eq v procid) (bytes_eq v process) refl refl
  where
    by : (c d : Bool) → bytes_eq v procid ≡ c → bytes_eq v process ≡ d → numbers m (with_macro v y (numbers n (with_macro v x t))) ≡ numbers m (with_macro v y t)
    by true d e f = subst (λ v. numbers m (with_macro v y (numbers n (with_macro v x t))) ≡ numbers m (with_macro v y t)) (sym ((bytes_decides v procid).0 e)) (variable_procid x y m n t)
    by false true e f = subst (λ v. numbers m (with_macro v y (numbers n (with_macro v x t))) ≡ numbers m (with_macro v y t)) (sym ((bytes_decides v process).0 f)) (variable_process x y m n t)
    by false false e f = variable_apart v x y m n t e f

-- nothing of another job of the statement is left
job_again : (m : List ℕ) (i : Option (List ℕ × List ℕ)) (file t : Macros) → AreJobMacros (variable_of i) file t → job_macros m i t ≡ job_macros m i file
job_again m None file t h = ap (numbers m) h.are ∙ numbers_again m h.number h.number file
job_again m (Some i) file t h = ap (λ t. numbers m (with_macro (lowercase i.0) i.1 t)) h.are ∙ variable_again (lowercase i.0) h.item i.1 m h.number file

pub are_job_macros : (m : List ℕ) (i : Option (List ℕ × List ℕ)) (file t : Macros) → t ≡ job_macros m i file → AreJobMacros (variable_of i) file t
are_job_macros m None file t is = record { number = m; item = []; are = is }
are_job_macros m (Some i) file t is = record { number = m; item = i.1; are = is }

pub are_blocked : (variable : Option (List ℕ)) (file t : Macros) → t ≡ blocked variable file → AreJobMacros variable file t
are_blocked variable file t is = record { number = codes "$("; item = codes "$("; are = is }

-- ---- a macro's value

abbrev value_from : Macros → ℕ → Bool → Option (List ℕ)
value_from t p b = option_map (λ (f : ℕ × List ℕ). f.1) (option_map (λ p. (p, value_at t p)) (cond b (Some p) None))

value_of_lookup : (x : List ℕ) (t : Macros) → macro_value x t ≡ lookup (bytes_eq x) t
value_of_lookup x [] = refl
value_of_lookup x (m ∷ ms) = by (bytes_eq x m.0) (value_of_lookup x ms)
  where
    place : ℕ
    place = position_or_len (bytes_eq x) (names ms)

    next : (b : Bool) → ltb place (length (names ms)) ≡ b → value_from ms place b ≡ lookup (bytes_eq x) ms → value_from (m ∷ ms) (1 + place) (ltb (1 + place) (suc (length (names ms)))) ≡ lookup (bytes_eq x) ms
    next true e more =
        let less = ltb-true place (length (names ms)) e in
        let one : 1 + place ≡ suc place = omega arith in
        ap (value_from (m ∷ ms) (1 + place)) (lt-ltb (1 + place) (suc (length (names ms))) (omega (arith, less)))
        ∙ ap (λ p. value_from (m ∷ ms) p true) one ∙ more
    next false e more =
        let less = ltb-false place (length (names ms)) e in
        ap (value_from (m ∷ ms) (1 + place)) (le-ltb (1 + place) (suc (length (names ms))) (omega (arith, less))) ∙ more

    by : (b : Bool) → macro_value x ms ≡ lookup (bytes_eq x) ms → value_from (m ∷ ms) (cond (not b) (1 + place) 0) (ltb (cond (not b) (1 + place) 0) (suc (length (names ms)))) ≡ cond b (Some m.1) (lookup (bytes_eq x) ms)
    by true more = ap (value_from (m ∷ ms) 0) (lt-ltb 0 (suc (length (names ms))) (omega arith))
    by false more = next (ltb place (length (names ms))) refl more

lookup_with : (x a v : List ℕ) (t : Macros) → lookup (bytes_eq x) (with_macro a v t) ≡ cond (bytes_eq x a) (Some v) (lookup (bytes_eq x) t)
lookup_with x a v [] = refl
lookup_with x a v (m ∷ ms) = by (bytes_eq a m.0) (bytes_eq x a) (bytes_eq x m.0) refl refl refl (lookup_with x a v ms)
  where
    rest : Option (List ℕ)
    rest = lookup (bytes_eq x) ms

    by : (b c d : Bool) → bytes_eq a m.0 ≡ b → bytes_eq x a ≡ c → bytes_eq x m.0 ≡ d → lookup (bytes_eq x) (with_macro a v ms) ≡ cond (bytes_eq x a) (Some v) (lookup (bytes_eq x) ms) → lookup (bytes_eq x) (cond b ((m.0, v) ∷ ms) (m ∷ with_macro a v ms)) ≡ cond (bytes_eq x a) (Some v) (cond (bytes_eq x m.0) (Some m.1) (lookup (bytes_eq x) ms))
    by true c d e f g more = ap (λ y. cond (bytes_eq x y) (Some v) (lookup (bytes_eq x) ms)) (sym ((bytes_decides a m.0).0 e)) ∙ found (bytes_eq x a) (bytes_eq x m.0) (ap (bytes_eq x) ((bytes_decides a m.0).0 e))
      where
        found : (c d : Bool) → c ≡ d → cond c (Some v) (lookup (bytes_eq x) ms) ≡ cond c (Some v) (cond d (Some m.1) (lookup (bytes_eq x) ms))
        found true d is = refl
        found false true is = absurd (true≢false (sym is))
        found false false is = refl
    by false true true e f g more = absurd (true≢false (sym ((bytes_decides a m.0).1 (sym ((bytes_decides x a).0 f) ∙ (bytes_decides x m.0).0 g)) ∙ e))
    by false true false e f g more =
        ap (λ d. cond d (Some m.1) (lookup (bytes_eq x) (with_macro a v ms))) g ∙ more ∙ ap (λ d. cond (bytes_eq x a) (Some v) (cond d (Some m.1) (lookup (bytes_eq x) ms))) (sym g)
    by false false d e f g more =
        ap (λ o. cond (bytes_eq x m.0) (Some m.1) o) (more ∙ ap (λ c. cond c (Some v) (lookup (bytes_eq x) ms)) f) ∙ ap (λ c. cond c (Some v) (cond (bytes_eq x m.0) (Some m.1) (lookup (bytes_eq x) ms))) (sym f)

-- ---- macros that have no expansion

abbrev nowhere : List ℕ
nowhere = codes "$("

abbrev Known : List ℕ → Macros → Macros → Type 0
Known x t u = (lookup (bytes_eq x) t ≡ Some nowhere) ⊎ (lookup (bytes_eq x) t ≡ lookup (bytes_eq x) u)

known_with : (x a n : List ℕ) (t u : Macros) → Known x t u → Known x (with_macro a nowhere t) (with_macro a n u)
known_with x a n t u known = by (bytes_eq x a) refl known
  where
    at : (b : Bool) (v : List ℕ) (t : Macros) → bytes_eq x a ≡ b → lookup (bytes_eq x) (with_macro a v t) ≡ cond b (Some v) (lookup (bytes_eq x) t)
    at b v t e = lookup_with x a v t ∙ ap (λ b. cond b (Some v) (lookup (bytes_eq x) t)) e

    by : (b : Bool) → bytes_eq x a ≡ b → Known x t u → Known x (with_macro a nowhere t) (with_macro a n u)
    by true e known = inl (at true nowhere t e)
    by false e (inl k) = inl (at false nowhere t e ∙ k)
    by false e (inr k) = inr (at false nowhere t e ∙ k ∙ sym (at false n u e))

known_all : (variable : Option (List ℕ)) (x n w : List ℕ) (file : Macros) → Known x (blocked variable file) (job_macros n (option_map (λ v. (v, w)) variable) file)
known_all None x n w file =
    known_with x procid n (with_macro process nowhere file) (with_macro process n file)
    (known_with x process n file file (inr refl))
known_all (Some v) x n w file =
    known_with x procid n (with_macro process nowhere (with_macro (lowercase v) nowhere file)) (with_macro process n (with_macro (lowercase v) w file))
    (known_with x process n (with_macro (lowercase v) nowhere file) (with_macro (lowercase v) w file)
    (known_with x (lowercase v) w file file (inr refl)))

abbrev Told : List ℕ → Macros → Macros → Type 0
Told x t u = (macro_value x t ≡ Some nowhere) ⊎ (macro_value x t ≡ macro_value x u)

told : (x : List ℕ) (t u : Macros) → Known x t u → Told x t u
told x t u (inl k) = inl (value_of_lookup x t ∙ k)
told x t u (inr k) = inr (value_of_lookup x t ∙ k ∙ sym (value_of_lookup x u))

pub job_spared : (variable : Option (List ℕ)) (file t u : Macros) → t ≡ blocked variable file → AreJobMacros variable file u → Spares t u
job_spared variable file t u is h x =
    subst (λ t. Told x t u) (sym is) (subst (λ u. Told x (blocked variable file) u) (sym h.are) (told x (blocked variable file) (job_macros h.number (option_map (λ v. (v, h.item)) variable) file) (known_all variable x h.number h.item file)))

-- the macros of a job are set over those of the one before
pub job_set : (m : List ℕ) (i : Option (List ℕ × List ℕ)) (file old new : Macros) → AreJobMacros (variable_of i) file old → new ≡ job_macros m i old → new ≡ job_macros m i file
job_set m i file old new h is = is ∙ job_again m i file old h
