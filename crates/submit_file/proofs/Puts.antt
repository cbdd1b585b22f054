-- A value put under a name, at the place where the name stands first.
use Rattle.std.proofs.Common.{◌≡◌, ℕ, suc, ◌+◌, ◌<◌, ◌≤◌, not, Bool, true, false, cond, List, [], ◌∷◌, ◌++◌, length, get_or, slice_set, refl, ap, sym, ◌∙◌, subst, arith}
use Rattle.std.specs.List.{position_or_len}
use Rattle.ad_value.specs.Names.{same_name}
use Rattle.submit_file.specs.declared.setting.Setting.{Setting}
use Rattle.submit_file.specs.Settings.{with_setting}

-- where a name stands
abbrev pub pos : List ℕ → List Setting → ℕ
pos x ss = position_or_len (λ s. same_name s.name x) ss

abbrev pub with_value : List ℕ → ℕ → Setting → Setting
with_value v n s = record { name = s.name; value = v; line = n }

put_at : (x v : List ℕ) (n : ℕ) (ss : List Setting) (s : Setting) → pos x ss < length ss → s ≡ get_or ss (pos x ss) s → slice_set ss (pos x ss) (with_value v n s) ≡ with_setting x v n ss
put_at x v n [] s l g = absurd (omega (arith, l))
put_at x v n (s0 ∷ ss) s l g = by (same_name s0.name x) (put_at x v n ss s) l g
  where
    one : suc (pos x ss) ≡ 1 + pos x ss
    one = omega arith

    by : (t : Bool) → (pos x ss < length ss → s ≡ get_or ss (pos x ss) s → slice_set ss (pos x ss) (with_value v n s) ≡ with_setting x v n ss) → cond (not t) (1 + pos x ss) 0 < length (s0 ∷ ss) → s ≡ get_or (s0 ∷ ss) (cond (not t) (1 + pos x ss) 0) s → slice_set (s0 ∷ ss) (cond (not t) (1 + pos x ss) 0) (with_value v n s) ≡ cond t (with_value v n s0 ∷ ss) (s0 ∷ with_setting x v n ss)
    by true more l g = ap (λ s. with_value v n s ∷ ss) g
    by false more l g = (subst (λ m. m < length (s0 ∷ ss) → s ≡ get_or (s0 ∷ ss) m s → slice_set (s0 ∷ ss) m (with_value v n s) ≡ s0 ∷ with_setting x v n ss) one (λ l g. ap (λ ss. s0 ∷ ss) (more (omega (arith, l)) g))) l g

pub put_there : (x v : List ℕ) (n : ℕ) (ss : List Setting) (s : Setting) (i : ℕ) → i ≡ pos x ss → i < length ss → s ≡ get_or ss i s → slice_set ss i (with_value v n s) ≡ with_setting x v n ss
put_there x v n ss s i e l g = subst (λ i. i < length ss → s ≡ get_or ss i s → slice_set ss i (with_value v n s) ≡ with_setting x v n ss) (sym e) (put_at x v n ss s) l g

-- the same of a value that was copied
pub put_copied : (x v w : List ℕ) (n i : ℕ) (ss items : List Setting) (s : Setting) → items ≡ ss → w ≡ v → i ≡ pos x ss → i < length items → s ≡ get_or items i s → slice_set items i (with_value w n s) ≡ with_setting x v n ss
put_copied x v w n i ss items s same valued e l g =
    (λ k. slice_set (same k) i (with_value (valued k) n s)) ∙ put_there x v n ss s i e (subst (λ items. i < length items) same l) (subst (λ items. s ≡ get_or items i s) same g)

add_at : (x v : List ℕ) (n : ℕ) (ss : List Setting) → length ss ≤ pos x ss → ss ++ record { name = x; value = v; line = n } ∷ [] ≡ with_setting x v n ss
add_at x v n [] l = refl
add_at x v n (s0 ∷ ss) l = by (same_name s0.name x) (add_at x v n ss) l
  where
    by : (t : Bool) → (length ss ≤ pos x ss → ss ++ record { name = x; value = v; line = n } ∷ [] ≡ with_setting x v n ss) → length (s0 ∷ ss) ≤ cond (not t) (1 + pos x ss) 0 → s0 ∷ (ss ++ record { name = x; value = v; line = n } ∷ []) ≡ cond t (with_value v n s0 ∷ ss) (s0 ∷ with_setting x v n ss)
    by true more l = absurd (omega (arith, l))
    by false more l = ap (λ ss. s0 ∷ ss) (more (omega (arith, l)))

pub add_there : (x v : List ℕ) (n i : ℕ) (ss : List Setting) → i ≡ pos x ss → length ss ≤ i → ss ++ record { name = x; value = v; line = n } ∷ [] ≡ with_setting x v n ss
add_there x v n i ss e l = add_at x v n ss (omega (arith, e, l))

-- the same of a name and a value that were copied
pub add_copied : (x v y w : List ℕ) (n i : ℕ) (ss old new : List Setting) → old ≡ ss → y ≡ x → w ≡ v → i ≡ pos x ss → length ss ≤ i → new ≡ old ++ record { name = y; value = w; line = n } ∷ [] → new ≡ with_setting x v n ss
add_copied x v y w n i ss old new same named valued e l is = is ∙ (λ k. same k ++ record { name = named k; value = valued k; line = n } ∷ []) ∙ add_there x v n i ss e l

pub ruleset puts = (put_there, add_there)
