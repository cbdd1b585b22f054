-- How the entries of a table with hashed keys show a finite map.
use Rattle.std.proofs.Common.{◌≡◌, List, [], ◌∷◌, ◌++◌, Some, None, Bool, true, false, cond, refl, sym, ◌∙◌, ap, subst, append_assoc, if◌then◌else◌}
use Rattle.std.specs.Map.{lookup, set_value, remove_entry}
use Rattle.indexmap.specs.IndexMap.{insert_entry}
use Rattle.claim_id.specs.declared.numbers.JobId.{JobId}
use Rattle.claim_id.specs.declared.numbers.SlotId.{SlotId}
use Rattle.pool_view.specs.Numbers.{same_job, same_slot}
use Rattle.thin_pool.specs.declared.job.Job.{Job}
use Rattle.thin_pool.specs.declared.job.Phase.{Phase}
use Rattle.thin_pool.specs.declared.job.SlotRun.{SlotRun}
use Rattle.thin_pool.specs.PoolValue.{value_at, HasKeysOnce, job_at}
use Rattle.thin_pool.specs.Reactions.{with_phase, without_run}
use Rattle.thin_pool.proofs.Tables.{Tells, none_at, at_none, flipped, in_phase}

module _ {K A : Type 0} (same : K → K → Bool) where
  -- a look-up is one by the keys' own test
  pub lookup-value_at : (k : K) (es : List (K × A)) → lookup (same k) es ≡ value_at same k es
  lookup-value_at k [] = refl
  lookup-value_at k (e ∷ es) = ap (λ o. if same k e.0 then Some e.1 else o) (lookup-value_at k es)

  -- a new key goes last
  pub insert_entry-last : (k : K) (v : A) (es : List (K × A)) → value_at same k es ≡ None → insert_entry same es k v ≡ es ++ (k, v) ∷ []
  insert_entry-last k v [] none = refl
  insert_entry-last k v (e ∷ es) none =
      let parts = none_at (same k e.0) e.1 (value_at same k es) none in
      ap (λ b. if b then (e.0, v) ∷ es else e ∷ insert_entry same es k v) parts.0 ∙ ap (λ l. e ∷ l) (insert_entry-last k v es parts.1)

module _ {K A : Type 0} {same : K → K → Bool} (tells : Tells same) where
  -- a key of a table is not met before its place
  pub none_before : (done : List (K × A)) (e : K × A) (more : List (K × A)) → HasKeysOnce same (done ++ e ∷ more) → value_at same e.0 done ≡ None
  none_before [] e more once = refl
  none_before (x ∷ xs) e more once = at_none (same e.0 x.0) x.1 (value_at same e.0 xs) apart (none_before xs e more once.1)
    where
      absent_behind : (k : K) (ys : List (K × A)) → value_at same k (ys ++ e ∷ more) ≡ None → same k e.0 ≡ false
      absent_behind k [] none = (none_at (same k e.0) e.1 (value_at same k more) none).0
      absent_behind k (y ∷ ys) none = absent_behind k ys (none_at (same k y.0) y.1 (value_at same k (ys ++ e ∷ more)) none).1

      apart : same e.0 x.0 ≡ false
      apart = flipped tells x.0 e.0 (absent_behind x.0 xs once.0)

  -- an entry that is moved from the front of what is left to the end of what is done
  pub copied_more : (done : List (K × A)) (e : K × A) (more whole : List (K × A)) → done ++ e ∷ more ≡ whole → HasKeysOnce same whole → insert_entry same done e.0 e.1 ++ more ≡ whole
  copied_more done e more whole is once =
      ap (λ l. l ++ more) (insert_entry-last same e.0 e.1 done (none_before done e more (subst (HasKeysOnce same) (sym is) once))) ∙ append_assoc done (e ∷ []) more ∙ is

some_is : {A : Type 0} (x y : A) → Some x ≡ Some y → x ≡ y
some_is x y h = cc

none_is_not : {A : Type 0} (x : A) → None ≡ Some x → ⊥
none_is_not x h = cc

-- a job's phase that is written in its place
pub set_value-with_phase : (job : JobId) (ph : Phase) (es : List (JobId × Job)) (j : Job) → lookup (same_job job) es ≡ Some j → set_value (same_job job) es (in_phase ph j) ≡ with_phase job ph es
set_value-with_phase job ph [] j there = absurd (none_is_not j there)
set_value-with_phase job ph (e ∷ es) j there = by (same_job job e.0) (set_value-with_phase job ph es j) there
  where
    by : (b : Bool) → (lookup (same_job job) es ≡ Some j → set_value (same_job job) es (in_phase ph j) ≡ with_phase job ph es)
        → cond b (Some e.1) (lookup (same_job job) es) ≡ Some j
        → cond b ((e.0, in_phase ph j) ∷ es) (e ∷ set_value (same_job job) es (in_phase ph j)) ≡ (if b then (e.0, in_phase ph e.1) ∷ es else e ∷ with_phase job ph es)
    by true rest there = ap (λ k. (e.0, in_phase ph k) ∷ es) (sym (some_is e.1 j there))
    by false rest there = ap (λ l. e ∷ l) (rest there)

pub with_phase-none : (job : JobId) (ph : Phase) (es : List (JobId × Job)) → job_at job es ≡ None → with_phase job ph es ≡ es
with_phase-none job ph [] none = refl
with_phase-none job ph (e ∷ es) none =
    let parts = none_at (same_job job e.0) e.1 (job_at job es) none in
    ap (λ b. if b then (e.0, in_phase ph e.1) ∷ es else e ∷ with_phase job ph es) parts.0 ∙ ap (λ l. e ∷ l) (with_phase-none job ph es parts.1)

pub remove_entry-without_run : (slot : SlotId) (es : List (SlotId × SlotRun)) → remove_entry (same_slot slot) es ≡ without_run slot es
remove_entry-without_run slot [] = refl
remove_entry-without_run slot (e ∷ es) = ap (λ l. if same_slot slot e.0 then es else e ∷ l) (remove_entry-without_run slot es)
