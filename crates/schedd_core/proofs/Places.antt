-- What is in a list after one of its items was taken out, put in or changed.
use Rattle.std.proofs.Common.{◌≡◌, ◌≢◌, ◌⊎◌, inl, inr, ℕ, zero, suc, Bool, true, List, [], ◌∷◌, ◌++◌, Some, refl, ap, sym, ◌∙◌, slice_get, position}
use Rattle.std.specs.Prelude.{slice_set, insert, remove}
use Rattle.std.proofs.lemmas.List.Quantifiers.{position-Some}
use Rattle.std.proofs.lemmas.Option.{get_or_from_slice_get}
use Rattle.pool_view.specs.AbstractPool.{IsIn}
use Rattle.schedd_plan.specs.declared.runs.KeptRun.{KeptRun}
use Rattle.schedd_core.specs.ScheddParts.{AreOfDifferentJobs}

pub in_at : {A : Type 0} (xs : List A) (i : ℕ) (x : A) → slice_get xs i ≡ Some x → IsIn x xs
in_at [] i x h = cc
in_at (y ∷ ys) zero x h = let same : x ≡ y = cc in inl same
in_at (y ∷ ys) (suc i) x h = inr (in_at ys i x h)

-- what stands at the place of a test passes it
pub passes_at : {A : Type 0} (p : A → Bool) (xs : List A) (i : ℕ) (x : A) → position p xs ≡ Some i → slice_get xs i ≡ Some x → p x ≡ true
passes_at p xs i x at is = ap p (sym (get_or_from_slice_get xs i x x is)) ∙ (position-Some p xs i x at).1

-- ---- one is taken out
pub in_removed : {A : Type 0} (xs : List A) (i : ℕ) (x : A) → IsIn x (remove xs i) → IsIn x xs
in_removed [] zero x h = absurd h
in_removed [] (suc i) x h = absurd h
in_removed (y ∷ ys) zero x h = inr h
in_removed (y ∷ ys) (suc i) x (inl same) = inl same
in_removed (y ∷ ys) (suc i) x (inr h) = inr (in_removed ys i x h)

pub removed_is_other : (xs : List KeptRun) (i : ℕ) (r s : KeptRun) → AreOfDifferentJobs xs → slice_get xs i ≡ Some r → IsIn s (remove xs i) → s.job ≢ r.job
removed_is_other [] i r s one at h = cc
removed_is_other (y ∷ ys) zero r s one at h = let same : y ≡ r = cc in λ e. one.0 s h (e ∙ sym (ap (λ k. k.job) same))
removed_is_other (y ∷ ys) (suc i) r s one at (inl same) = λ e. one.0 r (in_at ys i r at) (sym e ∙ ap (λ k. k.job) same)
removed_is_other (y ∷ ys) (suc i) r s one at (inr h) = removed_is_other ys i r s one.1 at h

pub different_removed : (xs : List KeptRun) (i : ℕ) → AreOfDifferentJobs xs → AreOfDifferentJobs (remove xs i)
different_removed [] zero one = tt
different_removed [] (suc i) one = tt
different_removed (y ∷ ys) zero one = one.1
different_removed (y ∷ ys) (suc i) one = (λ s h. one.0 s (in_removed ys i s h), different_removed ys i one.1)

pub stays_after_removal : (xs : List KeptRun) (i : ℕ) (r s : KeptRun) → slice_get xs i ≡ Some r → IsIn s xs → s.job ≢ r.job → IsIn s (remove xs i)
stays_after_removal [] i r s at h other = absurd h
stays_after_removal (y ∷ ys) zero r s at (inl same) other = let is : y ≡ r = cc in absurd (other (ap (λ k. k.job) (same ∙ is)))
stays_after_removal (y ∷ ys) zero r s at (inr h) other = h
stays_after_removal (y ∷ ys) (suc i) r s at (inl same) other = inl same
stays_after_removal (y ∷ ys) (suc i) r s at (inr h) other = inr (stays_after_removal ys i r s at h other)

-- ---- one is put in
pub in_inserted : {A : Type 0} (xs : List A) (i : ℕ) (y x : A) → IsIn x (insert xs i y) → (x ≡ y) ⊎ IsIn x xs
in_inserted [] zero y x h = h
in_inserted [] (suc i) y x h = h
in_inserted (z ∷ zs) zero y x h = h
in_inserted (z ∷ zs) (suc i) y x (inl same) = inr (inl same)
in_inserted (z ∷ zs) (suc i) y x (inr h) = by (in_inserted zs i y x h)
  where
    by : (x ≡ y) ⊎ IsIn x zs → (x ≡ y) ⊎ IsIn x (z ∷ zs)
    by (inl same) = inl same
    by (inr there) = inr (inr there)

pub inserted_is_in : {A : Type 0} (xs : List A) (i : ℕ) (y : A) → IsIn y (insert xs i y)
inserted_is_in [] zero y = inl refl
inserted_is_in [] (suc i) y = inl refl
inserted_is_in (z ∷ zs) zero y = inl refl
inserted_is_in (z ∷ zs) (suc i) y = inr (inserted_is_in zs i y)

pub stays_after_insertion : {A : Type 0} (xs : List A) (i : ℕ) (y x : A) → IsIn x xs → IsIn x (insert xs i y)
stays_after_insertion [] i y x h = absurd h
stays_after_insertion (z ∷ zs) zero y x h = inr h
stays_after_insertion (z ∷ zs) (suc i) y x (inl same) = inl same
stays_after_insertion (z ∷ zs) (suc i) y x (inr h) = inr (stays_after_insertion zs i y x h)

pub different_inserted : (xs : List KeptRun) (i : ℕ) (r : KeptRun) → ((s : KeptRun) → IsIn s xs → s.job ≢ r.job) → AreOfDifferentJobs xs → AreOfDifferentJobs (insert xs i r)
different_inserted [] zero r other one = (λ s h. absurd h, tt)
different_inserted [] (suc i) r other one = (λ s h. absurd h, tt)
different_inserted (z ∷ zs) zero r other one = (other, one)
different_inserted (z ∷ zs) (suc i) r other one = (λ s h. by s (in_inserted zs i r s h), different_inserted zs i r (λ s h. other s (inr h)) one.1)
  where
    by : (s : KeptRun) → (s ≡ r) ⊎ IsIn s zs → s.job ≢ z.job
    by s (inl same) = λ e. other z (inl refl) (sym e ∙ ap (λ k. k.job) same)
    by s (inr there) = one.0 s there

-- ---- one is changed
pub in_changed : {A : Type 0} (xs : List A) (i : ℕ) (y x : A) → IsIn x (slice_set xs i y) → (x ≡ y) ⊎ IsIn x xs
in_changed [] zero y x h = absurd h
in_changed [] (suc i) y x h = absurd h
in_changed (z ∷ zs) zero y x (inl same) = inl same
in_changed (z ∷ zs) zero y x (inr h) = inr (inr h)
in_changed (z ∷ zs) (suc i) y x (inl same) = inr (inl same)
in_changed (z ∷ zs) (suc i) y x (inr h) = by (in_changed zs i y x h)
  where
    by : (x ≡ y) ⊎ IsIn x zs → (x ≡ y) ⊎ IsIn x (z ∷ zs)
    by (inl same) = inl same
    by (inr there) = inr (inr there)

pub different_changed : (xs : List KeptRun) (i : ℕ) (r y : KeptRun) → slice_get xs i ≡ Some r → y.job ≡ r.job → AreOfDifferentJobs xs → AreOfDifferentJobs (slice_set xs i y)
different_changed [] i r y at same one = cc
different_changed (z ∷ zs) zero r y at same one =
    let is : z ≡ r = cc in
    (λ s h. λ e. one.0 s h (e ∙ same ∙ sym (ap (λ k. k.job) is)), one.1)
different_changed (z ∷ zs) (suc i) r y at same one = (λ s h. by s (in_changed zs i y s h), different_changed zs i r y at same one.1)
  where
    by : (s : KeptRun) → (s ≡ y) ⊎ IsIn s zs → s.job ≢ z.job
    by s (inl is) = λ e. one.0 r (in_at zs i r at) (sym same ∙ (sym (ap (λ k. k.job) is) ∙ e))
    by s (inr there) = one.0 s there

-- each job still has its run
pub stays_after_change : (xs : List KeptRun) (i : ℕ) (r y s : KeptRun) → slice_get xs i ≡ Some r → y.job ≡ r.job → IsIn s xs → (t : KeptRun) × IsIn t (slice_set xs i y) × (t.job ≡ s.job)
stays_after_change [] i r y s at same h = absurd h
stays_after_change (z ∷ zs) zero r y s at same (inl e) = let is : z ≡ r = cc in (y, inl refl, same ∙ sym (ap (λ k. k.job) (e ∙ is)))
stays_after_change (z ∷ zs) zero r y s at same (inr h) = (s, inr h, refl)
stays_after_change (z ∷ zs) (suc i) r y s at same (inl e) = (s, inl e, refl)
stays_after_change (z ∷ zs) (suc i) r y s at same (inr h) = let t = stays_after_change zs i r y s at same h in (t.0, inr t.1, t.2)

-- ---- one comes last
pub in_appended : {A : Type 0} (xs : List A) (y x : A) → IsIn x (xs ++ y ∷ []) → (x ≡ y) ⊎ IsIn x xs
in_appended [] y x h = h
in_appended (z ∷ zs) y x (inl same) = inr (inl same)
in_appended (z ∷ zs) y x (inr h) = by (in_appended zs y x h)
  where
    by : (x ≡ y) ⊎ IsIn x zs → (x ≡ y) ⊎ IsIn x (z ∷ zs)
    by (inl same) = inl same
    by (inr there) = inr (inr there)
