-- What holds of each member of a list, or of each item of it.
use Rattle.std.proofs.Common.{◌≡◌, zero, suc, inl, inr, List, [], ◌∷◌, Option, Some, None, Bool, true, false, refl, sym, subst, arith, if◌then◌else◌, IfSome}
use Rattle.std.specs.Prelude.{All, Any, Contains, slice_index_or}
use Rattle.std.specs.List.{AllByRecursion}
use Rattle.std.proofs.lemmas.List.Elements.{All-from_recursion, recursion_from_All}
use Rattle.claim_id.specs.declared.numbers.JobId.{JobId}
use Rattle.pool_view.specs.declared.job.Entry.{Entry}
use Rattle.pool_view.specs.declared.job.JobEntry.{JobEntry}
use Rattle.pool_view.specs.AbstractPool.{IsIn}
use Rattle.pool_view.specs.Numbers.{same_job}
use Rattle.pool_view.specs.Views.{entry_at}
use Rattle.pool_view.proofs.Sameness.{same_job-true}

-- ---- members and items
each_by_recursion : {A : Type 0} (P : A → Type 0) (xs : List A) → AllByRecursion P xs → (x : A) → IsIn x xs → P x
each_by_recursion P [] all x there = absurd there
each_by_recursion P (y ∷ ys) all x (inl same) = subst P (sym same) all.0
each_by_recursion P (y ∷ ys) all x (inr there) = each_by_recursion P ys all.1 x there

recursion_by_each : {A : Type 0} (P : A → Type 0) (xs : List A) → ((x : A) → IsIn x xs → P x) → AllByRecursion P xs
recursion_by_each P [] each = tt
recursion_by_each P (y ∷ ys) each = (each y (inl refl), recursion_by_each P ys (λ x there. each x (inr there)))

pub each_of_all : {A : Type 0} (P : A → Type 0) (xs : List A) → All P xs → (x : A) → IsIn x xs → P x
each_of_all P xs all = each_by_recursion P xs (recursion_from_All P xs all)

pub all_of_each : {A : Type 0} (P : A → Type 0) (xs : List A) → ((x : A) → IsIn x xs → P x) → All P xs
all_of_each P xs each = All-from_recursion P xs (recursion_by_each P xs each)

pub in_of_contained : {A : Type 0} (x : A) (xs : List A) → Contains xs x → IsIn x xs
in_of_contained x [] (k, inside, is) = absurd (omega arith)
in_of_contained x (y ∷ ys) (zero, inside, is) = inl (sym is)
in_of_contained x (y ∷ ys) (suc k, inside, is) = inr (in_of_contained x ys (k, omega arith, is))

pub contained_of_in : {A : Type 0} (x : A) (xs : List A) → IsIn x xs → Contains xs x
contained_of_in x [] there = absurd there
contained_of_in x (y ∷ ys) (inl same) = (zero, omega arith, sym same)
contained_of_in x (y ∷ ys) (inr there) = let rest = contained_of_in x ys there in (suc rest.0, omega (arith, rest.1), rest.2)

pub in_of_any : {A : Type 0} (x : A) (xs : List A) → Any (λ y. y ≡ x) xs → IsIn x xs
in_of_any x xs (k, y, inside, is, same) = in_of_contained x xs (k, inside, subst (λ z. slice_index_or xs k z ≡ z) same is)

pub any_of_in : {A : Type 0} (x : A) (xs : List A) → IsIn x xs → Any (λ y. y ≡ x) xs
any_of_in x xs there = let found = contained_of_in x xs there in (found.0, x, found.1, found.2, refl)

-- ---- jobs and their entries
-- a job that has an entry has one in the list
pub entry_in : (job : JobId) (jobs : List JobEntry) (e : Entry) → entry_at job jobs ≡ Some e → (j : JobEntry) × IsIn j jobs × (j.job ≡ job)
entry_in job [] e is = cc
entry_in job (j ∷ js) e is = by_test (same_job job j.job) refl is (entry_in job js e)
  where
    by_test : (b : Bool) → same_job job j.job ≡ b → (if b then Some j.entry else entry_at job js) ≡ Some e → (entry_at job js ≡ Some e → (x : JobEntry) × IsIn x js × (x.job ≡ job)) → (x : JobEntry) × IsIn x (j ∷ js) × (x.job ≡ job)
    by_test true same now rest = (j, inl refl, sym (same_job-true job j.job same))
    by_test false same now rest = let found = rest now in (found.0, inr found.1, found.2)

-- what holds of the entries of the jobs of the list holds of every job's
pub every_job : (P : JobId → Entry → Type 0) (jobs : List JobEntry) → ((j : JobEntry) → IsIn j jobs → IfSome (entry_at j.job jobs) (P j.job)) → (job : JobId) → IfSome (entry_at job jobs) (P job)
every_job P jobs each job = by_entry (entry_at job jobs) refl
  where
    by_entry : (o : Option Entry) → entry_at job jobs ≡ o → IfSome o (P job)
    by_entry None is = tt
    by_entry (Some e) is =
        let found = entry_in job jobs e is in
        subst (λ o. IfSome o (P job)) is (subst (λ q. IfSome (entry_at q jobs) (P q)) found.2 (each found.0 found.1))
