-- One submit file: what is submitted of it, or why it is refused.
use Rattle.std.proofs.Common.{◌≡◌, ◌∙◌, ◌⊎◌, inl, inr, ℕ, List, [], ◌∷◌, ◌++◌, Bool, true, Option, Some, None, Result, Ok, Err, IfErr, OnOk, sym, subst}
use Rattle.ad_tree.specs.Ad.{Attributes}
use Rattle.pool_outer.specs.Cause.{Rose}
use Rattle.pool_outer.specs.declared.limit.Which.TheVariants as which
use Rattle.submit_file.specs.SubmittedJobs.{AdsResult, SubmittedJobs}
use Rattle.thin_pool.specs.declared.answer.StepError.TheVariants.{Jobs}
use Rattle.thin_pool.specs.declared.event.Event.TheVariants.{Submit}
use Rattle.thin_pool.specs.CourseValue.{CourseValue}
use Rattle.thin_pool.specs.PoolValue.{PoolValue}
use Rattle.thin_pool.specs.Reactions.{next_cluster, pool_after, refusal}
use Rattle.pool_input.specs.declared.fault.Fault.{Fault}
use Rattle.pool_input.specs.declared.fault.Fault.TheVariants as fault
use Rattle.pool_input.specs.Faults.{UnlessOut, IsFileFault}
use Rattle.pool_input.specs.Readings.{IsInCalendar}
use Rattle.pool_input.specs.Submissions.{IsTextOf, AsksFor, IsSubmitRefused, no_room, TakesSubmission, submit_step}

pub asks_with : (here : Option (List ℕ)) (text bytes owner : List ℕ) (cluster next t : ℕ) (asked : AdsResult) → bytes ≡ text → cluster ≡ next → IsTextOf here text → SubmittedJobs bytes (record { cluster = cluster; owner = owner; now = t }) asked → AsksFor here owner next t asked
asks_with here text bytes owner cluster next t asked same number is jobs = record {
  text = bytes;
  text_is = rw same is;
  jobs = subst (λ (n : ℕ). SubmittedJobs bytes (record { cluster = n; owner = owner; now = t }) asked) number jobs;
}

pub takes_of : (allows : ℕ → Type 0) (tells : Bool) (here : Option (List ℕ)) (owner : List ℕ) (old new : CourseValue) (jobs : List Attributes) (t : ℕ) (r : Result (Unit {0}) Fault) → allows t → IsInCalendar t → (tells ≡ true → AsksFor here owner (next_cluster old.pool) t (Ok jobs))
    → OnOk r (refusal old.pool (Submit jobs t) ≡ None) → OnOk r (new.list ≡ old.list ++ submit_step (jobs, t) ∷ []) → OnOk r (new.pool ≡ pool_after old.pool (Submit jobs t)) → OnOk r (new.opening ≡ old.opening)
    → OnOk r (TakesSubmission allows tells here owner old new)
takes_of allows tells here owner old new jobs t (Ok u) may in_range asks accepted list pool opening = record {
  jobs = jobs;
  reading = t;
  allowed = may;
  in_range = in_range;
  accepted = accepted;
  list = list;
  pool = pool;
  opening = opening;
  of_file = asks;
}
takes_of allows tells here owner old new jobs t (Err f) may in_range asks accepted list pool opening = tt

-- what a pool says of jobs that it doesn't take
abbrev pub IsNotTaken : PoolValue → List Attributes → ℕ → Fault → Type 0
IsNotTaken p jobs t f = (f ≡ fault.Memory) ⊎ ((f ≡ fault.Limit which.Jobs) × (refusal p (Submit jobs t) ≡ Some Jobs))

pub refused_of : (allows : ℕ → Type 0) (here : Option (List ℕ)) (owner : List ℕ) (p : PoolValue) (jobs : List Attributes) (t : ℕ) (r : Result (Unit {0}) Fault) → allows t → AsksFor here owner (next_cluster p) t (Ok jobs) → IfErr r (IsNotTaken p jobs t) → IfErr r (UnlessOut (IsSubmitRefused allows here owner p))
refused_of allows here owner p jobs t (Ok u) may asks is = tt
refused_of allows here owner p jobs t (Err f) may asks (inl is) = rw is tt
refused_of allows here owner p jobs t (Err f) may asks (inr is) = rw is.0 (no_room may asks is.1)

pub of_pool : (p : PoolValue) (jobs : List Attributes) (t : ℕ) (r : Result (Unit {0}) Fault) → IfErr r (IsNotTaken p jobs t) → IfErr r IsFileFault
of_pool p jobs t (Ok u) is = tt
of_pool p jobs t (Err f) (inl is) = rw is tt
of_pool p jobs t (Err f) (inr is) = rw is.0 tt

pub no_disk : (p : PoolValue) (jobs : List Attributes) (t before now : ℕ) (r : Result (Unit {0}) Fault) → IfErr r (IsNotTaken p jobs t) → IfErr r (λ f. f ≡ fault.Disk → Rose before now)
no_disk p jobs t before now (Ok u) is = tt
no_disk p jobs t before now (Err f) (inl is) = λ disk. let clash : fault.Memory ≡ fault.Disk = sym is ∙ disk in cc
no_disk p jobs t before now (Err f) (inr is) = λ disk. let clash : fault.Limit which.Jobs ≡ fault.Disk = sym is.0 ∙ disk in cc
