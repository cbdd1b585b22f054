-- Finite maps as lists of pairs: what is found where, after a change.
use Rattle.std.proofs.Common.{◌≡◌, ◌≢◌, ℕ, suc, ◌+◌, ◌<◌, ◌⊎◌, inl, inr, List, [], ◌∷◌, ◌++◌, length, map, filter, Option, Some, None, Bool, true, false, true≢false, not, refl, sym, ◌∙◌, ap, subst, arith, append_assoc, eq-eqb, if◌then◌else◌, cond, IfSome, IsSome}
use Rattle.std.specs.Prelude.{option_map}
use Rattle.std.specs.List.{filter_map, cons_option, count_by}
use Rattle.std.proofs.lemmas.List.Sums.{sum_by-cons}
use Rattle.std.proofs.lemmas.List.{append-nil}
use Rattle.ad_tree.specs.Ad.{Attributes}
use Rattle.claim_id.specs.declared.numbers.JobId.{JobId}
use Rattle.claim_id.specs.declared.numbers.SlotId.{SlotId}
use Rattle.pool_view.specs.declared.run.Run.{Run}
use Rattle.pool_view.specs.declared.run.EndReport.{EndReport}
use Rattle.pool_view.specs.Numbers.{same_job, same_slot, same_run}
use Rattle.pool_view.specs.AbstractPool.{IsIn, SameMembers}
use Rattle.pool_view.proofs.Sameness.{same_job-true, same_job-same, same_slot-true, same_slot-same}
use Rattle.thin_pool.specs.declared.job.Job.{Job}
use Rattle.thin_pool.specs.declared.job.Phase.{Phase}
use Rattle.thin_pool.specs.declared.job.Phase.TheVariants as phase
use Rattle.thin_pool.specs.declared.job.SlotRun.{SlotRun}
use Rattle.thin_pool.specs.PoolValue.{value_at, HasKeysOnce, job_at, run_at, run_no, has_started, is_idle}
use Rattle.thin_pool.specs.Reactions.{with_phase, without_run, numbered_jobs}
use Rattle.thin_pool.specs.View.{run_of, report_of}

-- ---- keys
not_true : (b : Bool) → b ≢ true → b ≡ false
not_true true h = absurd (h refl)
not_true false h = refl

-- a test that tells whether two keys are one
pub record Tells {K : Type 0} (same : K → K → Bool) : Type 0 where
  pub is_one : (a b : K) → same a b ≡ true → a ≡ b
  pub itself : (a : K) → same a a ≡ true

pub jobs_told : Tells same_job
jobs_told = record { is_one = same_job-true; itself = same_job-same }

pub slots_told : Tells same_slot
slots_told = record { is_one = same_slot-true; itself = same_slot-same }

pub others : {K : Type 0} {same : K → K → Bool} → Tells same → (a b : K) → a ≢ b → same a b ≡ false
others {same = same} tells a b other = not_true (same a b) (λ h. other (tells.is_one a b h))

pub no_others : {K : Type 0} {same : K → K → Bool} → Tells same → (a b : K) → same a b ≡ false → a ≢ b
no_others {same = same} tells a b h e = absurd (true≢false (sym (tells.itself a) ∙ ap (same a) e ∙ h))

-- the other way round
pub flipped : {K : Type 0} {same : K → K → Bool} → Tells same → (a b : K) → same a b ≡ false → same b a ≡ false
flipped tells a b h = others tells b a (λ e. no_others tells a b h (sym e))

none_is_not : {A : Type 0} (x : A) → Some x ≡ None → ⊥
none_is_not x h = cc

-- a look-up that finds nothing
pub none_at : {A : Type 0} (b : Bool) (x : A) (o : Option A) → (if b then Some x else o) ≡ None → (b ≡ false) × (o ≡ None)
none_at true x o h = absurd (none_is_not x h)
none_at false x o h = (refl, h)

pub at_none : {A : Type 0} (b : Bool) (x : A) (o : Option A) → b ≡ false → o ≡ None → (if b then Some x else o) ≡ None
at_none b x o p q = ap (λ c. if c then Some x else o) p ∙ q

module _ {K A : Type 0} (same : K → K → Bool) where
  pub value_at-append-none : (k : K) (xs ys : List (K × A)) → value_at same k xs ≡ None → value_at same k (xs ++ ys) ≡ value_at same k ys
  value_at-append-none k [] ys none = refl
  value_at-append-none k (x ∷ xs) ys none =
      let parts = none_at (same k x.0) x.1 (value_at same k xs) none in
      ap (λ c. if c then Some x.1 else value_at same k (xs ++ ys)) parts.0 ∙ value_at-append-none k xs ys parts.1

  pub value_at-append-some : (k : K) (v : A) (xs ys : List (K × A)) → value_at same k xs ≡ Some v → value_at same k (xs ++ ys) ≡ Some v
  value_at-append-some k v [] ys there = absurd (none_is_not v (sym there))
  value_at-append-some k v (x ∷ xs) ys there = by (same k x.0) (value_at-append-some k v xs ys) there
    where
      by : (b : Bool) → (value_at same k xs ≡ Some v → value_at same k (xs ++ ys) ≡ Some v) → (if b then Some x.1 else value_at same k xs) ≡ Some v → (if b then Some x.1 else value_at same k (xs ++ ys)) ≡ Some v
      by true rest there = there
      by false rest there = rest there

  -- what is found in two lists is found in one of them
  pub value_at-append : (k : K) (xs ys : List (K × A)) → (value_at same k (xs ++ ys) ≡ value_at same k xs) ⊎ ((value_at same k xs ≡ None) × (value_at same k (xs ++ ys) ≡ value_at same k ys))
  value_at-append k xs ys = by (value_at same k xs) refl
    where
      by : (o : Option A) → value_at same k xs ≡ o → (value_at same k (xs ++ ys) ≡ value_at same k xs) ⊎ ((value_at same k xs ≡ None) × (value_at same k (xs ++ ys) ≡ value_at same k ys))
      by None is = inr (is, value_at-append-none k xs ys is)
      by (Some v) is = inl (value_at-append-some k v xs ys is ∙ sym is)

module _ {K A : Type 0} {same : K → K → Bool} (tells : Tells same) where
  -- a new key at the end
  pub value_at-new : (k : K) (v : A) (xs : List (K × A)) → value_at same k xs ≡ None → value_at same k (xs ++ (k, v) ∷ []) ≡ Some v
  value_at-new k v xs none = value_at-append-none same k xs ((k, v) ∷ []) none ∙ ap (λ c. if c then Some v else None) (tells.itself k)

  pub value_at-old : (q k : K) (v : A) (xs : List (K × A)) → q ≢ k → value_at same q (xs ++ (k, v) ∷ []) ≡ value_at same q xs
  value_at-old q k v xs other = by (value_at-append same q xs ((k, v) ∷ []))
    where
      by : (value_at same q (xs ++ (k, v) ∷ []) ≡ value_at same q xs) ⊎ ((value_at same q xs ≡ None) × (value_at same q (xs ++ (k, v) ∷ []) ≡ value_at same q ((k, v) ∷ []))) → value_at same q (xs ++ (k, v) ∷ []) ≡ value_at same q xs
      by (inl e) = e
      by (inr h) = h.1 ∙ at_none (same q k) v None (others tells q k other) refl ∙ sym h.0

  pub once_new : (k : K) (v : A) (xs : List (K × A)) → HasKeysOnce same xs → value_at same k xs ≡ None → HasKeysOnce same (xs ++ (k, v) ∷ [])
  once_new k v [] once none = (refl, tt)
  once_new k v (x ∷ xs) once none =
      let parts = none_at (same k x.0) x.1 (value_at same k xs) none in
      let other : x.0 ≢ k = λ e. no_others tells k x.0 parts.0 (sym e) in
      (value_at-old x.0 k v xs other ∙ once.0, once_new k v xs once.1 parts.1)

-- ---- a job in another phase
abbrev pub in_phase : Phase → Job → Job
in_phase ph j = record j { phase = ph }

pub job_at-own : (job : JobId) (ph : Phase) (jobs : List (JobId × Job)) → job_at job (with_phase job ph jobs) ≡ option_map (in_phase ph) (job_at job jobs)
job_at-own job ph [] = refl
job_at-own job ph (e ∷ es) = by (same_job job e.0) refl (job_at-own job ph es)
  where
    by : (b : Bool) → same_job job e.0 ≡ b → job_at job (with_phase job ph es) ≡ option_map (in_phase ph) (job_at job es)
        → job_at job (if b then (e.0, in_phase ph e.1) ∷ es else e ∷ with_phase job ph es) ≡ option_map (in_phase ph) (if b then Some e.1 else job_at job es)
    by true is rest = ap (λ c. if c then Some (in_phase ph e.1) else job_at job es) is
    by false is rest = ap (λ c. if c then Some e.1 else job_at job (with_phase job ph es)) is ∙ rest

pub job_at-other : (q job : JobId) (ph : Phase) (jobs : List (JobId × Job)) → q ≢ job → job_at q (with_phase job ph jobs) ≡ job_at q jobs
job_at-other q job ph [] other = refl
job_at-other q job ph (e ∷ es) other = by (same_job job e.0) refl (job_at-other q job ph es other)
  where
    by : (b : Bool) → same_job job e.0 ≡ b → job_at q (with_phase job ph es) ≡ job_at q es
        → job_at q (if b then (e.0, in_phase ph e.1) ∷ es else e ∷ with_phase job ph es) ≡ job_at q (e ∷ es)
    by true is rest =
        let its : same_job q e.0 ≡ false = ap (same_job q) (sym (same_job-true job e.0 is)) ∙ others jobs_told q job other in
        rw its refl
    by false is rest = ap (λ o. if same_job q e.0 then Some e.1 else o) rest

pub job_at-none : (q job : JobId) (ph : Phase) (jobs : List (JobId × Job)) → job_at q jobs ≡ None → job_at q (with_phase job ph jobs) ≡ None
job_at-none q job ph [] none = refl
job_at-none q job ph (e ∷ es) none = by (same_job job e.0) (job_at-none q job ph es)
  where
    parts : (same_job q e.0 ≡ false) × (job_at q es ≡ None)
    parts = none_at (same_job q e.0) e.1 (job_at q es) none

    by : (b : Bool) → (job_at q es ≡ None → job_at q (with_phase job ph es) ≡ None) → job_at q (if b then (e.0, in_phase ph e.1) ∷ es else e ∷ with_phase job ph es) ≡ None
    by true rest = at_none (same_job q e.0) (in_phase ph e.1) (job_at q es) parts.0 parts.1
    by false rest = at_none (same_job q e.0) e.1 (job_at q (with_phase job ph es)) parts.0 (rest parts.1)

pub once_with_phase : (job : JobId) (ph : Phase) (jobs : List (JobId × Job)) → HasKeysOnce same_job jobs → HasKeysOnce same_job (with_phase job ph jobs)
once_with_phase job ph [] once = tt
once_with_phase job ph (e ∷ es) once = by (same_job job e.0) (once_with_phase job ph es once.1)
  where
    by : (b : Bool) → HasKeysOnce same_job (with_phase job ph es) → HasKeysOnce same_job (if b then (e.0, in_phase ph e.1) ∷ es else e ∷ with_phase job ph es)
    by true rest = once
    by false rest = (job_at-none e.0 job ph es once.0, rest)

-- a change that a phase doesn't show
pub map-with_phase : {B : Type 0} (f : JobId × Job → B) (job : JobId) (ph : Phase) (jobs : List (JobId × Job)) → ((e : JobId × Job) → f (e.0, in_phase ph e.1) ≡ f e) → map f (with_phase job ph jobs) ≡ map f jobs
map-with_phase f job ph [] same = refl
map-with_phase f job ph (e ∷ es) same = by (same_job job e.0) (map-with_phase f job ph es same)
  where
    by : (b : Bool) → map f (with_phase job ph es) ≡ map f es → map f (if b then (e.0, in_phase ph e.1) ∷ es else e ∷ with_phase job ph es) ≡ f e ∷ map f es
    by true rest = ap (λ x. x ∷ map f es) (same e)
    by false rest = ap (λ l. f e ∷ l) rest

pub length-with_phase : (job : JobId) (ph : Phase) (jobs : List (JobId × Job)) → length (with_phase job ph jobs) ≡ length jobs
length-with_phase job ph [] = refl
length-with_phase job ph (e ∷ es) = by (same_job job e.0) (length-with_phase job ph es)
  where
    by : (b : Bool) → length (with_phase job ph es) ≡ length es → length (if b then (e.0, in_phase ph e.1) ∷ es else e ∷ with_phase job ph es) ≡ suc (length es)
    by true rest = refl
    by false rest = ap (λ n. suc n) rest

pub count-cons : {X : Type 0} (p : X → Bool) (x : X) (xs : List X) → count_by p (x ∷ xs) ≡ (cond (p x) 1 0) + count_by p xs
count-cons p x xs = sum_by-cons (λ y. cond (p y) 1 0) x xs

abbrev pub weight : Bool → ℕ
weight b = cond b 1 0

-- how many have started, once the job is in another phase
pub count-with_phase : (job : JobId) (ph : Phase) (j : Job) (jobs : List (JobId × Job)) → job_at job jobs ≡ Some j
    → count_by has_started (with_phase job ph jobs) + weight (not (is_idle j.phase)) ≡ count_by has_started jobs + weight (not (is_idle ph))
count-with_phase job ph j [] there = absurd (none_is_not j (sym there))
count-with_phase job ph j (e ∷ es) there = by (same_job job e.0) (count-with_phase job ph j es) there
  where
    new : ℕ
    new = count_by has_started (with_phase job ph es)

    old : ℕ
    old = count_by has_started es

    own : ℕ
    own = weight (not (is_idle e.1.phase))

    by : (b : Bool) → (job_at job es ≡ Some j → count_by has_started (with_phase job ph es) + weight (not (is_idle j.phase)) ≡ count_by has_started es + weight (not (is_idle ph)))
        → (if b then Some e.1 else job_at job es) ≡ Some j
        → count_by has_started (if b then (e.0, in_phase ph e.1) ∷ es else e ∷ with_phase job ph es) + weight (not (is_idle j.phase)) ≡ count_by has_started (e ∷ es) + weight (not (is_idle ph))
    by true rest there =
        let same : e.1 ≡ j = cc in
        let its : weight (not (is_idle e.1.phase)) ≡ weight (not (is_idle j.phase)) = ap (λ k. weight (not (is_idle k.phase))) same in
        omega (arith, count-cons has_started (e.0, in_phase ph e.1) es, count-cons has_started e es, its)
    by false rest there = omega (arith, count-cons has_started e (with_phase job ph es), count-cons has_started e es, rest there)

-- ---- new jobs
pub length-numbered : (cluster proc : ℕ) (ads : List Attributes) → length (numbered_jobs cluster proc ads) ≡ length ads
length-numbered cluster proc [] = refl
length-numbered cluster proc (ad ∷ ads) = ap (λ n. suc n) (length-numbered cluster (proc + 1) ads)

pub count-numbered : (cluster proc : ℕ) (ads : List Attributes) → count_by has_started (numbered_jobs cluster proc ads) ≡ 0
count-numbered cluster proc [] = refl
count-numbered cluster proc (ad ∷ ads) = count-numbered cluster (proc + 1) ads

-- each is of that cluster
pub cluster-numbered : (id : JobId) (cluster proc : ℕ) (ads : List Attributes) → IsSome (job_at id (numbered_jobs cluster proc ads)) → id.cluster ≡ cluster
cluster-numbered id cluster proc [] there = absurd (true≢false (sym there))
cluster-numbered id cluster proc (ad ∷ ads) there = by (same_job id (record { cluster = cluster; proc = proc })) refl (cluster-numbered id cluster (proc + 1) ads) there
  where
    first : JobId
    first = record { cluster = cluster; proc = proc }

    by : (b : Bool) → same_job id first ≡ b → (IsSome (job_at id (numbered_jobs cluster (proc + 1) ads)) → id.cluster ≡ cluster)
        → IsSome (if b then Some (record { ad = ad; phase = phase.Idle }) else job_at id (numbered_jobs cluster (proc + 1) ads)) → id.cluster ≡ cluster
    by true is rest there = ap (λ k. k.cluster) (same_job-true id first is)
    by false is rest there = rest there

-- each waits
pub idle-numbered : (id : JobId) (cluster proc : ℕ) (ads : List Attributes) → IfSome (job_at id (numbered_jobs cluster proc ads)) (λ j. j.phase ≡ phase.Idle)
idle-numbered id cluster proc [] = tt
idle-numbered id cluster proc (ad ∷ ads) = by (same_job id (record { cluster = cluster; proc = proc })) (idle-numbered id cluster (proc + 1) ads)
  where
    by : (b : Bool) → IfSome (job_at id (numbered_jobs cluster (proc + 1) ads)) (λ j. j.phase ≡ phase.Idle)
        → IfSome (if b then Some (record { ad = ad; phase = phase.Idle }) else job_at id (numbered_jobs cluster (proc + 1) ads)) (λ j. j.phase ≡ phase.Idle)
    by true rest = refl
    by false rest = rest

-- every number of the table is of an earlier cluster, or an earlier one of this cluster
abbrev pub AreBefore : ℕ → ℕ → List (JobId × Job) → Type 0
AreBefore cluster proc jobs = (id : JobId) → IsSome (job_at id jobs) → (id.cluster < cluster) ⊎ ((id.cluster ≡ cluster) × (id.proc < proc))

pub free_before : (cluster proc : ℕ) (jobs : List (JobId × Job)) → AreBefore cluster proc jobs → job_at (record { cluster = cluster; proc = proc }) jobs ≡ None
free_before cluster proc jobs before = by (job_at (record { cluster = cluster; proc = proc }) jobs) (before (record { cluster = cluster; proc = proc }))
  where
    by : (o : Option Job) → (IsSome o → (cluster < cluster) ⊎ ((cluster ≡ cluster) × (proc < proc))) → o ≡ None
    by None h = refl
    by (Some j) h = by_cause (h refl)
      where
        by_cause : (cluster < cluster) ⊎ ((cluster ≡ cluster) × (proc < proc)) → Some j ≡ None
        by_cause (inl less) = absurd (omega arith)
        by_cause (inr less) = absurd (omega (arith, less.1))

pub before_next : (cluster proc : ℕ) (j : Job) (jobs : List (JobId × Job)) → AreBefore cluster proc jobs → AreBefore cluster (proc + 1) (jobs ++ (record { cluster = cluster; proc = proc }, j) ∷ [])
before_next cluster proc j jobs before id there = by (same_job id new) refl
  where
    new : JobId
    new = record { cluster = cluster; proc = proc }

    wider : (id.cluster < cluster) ⊎ ((id.cluster ≡ cluster) × (id.proc < proc)) → (id.cluster < cluster) ⊎ ((id.cluster ≡ cluster) × (id.proc < proc + 1))
    wider (inl less) = inl less
    wider (inr less) = inr (less.0, omega (arith, less.1))

    by : (b : Bool) → same_job id new ≡ b → (id.cluster < cluster) ⊎ ((id.cluster ≡ cluster) × (id.proc < proc + 1))
    by true is =
        let same = same_job-true id new is in
        let its : id.proc ≡ proc = ap (λ k. k.proc) same in
        inr (ap (λ k. k.cluster) same, omega (arith, its))
    by false is = wider (before id (subst IsSome (value_at-old jobs_told id new j jobs (no_others jobs_told id new is)) there))

pub once_numbered : (cluster proc : ℕ) (ads : List Attributes) (jobs : List (JobId × Job)) → HasKeysOnce same_job jobs → AreBefore cluster proc jobs → HasKeysOnce same_job (jobs ++ numbered_jobs cluster proc ads)
once_numbered cluster proc [] jobs once before = subst (HasKeysOnce same_job) (sym (append-nil jobs)) once
once_numbered cluster proc (ad ∷ ads) jobs once before =
    let new : JobId = record { cluster = cluster; proc = proc } in
    let j : Job = record { ad = ad; phase = phase.Idle } in
    subst (HasKeysOnce same_job) (append_assoc jobs ((new, j) ∷ []) (numbered_jobs cluster (proc + 1) ads))
    (once_numbered cluster (proc + 1) ads (jobs ++ (new, j) ∷ []) (once_new jobs_told new j jobs once (free_before cluster proc jobs before)) (before_next cluster proc j jobs before))

-- ---- runs
pub run_at-without-other : (q slot : SlotId) (runs : List (SlotId × SlotRun)) → q ≢ slot → run_at q (without_run slot runs) ≡ run_at q runs
run_at-without-other q slot [] other = refl
run_at-without-other q slot (r ∷ rs) other = by (same_slot slot r.0) refl (run_at-without-other q slot rs other)
  where
    by : (b : Bool) → same_slot slot r.0 ≡ b → run_at q (without_run slot rs) ≡ run_at q rs → run_at q (if b then rs else r ∷ without_run slot rs) ≡ run_at q (r ∷ rs)
    by true is rest =
        let its : same_slot q r.0 ≡ false = ap (same_slot q) (sym (same_slot-true slot r.0 is)) ∙ others slots_told q slot other in
        rw its refl
    by false is rest = ap (λ o. if same_slot q r.0 then Some r.1 else o) rest

pub run_at-without-none : (q slot : SlotId) (runs : List (SlotId × SlotRun)) → run_at q runs ≡ None → run_at q (without_run slot runs) ≡ None
run_at-without-none q slot [] none = refl
run_at-without-none q slot (r ∷ rs) none = by (same_slot slot r.0) (run_at-without-none q slot rs)
  where
    parts : (same_slot q r.0 ≡ false) × (run_at q rs ≡ None)
    parts = none_at (same_slot q r.0) r.1 (run_at q rs) none

    by : (b : Bool) → (run_at q rs ≡ None → run_at q (without_run slot rs) ≡ None) → run_at q (if b then rs else r ∷ without_run slot rs) ≡ None
    by true rest = parts.1
    by false rest = at_none (same_slot q r.0) r.1 (run_at q (without_run slot rs)) parts.0 (rest parts.1)

-- the slot has no run any more
pub run_at-without-own : (slot : SlotId) (runs : List (SlotId × SlotRun)) → HasKeysOnce same_slot runs → run_at slot (without_run slot runs) ≡ None
run_at-without-own slot [] once = refl
run_at-without-own slot (r ∷ rs) once = by (same_slot slot r.0) refl (run_at-without-own slot rs once.1)
  where
    by : (b : Bool) → same_slot slot r.0 ≡ b → run_at slot (without_run slot rs) ≡ None → run_at slot (if b then rs else r ∷ without_run slot rs) ≡ None
    by true is rest = ap (λ q. run_at q rs) (same_slot-true slot r.0 is) ∙ once.0
    by false is rest = at_none (same_slot slot r.0) r.1 (run_at slot (without_run slot rs)) is rest

pub once_without : (slot : SlotId) (runs : List (SlotId × SlotRun)) → HasKeysOnce same_slot runs → HasKeysOnce same_slot (without_run slot runs)
once_without slot [] once = tt
once_without slot (r ∷ rs) once = by (same_slot slot r.0) (once_without slot rs once.1)
  where
    by : (b : Bool) → HasKeysOnce same_slot (without_run slot rs) → HasKeysOnce same_slot (if b then rs else r ∷ without_run slot rs)
    by true rest = once.1
    by false rest = (run_at-without-none r.0 slot rs once.0, rest)

pub length-without : (slot : SlotId) (r : SlotRun) (runs : List (SlotId × SlotRun)) → run_at slot runs ≡ Some r → suc (length (without_run slot runs)) ≡ length runs
length-without slot r [] there = absurd (none_is_not r (sym there))
length-without slot r (s ∷ ss) there = by (same_slot slot s.0) (length-without slot r ss) there
  where
    by : (b : Bool) → (run_at slot ss ≡ Some r → suc (length (without_run slot ss)) ≡ length ss) → (if b then Some s.1 else run_at slot ss) ≡ Some r → suc (length (if b then ss else s ∷ without_run slot ss)) ≡ suc (length ss)
    by true rest there = refl
    by false rest there = ap (λ n. suc n) (rest there)

-- ---- the abstract runs
pub in_runs : (s : Run) (runs : List (SlotId × SlotRun)) → HasKeysOnce same_slot runs → IsIn s (map run_of runs) → (r : SlotRun) × (run_at s.slot runs ≡ Some r) × (s ≡ run_of (s.slot, r))
in_runs s [] once there = absurd there
in_runs s (x ∷ xs) once (inl e) =
    let slot : s.slot ≡ x.0 = ap (λ y. y.slot) e in
    (x.1, ap (λ q. run_at q (x ∷ xs)) slot ∙ ap (λ c. if c then Some x.1 else run_at x.0 xs) (same_slot-same x.0), e ∙ ap (λ q. run_of (q, x.1)) (sym slot))
in_runs s (x ∷ xs) once (inr there) =
    let found = in_runs s xs once.1 there in
    (found.0, by (same_slot s.slot x.0) refl found.0 found.1, found.2)
  where
    by : (b : Bool) → same_slot s.slot x.0 ≡ b → (r : SlotRun) → run_at s.slot xs ≡ Some r → (if b then Some x.1 else run_at s.slot xs) ≡ Some r
    by true is r at = absurd (none_is_not r (sym at ∙ ap (λ q. run_at q xs) (same_slot-true s.slot x.0 is) ∙ once.0))
    by false is r at = at

pub run_in_runs : (slot : SlotId) (r : SlotRun) (runs : List (SlotId × SlotRun)) → run_at slot runs ≡ Some r → IsIn (run_of (slot, r)) (map run_of runs)
run_in_runs slot r [] there = absurd (none_is_not r (sym there))
run_in_runs slot r (x ∷ xs) there = by (same_slot slot x.0) refl (run_in_runs slot r xs) there
  where
    by : (b : Bool) → same_slot slot x.0 ≡ b → (run_at slot xs ≡ Some r → IsIn (run_of (slot, r)) (map run_of xs)) → (if b then Some x.1 else run_at slot xs) ≡ Some r → IsIn (run_of (slot, r)) (run_of x ∷ map run_of xs)
    by true is rest there =
        let its : x.1 ≡ r = cc in
        inl (ap (λ q. run_of (q, r)) (same_slot-true slot x.0 is) ∙ ap (λ y. run_of (x.0, y)) (sym its))
    by false is rest there = inr (rest there)

-- what is in a list with one more at its end
pub in_snoc : {A : Type 0} (x : A) (xs : List A) → SameMembers (x ∷ xs) (xs ++ x ∷ [])
in_snoc x [] y = (λ h. h, λ h. h)
in_snoc x (z ∷ zs) y = (there (in_snoc x zs y).0, back (in_snoc x zs y).1)
  where
    there : (IsIn y (x ∷ zs) → IsIn y (zs ++ x ∷ [])) → IsIn y (x ∷ z ∷ zs) → IsIn y (z ∷ (zs ++ x ∷ []))
    there rest (inl e) = inr (rest (inl e))
    there rest (inr (inl e)) = inl e
    there rest (inr (inr h)) = inr (rest (inr h))

    by : IsIn y (x ∷ zs) → IsIn y (x ∷ z ∷ zs)
    by (inl e) = inl e
    by (inr h) = inr (inr h)

    back : (IsIn y (zs ++ x ∷ []) → IsIn y (x ∷ zs)) → IsIn y (z ∷ (zs ++ x ∷ [])) → IsIn y (x ∷ z ∷ zs)
    back rest (inl e) = inr (inl e)
    back rest (inr h) = by (rest h)

abbrev is_other : SlotId → ℕ → Run → Bool
is_other slot number s = not (same_run s.run (run_no slot number))

-- the runs of other slots stay
other_runs : (slot : SlotId) (number : ℕ) (runs : List (SlotId × SlotRun)) → run_at slot runs ≡ None → filter (is_other slot number) (map run_of runs) ≡ map run_of runs
other_runs slot number [] none = refl
other_runs slot number (x ∷ xs) none =
    let parts = none_at (same_slot slot x.0) x.1 (run_at slot xs) none in
    let its : is_other slot number (run_of x) ≡ true = rw (flipped slots_told slot x.0 parts.0) refl in
    ap (λ b. if b then run_of x ∷ filter (is_other slot number) (map run_of xs) else filter (is_other slot number) (map run_of xs)) its
    ∙ ap (λ l. run_of x ∷ l) (other_runs slot number xs parts.1)

-- without the run of a slot
pub stopped_runs : (slot : SlotId) (r : SlotRun) (runs : List (SlotId × SlotRun)) → HasKeysOnce same_slot runs → run_at slot runs ≡ Some r
    → filter (λ s. not (same_run s.run (run_of (slot, r)).run)) (map run_of runs) ≡ map run_of (without_run slot runs)
stopped_runs slot r [] once there = absurd (none_is_not r (sym there))
stopped_runs slot r (x ∷ xs) once there = by (same_slot slot x.0) refl (stopped_runs slot r xs once.1) there
  where
    rest_of : List Run
    rest_of = filter (is_other slot r.number) (map run_of xs)

    by : (b : Bool) → same_slot slot x.0 ≡ b → (run_at slot xs ≡ Some r → filter (is_other slot r.number) (map run_of xs) ≡ map run_of (without_run slot xs))
        → (if b then Some x.1 else run_at slot xs) ≡ Some r
        → (if is_other slot r.number (run_of x) then run_of x ∷ filter (is_other slot r.number) (map run_of xs) else filter (is_other slot r.number) (map run_of xs)) ≡ map run_of (if b then xs else x ∷ without_run slot xs)
    by true is rest there =
        let own : x.1 ≡ r = cc in
        let same = same_slot-true slot x.0 is in
        let its : is_other slot r.number (run_of x) ≡ false = rw (ap (λ q. same_slot x.0 q) same ∙ same_slot-same x.0, eq-eqb x.1.number r.number (ap (λ y. y.number) own)) refl in
        ap (λ b. if b then run_of x ∷ rest_of else rest_of) its ∙ other_runs slot r.number xs (ap (λ q. run_at q xs) same ∙ once.0)
    by false is rest there =
        let its : is_other slot r.number (run_of x) ≡ true = rw (flipped slots_told slot x.0 is) refl in
        ap (λ b. if b then run_of x ∷ rest_of else rest_of) its ∙ ap (λ l. run_of x ∷ l) (rest there)

-- ---- what was said
abbrev pub said_in : JobId × Job → Option EndReport
said_in e = report_of e.0 e.1.phase

-- a phase that says nothing
abbrev pub IsSilent : Phase → Type 0
IsSilent ph = (q : JobId) → report_of q ph ≡ None

pub said_unchanged : (job : JobId) (ph : Phase) (j : Job) (jobs : List (JobId × Job)) → job_at job jobs ≡ Some j → IsSilent j.phase → IsSilent ph → filter_map said_in (with_phase job ph jobs) ≡ filter_map said_in jobs
said_unchanged job ph j [] there before after = refl
said_unchanged job ph j (e ∷ es) there before after = by (same_job job e.0) (said_unchanged job ph j es) there
  where
    by : (b : Bool) → (job_at job es ≡ Some j → IsSilent j.phase → IsSilent ph → filter_map said_in (with_phase job ph es) ≡ filter_map said_in es)
        → (if b then Some e.1 else job_at job es) ≡ Some j
        → filter_map said_in (if b then (e.0, in_phase ph e.1) ∷ es else e ∷ with_phase job ph es) ≡ filter_map said_in (e ∷ es)
    by true rest there =
        let own : e.1 ≡ j = cc in
        ap (λ o. cons_option o (filter_map said_in es)) (after e.0 ∙ sym (ap (λ k. report_of e.0 k.phase) own ∙ before e.0))
    by false rest there = ap (cons_option (said_in e)) (rest there before after)

swapped : {A : Type 0} (s x : A) (xs ys : List A) → SameMembers (s ∷ xs) ys → SameMembers (s ∷ x ∷ xs) (x ∷ ys)
swapped s x xs ys same y = (there (same y).0, back (same y).1)
  where
    there : (IsIn y (s ∷ xs) → IsIn y ys) → IsIn y (s ∷ x ∷ xs) → IsIn y (x ∷ ys)
    there rest (inl e) = inr (rest (inl e))
    there rest (inr (inl e)) = inl e
    there rest (inr (inr h)) = inr (rest (inr h))

    by : IsIn y (s ∷ xs) → IsIn y (s ∷ x ∷ xs)
    by (inl e) = inl e
    by (inr h) = inr (inr h)

    back : (IsIn y ys → IsIn y (s ∷ xs)) → IsIn y (x ∷ ys) → IsIn y (s ∷ x ∷ xs)
    back rest (inl e) = inr (inl e)
    back rest (inr h) = by (rest h)

pub same_members : {A : Type 0} (xs : List A) → SameMembers xs xs
same_members xs x = (λ h. h, λ h. h)

pub said_more : (job : JobId) (ph : Phase) (j : Job) (s : EndReport) (jobs : List (JobId × Job)) → job_at job jobs ≡ Some j → IsSilent j.phase → report_of job ph ≡ Some s
    → SameMembers (s ∷ filter_map said_in jobs) (filter_map said_in (with_phase job ph jobs))
said_more job ph j s [] there before says = absurd (none_is_not j (sym there))
said_more job ph j s (e ∷ es) there before says = by (same_job job e.0) refl (said_more job ph j s es) there
  where
    by_option : (o : Option EndReport) → SameMembers (s ∷ filter_map said_in es) (filter_map said_in (with_phase job ph es)) → SameMembers (s ∷ cons_option o (filter_map said_in es)) (cons_option o (filter_map said_in (with_phase job ph es)))
    by_option None same = same
    by_option (Some x) same = swapped s x (filter_map said_in es) (filter_map said_in (with_phase job ph es)) same

    by : (b : Bool) → same_job job e.0 ≡ b
        → (job_at job es ≡ Some j → IsSilent j.phase → report_of job ph ≡ Some s → SameMembers (s ∷ filter_map said_in es) (filter_map said_in (with_phase job ph es)))
        → (if b then Some e.1 else job_at job es) ≡ Some j
        → SameMembers (s ∷ filter_map said_in (e ∷ es)) (filter_map said_in (if b then (e.0, in_phase ph e.1) ∷ es else e ∷ with_phase job ph es))
    by true is rest there =
        let own : e.1 ≡ j = cc in
        let old : said_in e ≡ None = ap (λ k. report_of e.0 k.phase) own ∙ before e.0 in
        let new : report_of e.0 ph ≡ Some s = ap (λ q. report_of q ph) (sym (same_job-true job e.0 is)) ∙ says in
        let same : s ∷ filter_map said_in (e ∷ es) ≡ filter_map said_in ((e.0, in_phase ph e.1) ∷ es) = ap (λ o. s ∷ cons_option o (filter_map said_in es)) old ∙ sym (ap (λ o. cons_option o (filter_map said_in es)) new) in
        subst (SameMembers (s ∷ filter_map said_in (e ∷ es))) same (same_members (s ∷ filter_map said_in (e ∷ es)))
    by false is rest there = by_option (said_in e) (rest there before says)
