-- A pool in which nothing runs: what it accepts, and what becomes of it.
use Rattle.std.proofs.Common.{◌≡◌, ◌∙◌, ℕ, zero, suc, ◌+◌, ◌<◌, ◌≤◌, Bool, true, false, not, ◌||◌, Option, Some, None, IsSome, is_some, List, [], ◌∷◌, length, slice_get, refl, sym, ap, arith, eq-eqb, if◌then◌else◌}
use Rattle.std.specs.Prelude.{option_map}
use Rattle.std.specs.List.{cons_option}
use Rattle.ad_tree.specs.Ad.{Attributes}
use Rattle.ad_eval.specs.Judgement.{Judgement, Mismatch}
use Rattle.ad_eval.specs.declared.mismatch.FoundMatch.{FoundMatch}
use Rattle.ad_eval.specs.FirstMatch.{IsFirstMatch}
use Rattle.claim_id.specs.declared.numbers.RunNo.{RunNo}
use Rattle.claim_id.specs.declared.numbers.JobId.{JobId}
use Rattle.claim_id.specs.declared.numbers.SlotId.{SlotId}
use Rattle.pool_mail.specs.declared.end.End.{End}
use Rattle.pool_mail.specs.declared.end.End.TheVariants.{Exited, Signalled, NotStarted}
use Rattle.pool_view.specs.Numbers.{same_job, same_slot}
use Rattle.pool_view.proofs.Sameness.{same_job-true, same_job-same, same_slot-true, same_slot-same}
use Rattle.thin_pool.specs.declared.answer.StepError.{StepError}
use Rattle.thin_pool.specs.declared.answer.StepError.TheVariants.{Occupied, AdMoved}
use Rattle.thin_pool.specs.declared.event.Event.TheVariants.{Start, Ended, Close}
use Rattle.thin_pool.specs.declared.job.Job.{Job}
use Rattle.thin_pool.specs.declared.job.Phase.{Phase}
use Rattle.thin_pool.specs.declared.job.Phase.TheVariants.{Running}
use Rattle.thin_pool.specs.declared.slot.PoolSlot.{PoolSlot}
use Rattle.thin_pool.specs.Jobs.{idle_at, idle_jobs}
use Rattle.thin_pool.specs.Pairs.{IsFirstFit}
use Rattle.thin_pool.specs.PoolValue.{PoolValue, HasKeysOnce, AreNumberedOnce, job_at, slot_at, run_at, is_idle, run_no}
use Rattle.thin_pool.specs.Reactions.{refusal, pool_after, is_idle_job, is_judged, idle_ads, slot_ads, run_of_job, phase_after, with_phase}
use Rattle.thin_pool.specs.Resting.{IsResting, idle_count}
use Rattle.thin_pool.proofs.Same.{same_ad-same, same_ads-same}
use Rattle.thin_pool.proofs.Tables.{job_at-own, in_phase}

-- ---- which job and which slot stand at a place

some_same : {A : Type 0} (x y : A) → Some x ≡ Some y → x ≡ y
some_same x y e = cc

none_is_some : {A B : Type 0} (x : A) → None ≡ Some x → B
none_is_some x e = cc

-- what stands among the ads of the idle jobs stands among these jobs
pub ads_of_jobs : (jobs : List (JobId × Job)) (k : ℕ) → slice_get (idle_ads jobs) k ≡ option_map (λ e. e.1) (slice_get (idle_jobs jobs) k)
ads_of_jobs [] k = refl
ads_of_jobs (e ∷ es) k = by (is_idle e.1.phase) k (ads_of_jobs es)
  where
    by : (t : Bool) (n : ℕ) → ((m : ℕ) → slice_get (idle_ads es) m ≡ option_map (λ (x : JobId × Attributes). x.1) (slice_get (idle_jobs es) m))
        → slice_get (cons_option (if t then Some e.1.ad else None) (idle_ads es)) n ≡ option_map (λ (x : JobId × Attributes). x.1) (slice_get (cons_option (if t then Some (e.0, e.1.ad) else None) (idle_jobs es)) n)
    by true zero rest = refl
    by true (suc n) rest = rest n
    by false n rest = rest n

-- the job of that number is idle, and has that ad
pub record StandsIdle (jobs : List (JobId × Job)) (id : JobId) (ad : Attributes) : Type 0 where
  pub job : Job
  pub there : job_at id jobs ≡ Some job
  pub idle : is_idle job.phase ≡ true
  pub ad_is : job.ad ≡ ad

first_stands : (e : JobId × Job) (es : List (JobId × Job)) (id : JobId) (ad : Attributes) → is_idle e.1.phase ≡ true → ◌≡◌ {A = JobId × Attributes} (e.0, e.1.ad) (id, ad) → StandsIdle (e ∷ es) id ad
first_stands e es id ad idle same = record {
  job = e.1;
  there = ap (λ c. if c then Some e.1 else job_at id es) (ap (λ k. same_job k e.0) (sym (ap (λ (x : JobId × Attributes). x.0) same)) ∙ same_job-same e.0);
  idle = idle;
  ad_is = ap (λ (x : JobId × Attributes). x.1) same;
}

later_stands : (e : JobId × Job) (es : List (JobId × Job)) (id : JobId) (ad : Attributes) → job_at e.0 es ≡ None → StandsIdle es id ad → StandsIdle (e ∷ es) id ad
later_stands e es id ad none is = record { job = is.job; there = by (same_job id e.0) refl; idle = is.idle; ad_is = is.ad_is }
  where
    by : (t : Bool) → same_job id e.0 ≡ t → (if t then Some e.1 else job_at id es) ≡ Some is.job
    by true same = none_is_some is.job (sym none ∙ (ap (λ k. job_at k es) (sym (same_job-true id e.0 same)) ∙ is.there))
    by false same = is.there

pub stands_idle : (jobs : List (JobId × Job)) (k : ℕ) (id : JobId) (ad : Attributes) → HasKeysOnce same_job jobs → slice_get (idle_jobs jobs) k ≡ Some (id, ad) → StandsIdle jobs id ad
stands_idle [] k id ad once is = none_is_some (id, ad) is
stands_idle (e ∷ es) k id ad once is = by (is_idle e.1.phase) refl k (λ n. stands_idle es n id ad once.1) is
  where
    by : (t : Bool) → is_idle e.1.phase ≡ t → (n : ℕ) → ((m : ℕ) → slice_get (idle_jobs es) m ≡ Some (id, ad) → StandsIdle es id ad)
        → slice_get (cons_option (if t then Some (e.0, e.1.ad) else None) (idle_jobs es)) n ≡ Some (id, ad) → StandsIdle (e ∷ es) id ad
    by true idle zero rest at = first_stands e es id ad idle (some_same (e.0, e.1.ad) (id, ad) at)
    by true idle (suc n) rest at = later_stands e es id ad once.0 (rest n at)
    by false idle n rest at = later_stands e es id ad once.0 (rest n at)

pub slot_stands : (slots : List PoolSlot) (k : ℕ) (s : PoolSlot) → AreNumberedOnce slots → slice_get slots k ≡ Some s → slot_at s.slot slots ≡ Some s
slot_stands [] k s once is = none_is_some s is
slot_stands (x ∷ xs) zero s once is =
    let same : x ≡ s = some_same x s is in
    ap (λ c. if c then Some x else slot_at s.slot xs) (ap (λ (y : PoolSlot). same_slot s.slot y.slot) same ∙ same_slot-same s.slot) ∙ is
slot_stands (x ∷ xs) (suc n) s once is = by (same_slot s.slot x.slot) refl (slot_stands xs n s once.1 is)
  where
    by : (t : Bool) → same_slot s.slot x.slot ≡ t → slot_at s.slot xs ≡ Some s → (if t then Some x else slot_at s.slot xs) ≡ Some s
    by true same at = none_is_some s (sym once.0 ∙ (ap (λ k. slot_at k xs) (sym (same_slot-true s.slot x.slot same)) ∙ at))
    by false same at = at

-- what stands among the slots' ads stands among the slots
ads_of_slots : (slots : List PoolSlot) (k : ℕ) → slice_get (slot_ads slots) k ≡ option_map (λ s. s.ad) (slice_get slots k)
ads_of_slots [] k = refl
ads_of_slots (s ∷ ss) zero = refl
ads_of_slots (s ∷ ss) (suc k) = ads_of_slots ss k

-- ---- the first pair that matches

-- the found places are there
pub some_job : (p : PoolValue) (now : ℕ) (found : FoundMatch) → IsFirstMatch (idle_ads p.jobs) (slot_ads p.slots) now found → IsSome (slice_get (idle_jobs p.jobs) found.job)
some_job p now found first = by (slice_get (idle_jobs p.jobs) found.job) (sym (ads_of_jobs p.jobs found.job) ∙ first.job_there)
  where
    by : (o : Option (JobId × Attributes)) → option_map (λ (e : JobId × Attributes). e.1) o ≡ Some found.judged.job → IsSome o
    by None is = none_is_some found.judged.job is
    by (Some e) is = refl

pub some_slot : (p : PoolValue) (now : ℕ) (found : FoundMatch) → IsFirstMatch (idle_ads p.jobs) (slot_ads p.slots) now found → IsSome (slice_get p.slots found.slot)
some_slot p now found first = by (slice_get p.slots found.slot) (sym (ads_of_slots p.slots found.slot) ∙ first.slot_there)
  where
    by : (o : Option PoolSlot) → option_map (λ (s : PoolSlot). s.ad) o ≡ Some found.judged.slot → IsSome o
    by None is = none_is_some found.judged.slot is
    by (Some s) is = refl

pub some_before : {A B : Type 0} (f : A → B) (o : Option A) → IsSome (option_map f o) → IsSome o
some_before f None is = is
some_before f (Some x) is = refl

-- the ads that were judged are those at the found places
pub found_ads : (p : PoolValue) (now : ℕ) (found : FoundMatch) (id : JobId) (ad : Attributes) (s : PoolSlot) → IsFirstMatch (idle_ads p.jobs) (slot_ads p.slots) now found → slice_get (idle_jobs p.jobs) found.job ≡ Some (id, ad) → slice_get p.slots found.slot ≡ Some s → (found.judged.job ≡ ad) × (found.judged.slot ≡ s.ad)
found_ads p now found id ad s first job slot = (
  some_same found.judged.job ad (sym first.job_there ∙ (ads_of_jobs p.jobs found.job ∙ ap (option_map (λ (e : JobId × Attributes). e.1)) job)),
  some_same found.judged.slot s.ad (sym first.slot_there ∙ (ads_of_slots p.slots found.slot ∙ ap (option_map (λ (x : PoolSlot). x.ad)) slot)),
)

abbrev if_idle : Bool → JobId → Attributes → Option (JobId × Attributes)
if_idle t id ad = if t then Some (id, ad) else None

-- the idle job at a place among all
pub idle_at_stands : (jobs : List (JobId × Job)) (k : ℕ) (id : JobId) (ad : Attributes) → HasKeysOnce same_job jobs → idle_at k jobs ≡ Some (id, ad) → StandsIdle jobs id ad
idle_at_stands [] k id ad once is = none_is_some (id, ad) is
idle_at_stands (e ∷ es) zero id ad once is = by (is_idle e.1.phase) refl is
  where
    by : (t : Bool) → is_idle e.1.phase ≡ t → if_idle t e.0 e.1.ad ≡ Some (id, ad) → StandsIdle (e ∷ es) id ad
    by true idle at = first_stands e es id ad idle (some_same (e.0, e.1.ad) (id, ad) at)
    by false idle at = none_is_some (id, ad) at
idle_at_stands (e ∷ es) (suc k) id ad once is = later_stands e es id ad once.0 (idle_at_stands es k id ad once.1 is)

-- ---- what it accepts

starts_idle : (p : PoolValue) (k : ℕ) (id : JobId) (ad : Attributes) (s : PoolSlot) (judged : Judgement) (reading : ℕ) → IsResting p → StandsIdle p.jobs id ad → AreNumberedOnce p.slots → slice_get p.slots k ≡ Some s → judged.job ≡ ad → judged.slot ≡ s.ad → judged.at ≡ reading → refusal p (Start id s.slot judged reading) ≡ None
starts_idle p k id ad s judged reading rests is slots_once slot of_job of_slot at =
    rw (rests.is_open, rests.no_runs, is.there, is.idle, slot_stands p.slots k s slots_once slot, eq-eqb judged.at reading at, same_ad-same judged.job is.job.ad (of_job ∙ sym is.ad_is), same_ad-same judged.slot s.ad of_slot) refl

-- a job and the first slot that it matches
pub first_may_start : (p : PoolValue) (k : ℕ) (id : JobId) (ad : Attributes) (slot : SlotId) (judged : Judgement) (reading : ℕ) → IsResting p → HasKeysOnce same_job p.jobs → AreNumberedOnce p.slots → idle_at k p.jobs ≡ Some (id, ad) → IsFirstFit p.slots ad reading slot judged → refusal p (Start id slot judged reading) ≡ None
first_may_start p k id ad slot judged reading rests jobs_once slots_once job fit =
    rw fit.its_number (starts_idle p fit.place id ad fit.slot judged reading rests (idle_at_stands p.jobs k id ad jobs_once job) slots_once fit.there fit.of_job fit.of_slot fit.at_now)

pub may_start : (p : PoolValue) (i k : ℕ) (id : JobId) (ad : Attributes) (s : PoolSlot) (judged : Judgement) (reading : ℕ) → IsResting p → HasKeysOnce same_job p.jobs → AreNumberedOnce p.slots → slice_get (idle_jobs p.jobs) i ≡ Some (id, ad) → slice_get p.slots k ≡ Some s → judged.job ≡ ad → judged.slot ≡ s.ad → judged.at ≡ reading → refusal p (Start id s.slot judged reading) ≡ None
may_start p i k id ad s judged reading rests jobs_once slots_once job slot of_job of_slot at =
    starts_idle p k id ad s judged reading rests (stands_idle p.jobs i id ad jobs_once job) slots_once slot of_job of_slot at

pub may_close : (p : PoolValue) (none : Mismatch) (reading : ℕ) → IsResting p → none.jobs ≡ idle_ads p.jobs → none.slots ≡ slot_ads p.slots → none.at ≡ reading → refusal p (Close reading none) ≡ None
may_close p none reading rests jobs slots at =
    rw (rests.is_open, eq-eqb none.at reading at, same_ads-same none.jobs (idle_ads p.jobs) jobs, same_ads-same none.slots (slot_ads p.slots) slots, rests.no_runs) refl

accepts_idle : (busy idle is : Bool) (a b : StepError) → (if busy || not idle then Some a else (if is then None else Some b)) ≡ None → idle ≡ true
accepts_idle busy true is a b ok = refl
accepts_idle true false is a b ok = none_is_some a (sym ok)
accepts_idle false false is a b ok = none_is_some a (sym ok)

some_idle : (o : Option Job) → is_idle_job o ≡ true → (j : Job) × (o ≡ Some j) × (is_idle j.phase ≡ true)
some_idle None is = cc
some_idle (Some j) is = (j, refl, is)

-- the job that starts is idle
starting : (p : PoolValue) (job : JobId) (slot : SlotId) (judged : Judgement) (reading : ℕ) → IsResting p → refusal p (Start job slot judged reading) ≡ None → (j : Job) × (job_at job p.jobs ≡ Some j) × (is_idle j.phase ≡ true)
starting p job slot judged reading rests ok =
    some_idle (job_at job p.jobs) (accepts_idle (is_some (run_at slot p.runs)) (is_idle_job (job_at job p.jobs)) (is_judged (job_at job p.jobs) (slot_at slot p.slots) reading judged) (Occupied slot job) (AdMoved slot) (rw rests.is_open at ok))

-- ---- what becomes of it

-- the job runs once it was started
running : (p : PoolValue) (job : JobId) (slot : SlotId) (judged : Judgement) (reading : ℕ) → IsResting p → refusal p (Start job slot judged reading) ≡ None → run_of_job (job_at job (pool_after p (Start job slot judged reading)).jobs) ≡ Some (run_no slot (p.started + 1))
running p job slot judged reading rests ok =
    let j = starting p job slot judged reading rests ok in
    ap run_of_job (job_at-own job (Running (run_no slot (p.started + 1)) reading) p.jobs ∙ ap (option_map (in_phase (Running (run_no slot (p.started + 1)) reading))) j.1)

pub may_end : (p : PoolValue) (job : JobId) (slot : SlotId) (judged : Judgement) (reading : ℕ) → IsResting p → refusal p (Start job slot judged reading) ≡ None → (end : End) (late : ℕ) → refusal (pool_after p (Start job slot judged reading)) (Ended job end late) ≡ None
may_end p job slot judged reading rests ok end late = rw (rests.is_open, running p job slot judged reading rests ok) refl

not_idle : (run : RunNo) (end : End) → is_idle (phase_after run end) ≡ false
not_idle run (Exited code) = refl
not_idle run (Signalled signal) = refl
not_idle run NotStarted = refl

no_more_idle : (job : JobId) (ph : Phase) (jobs : List (JobId × Job)) → is_idle ph ≡ false → length (idle_ads (with_phase job ph jobs)) ≤ length (idle_ads jobs)
no_more_idle job ph [] busy = omega arith
no_more_idle job ph (e ∷ es) busy = by (same_job job e.0) (no_more_idle job ph es busy)
  where
    taken : (s : Bool) → length (idle_ads es) ≤ length (cons_option (if s then Some e.1.ad else None) (idle_ads es))
    taken true = omega arith
    taken false = omega arith

    more : (s : Bool) → length (idle_ads (with_phase job ph es)) ≤ length (idle_ads es) → length (cons_option (if s then Some e.1.ad else None) (idle_ads (with_phase job ph es))) ≤ length (cons_option (if s then Some e.1.ad else None) (idle_ads es))
    more true rest = omega arith
    more false rest = rest

    by : (t : Bool) → length (idle_ads (with_phase job ph es)) ≤ length (idle_ads es) → length (idle_ads (if t then (e.0, in_phase ph e.1) ∷ es else e ∷ with_phase job ph es)) ≤ length (idle_ads (e ∷ es))
    by true rest = rw busy (taken (is_idle e.1.phase))
    by false rest = more (is_idle e.1.phase) rest

fewer_idle : (job : JobId) (ph : Phase) (jobs : List (JobId × Job)) (j : Job) → is_idle ph ≡ false → job_at job jobs ≡ Some j → is_idle j.phase ≡ true → length (idle_ads (with_phase job ph jobs)) < length (idle_ads jobs)
fewer_idle job ph [] j busy there idle = none_is_some j there
fewer_idle job ph (e ∷ es) j busy there idle = by (same_job job e.0) there (λ at. fewer_idle job ph es j busy at idle)
  where
    taken : (s : Bool) → s ≡ true → length (idle_ads es) < length (cons_option (if s then Some e.1.ad else None) (idle_ads es))
    taken true is = omega arith
    taken false is = cc

    more : (s : Bool) → length (idle_ads (with_phase job ph es)) < length (idle_ads es) → length (cons_option (if s then Some e.1.ad else None) (idle_ads (with_phase job ph es))) < length (cons_option (if s then Some e.1.ad else None) (idle_ads es))
    more true rest = omega arith
    more false rest = rest

    by : (t : Bool) → (if t then Some e.1 else job_at job es) ≡ Some j → (job_at job es ≡ Some j → length (idle_ads (with_phase job ph es)) < length (idle_ads es)) → length (idle_ads (if t then (e.0, in_phase ph e.1) ∷ es else e ∷ with_phase job ph es)) < length (idle_ads (e ∷ es))
    by true at rest = rw busy (taken (is_idle e.1.phase) (ap (λ (x : Job). is_idle x.phase) (some_same e.1 j at) ∙ idle))
    by false at rest = more (is_idle e.1.phase) (rest at)

-- a run that has ended
pub rests_again : (p : PoolValue) (job : JobId) (slot : SlotId) (judged : Judgement) (reading : ℕ) (end : End) (late : ℕ) → IsResting p → refusal p (Start job slot judged reading) ≡ None
    → IsResting (pool_after (pool_after p (Start job slot judged reading)) (Ended job end late)) × (idle_count (pool_after (pool_after p (Start job slot judged reading)) (Ended job end late)) < idle_count p)
rests_again p job slot judged reading end late rests ok =
    let on = running p job slot judged reading rests ok in
    let j = starting p job slot judged reading rests ok in
    let run = run_no slot (p.started + 1) in
    let less = fewer_idle job (Running run reading) p.jobs j.0 refl j.1 j.2 in
    let no_more = no_more_idle job (phase_after run end) (with_phase job (Running run reading) p.jobs) (not_idle run end) in
    rw on (
      record {
        is_open = rests.is_open;
        no_runs = rw (rests.no_runs, same_slot-same slot) refl;
      },
      omega arith,
    )
