-- How many jobs a queue has once what was unfinished is logged.
use Rattle.std.proofs.Common.{◌≡◌, ◌⊎◌, inl, inr, ℕ, zero, suc, ◌-◌, ◌<◌, Bool, true, false, List, [], ◌∷◌, ◌++◌, length, map, Ok, Option, Some, None, is_some, IsSomeAnd, IfSome, if◌then◌else◌, length-append, refl, sym, ◌∙◌, ap, subst, arith}
use Rattle.std.specs.Prelude.{IsSome}
use Rattle.ad_tree.specs.Ad.{AreDistinct, Attributes}
use Rattle.claim_id.specs.declared.numbers.JobId.{JobId}
use Rattle.pool_parts.specs.Plans.{leaving_job}
use Rattle.pool_parts.specs.declared.pending.Unfinished.{Unfinished}
use Rattle.pool_parts.specs.declared.pending.Unfinished.TheVariants.{Submission, Plan}
use Rattle.pool_view.specs.Facts.{CanBeMade}
use Rattle.pool_view.specs.Protocol.{AreNew, NewJob, Protocol}
use Rattle.pool_state.specs.Openings.{IsJobCount}
use Rattle.pool_state.specs.declared.state.PoolState.{PoolState}
use Rattle.pool_view.proofs.Sameness.{same_job-true}
use Rattle.pool_view.specs.AbstractPool.{IsIn}
use Rattle.pool_view.specs.Numbers.{same_job}
use Rattle.queue_tx.specs.Kinds.{kind_of}
use Rattle.queue_tx.specs.Operations.{Operation}
use Rattle.queue_tx.specs.Queues.{KeyedAds, ad_at, queue_after}
use Rattle.queue_tx.specs.declared.key.Key.TheVariants.{Proc}
use Rattle.queue_tx.specs.declared.kind.JobKind.TheVariants.{Idle}
use Rattle.schedd_core.specs.ScheddParts.{IsFitting, IsOrdered, IsThere}
use Rattle.schedd_core.proofs.FitsAfter.{ad_by}
use Rattle.schedd_core.proofs.PlanAds.{with_status, marked_held, lengthened, granted, claim_granted, claim_lengthened, claim_marked, claim_status, has_claim, held_kind, idle_kind, under_kind}
use Rattle.schedd_core.proofs.PlanJobs.{ad_elsewhere, ad_of_plan, is_there, kind_there, plan_ad, plan_there, shown}
use Rattle.schedd_core.proofs.QueueChanges.{ordered_after}
use Rattle.schedd_plan.specs.declared.plan.JobPlan.{JobPlan}
use Rattle.schedd_plan.specs.declared.plan.JobPlan.TheVariants as plan
use Rattle.schedd_plan.specs.Plans.{job_of, plan_ops}
use Rattle.pool_rules.specs.Linked.{Awaits, AwaitsJobs, AwaitsPlan, BringsJobs, new_job_id}
use Rattle.pool_rules.specs.PoolParts.{Awaited}
use Rattle.pool_rules.proofs.Kept.{in_both, in_first, in_second}
use Rattle.pool_rules.proofs.Submitting.{OneOrNone, new_was_none, one_or_none}
use Rattle.pool_rules.specs.Logging.{cluster_jobs, jobs_after, jobs_left_by}
use Rattle.pool_rules.specs.Kept.{IsKept, IsTxOf}
use Rattle.pool_rules.specs.Parts.{awaited_by, awaited_of, parts_of}
use Rattle.pool_rules.proofs.JobLists.{AreAll, AreApart, Without, apart_both, counted, listed_all, without}
use Rattle.pool_rules.proofs.ScheddLists.{in_map}

-- ---- the jobs of a submission
proc_below : (job : JobId) (cluster count : ℕ) → IsIn job (cluster_jobs cluster count) → job.proc < count
proc_below job cluster zero there = absurd there
proc_below job cluster (suc count) there = by (in_both job (cluster_jobs cluster count) (record { cluster = cluster; proc = count } ∷ []) there) (λ h. proc_below job cluster count h)
  where
    by : IsIn job (cluster_jobs cluster count) ⊎ IsIn job (record { cluster = cluster; proc = count } ∷ []) → (IsIn job (cluster_jobs cluster count) → job.proc < count) → job.proc < suc count
    by (inl h) rest = let less = rest h in omega (arith, less)
    by (inr (inl same)) rest = let is : job.proc ≡ count = ap (λ (j : JobId). j.proc) same in omega (arith, is)
    by (inr (inr h)) rest = absurd h

cluster_apart : (cluster count : ℕ) → AreApart (cluster_jobs cluster count)
cluster_apart cluster zero = tt
cluster_apart cluster (suc count) = apart_both (cluster_jobs cluster count) (record { cluster = cluster; proc = count } ∷ []) (cluster_apart cluster count) ((λ h. h), tt) far
  where
    far : (job : JobId) → IsIn job (cluster_jobs cluster count) → IsIn job (record { cluster = cluster; proc = count } ∷ []) → ⊥
    far job there (inl same) =
        let less = proc_below job cluster count there in
        let is : job.proc ≡ count = ap (λ (j : JobId). j.proc) same in omega (arith, less, is)
    far job there (inr h) = h

cluster_length : (cluster count : ℕ) → length (cluster_jobs cluster count) ≡ count
cluster_length cluster zero = refl
cluster_length cluster (suc count) =
    let both = length-append (cluster_jobs cluster count) (record { cluster = cluster; proc = count } ∷ []) in
    let rest = cluster_length cluster count in omega (arith, both, rest)

from_map : {A B : Type 0} (f : A → B) (y : B) (xs : List A) → IsIn y (map f xs) → (x : A) × IsIn x xs × (y ≡ f x)
from_map f y [] there = absurd there
from_map f y (x ∷ xs) (inl same) = (x, inl refl, same)
from_map f y (x ∷ xs) (inr there) = let r = from_map f y xs there in (r.0, inr r.1, r.2)

module _ (q new : KeyedAds) (jobs : List NewJob) (ids xs : List JobId) (named : map new_job_id jobs ≡ ids) (apart : AreApart ids) (brings : BringsJobs q jobs new)
    (none : (j : NewJob) → IsIn j jobs → IsThere q j.job → ⊥) (all : AreAll q xs) where
  one_of : (job : JobId) → IsIn job ids → (j : NewJob) × IsIn j jobs × (job ≡ j.job)
  one_of job there = from_map new_job_id job jobs (subst (λ (l : List JobId). IsIn job l) (sym named) there)

  among : (j : NewJob) (job : JobId) → IsIn j jobs → job ≡ j.job → IsIn job ids
  among j job there is = subst (λ (l : List JobId). IsIn job l) named (subst (λ k. IsIn k (map new_job_id jobs)) (sym is) (in_map new_job_id j jobs there))

  not_new : (job : JobId) → IsThere q job → (j : NewJob) → IsIn j jobs → job ≡ j.job → ⊥
  not_new job there j in_jobs is = none j in_jobs (subst (IsThere q) is there)

  is_idle : (j : NewJob) → IsIn j jobs → IsThere new j.job
  is_idle j there = by (ad_at (Proc j.job) new) (brings.each j there)
    where
      by : (o : Option Attributes) → IsSomeAnd o (λ ad. (Rattle.pool_view.specs.Ads.core_of ad ≡ j.core) × (kind_of ad ≡ Some Idle)) → IsSomeAnd o (λ ad. IsSome (kind_of ad))
      by None h = absurd h
      by (Some ad) h = ap is_some h.1

  stays_there : (job : JobId) → IsThere q job → IsThere new job
  stays_there job there = subst (λ o. IsSomeAnd o (λ ad. IsSome (kind_of ad))) (sym (brings.others job (not_new job there))) there

  brought_all : AreAll new (ids ++ xs)
  brought_all = record {
    apart = apart_both ids xs apart all.apart (λ job a b. (let one = one_of job a in not_new job (all.there job b) one.0 one.1 one.2));
    there = λ job h. to job (in_both job ids xs h);
    all = λ job h. back job h (one_or_none job jobs);
  }
    where
      to : (job : JobId) → IsIn job ids ⊎ IsIn job xs → IsThere new job
      to job (inl h) = let one = one_of job h in subst (IsThere new) (sym one.2) (is_idle one.0 one.1)
      to job (inr h) = stays_there job (all.there job h)

      back : (job : JobId) → IsThere new job → OneOrNone job jobs → IsIn job (ids ++ xs)
      back job h (inl one) = in_first job ids xs (among one.0 job one.1 one.2)
      back job h (inr far) = in_second job ids xs (all.all job (subst (λ o. IsSomeAnd o (λ ad. IsSome (kind_of ad))) (brings.others job far) h))

-- ---- a job's plan
-- by which the job stays in the queue
job_stays : (q : KeyedAds) (left : List JobId) (pl : JobPlan) (ad : Attributes) → IsFitting q left pl → ad_at (Proc (job_of pl)) q ≡ Some ad → AreDistinct ad → leaving_job pl ≡ None
    → IsSomeAnd (plan_ad pl ad) (λ a. IsSome (kind_of a))
unfolding plan_ad
job_stays q left (plan.PutIdle job) ad fits is d none = ap is_some (idle_kind ad d)
job_stays q left (plan.PutHeld job reason) ad fits is d none = ap is_some (held_kind reason ad d)
job_stays q left (plan.Complete job completion) ad fits is d none = cc
job_stays q left (plan.Remove job) ad fits is d none = cc
job_stays q left (plan.MarkRemoved job) ad fits is d none = ap is_some (under_kind (with_status 3 ad) (ap is_some (claim_status 3 ad) ∙ has_claim ad (kind_there q job ad fits is)))
job_stays q left (plan.MarkHeld job reason) ad fits is d none = ap is_some (under_kind (marked_held reason ad) (ap is_some (claim_marked reason ad) ∙ has_claim ad (kind_there q job ad fits is)))
job_stays q left (plan.MarkRunning job) ad fits is d none = ap is_some (under_kind (with_status 2 ad) (ap is_some (claim_status 2 ad) ∙ has_claim ad (kind_there q job ad fits is)))
job_stays q left (plan.Lengthen job until) ad fits is d none = ap is_some (under_kind (lengthened until ad) (ap is_some (claim_lengthened until ad) ∙ has_claim ad (kind_there q job ad fits is)))
job_stays q left (plan.Grant job claim number until header) ad fits is d none = ap is_some (under_kind (granted claim number until ad) (ap is_some (claim_granted claim number until ad)))

-- by which it leaves
job_leaves : (pl : JobPlan) (ad : Attributes) → is_some (leaving_job pl) ≡ true → plan_ad pl ad ≡ None
unfolding plan_ad
job_leaves (plan.PutIdle job) ad h = cc
job_leaves (plan.PutHeld job reason) ad h = cc
job_leaves (plan.Complete job completion) ad h = refl
job_leaves (plan.Remove job) ad h = refl
job_leaves (plan.MarkRemoved job) ad h = cc
job_leaves (plan.MarkHeld job reason) ad h = cc
job_leaves (plan.MarkRunning job) ad h = cc
job_leaves (plan.Lengthen job until) ad h = cc
job_leaves (plan.Grant job claim number until header) ad h = cc

-- all jobs of a queue, so many
record SoMany (q : KeyedAds) (count : ℕ) : Type 0 where
  jobs : List JobId
  all : AreAll q jobs
  many : count ≡ length jobs

module _ (q new : KeyedAds) (left : List JobId) (pl : JobPlan) (xs : List JobId) (ordered : IsOrdered q) (h : queue_after q (plan_ops pl) ≡ Ok new) (fits : IsFitting q left pl) (all : AreAll q xs) where
  abbrev job : JobId
  job = job_of pl

  was : (ad : Attributes) × (ad_at (Proc job) q ≡ Some ad) × IsSome (kind_of ad)
  was = ad_by q job (plan_there q left pl fits)

  is_now : ad_at (Proc job) new ≡ plan_ad pl was.0
  is_now = ad_of_plan q new pl was.0 ordered.keys h was.1

  far_to : (k : JobId) → same_job k job ≡ false → IsThere q k → IsThere new k
  far_to k far there = subst (λ o. IsSomeAnd o (λ ad. IsSome (kind_of ad))) (sym (ad_elsewhere q new pl k ordered.keys h far)) there

  far_back : (k : JobId) → same_job k job ≡ false → IsThere new k → IsThere q k
  far_back k far there = subst (λ o. IsSomeAnd o (λ ad. IsSome (kind_of ad))) (ad_elsewhere q new pl k ordered.keys h far) there

  staying : leaving_job pl ≡ None → AreAll new xs
  staying none = record {
    apart = all.apart;
    there = λ k in_xs. to k (all.there k in_xs) (same_job k job) refl;
    all = λ k there. back k there (same_job k job) refl;
  }
    where
      to : (k : JobId) → IsThere q k → (b : Bool) → same_job k job ≡ b → IsThere new k
      to k there true is = subst (IsThere new) (sym (same_job-true k job is))
          (subst (λ o. IsSomeAnd o (λ ad. IsSome (kind_of ad))) (sym is_now) (job_stays q left pl was.0 fits was.1 (ordered.names (Proc job) was.0 was.1) none))
      to k there false far = far_to k far there

      back : (k : JobId) → IsThere new k → (b : Bool) → same_job k job ≡ b → IsIn k xs
      back k there true is = subst (λ j. IsIn j xs) (sym (same_job-true k job is)) (all.all job (is_there q job was.0 was.1 was.2))
      back k there false far = all.all k (far_back k far there)

  its : IsIn job xs
  its = all.all job (plan_there q left pl fits)

  leaving : is_some (leaving_job pl) ≡ true → AreAll new (without job xs its).rest
  leaving some = record {
    apart = w.apart all.apart;
    there = λ k in_rest. to k in_rest (same_job k job) refl;
    all = λ k there. back k there (same_job k job) refl;
  }
    where
      w : Without job xs
      w = without job xs its

      not_there : IsThere new job → ⊥
      not_there there = subst (λ o. IsSomeAnd o (λ ad. IsSome (kind_of ad))) (is_now ∙ job_leaves pl was.0 some) there

      to : (k : JobId) → IsIn k w.rest → (b : Bool) → same_job k job ≡ b → IsThere new k
      to k in_rest true is = absurd (w.gone all.apart (subst (λ j. IsIn j w.rest) (same_job-true k job is) in_rest))
      to k in_rest false far = far_to k far (all.there k (w.within k in_rest))

      back : (k : JobId) → IsThere new k → (b : Bool) → same_job k job ≡ b → IsIn k w.rest
      back k there true is = absurd (not_there (subst (IsThere new) (same_job-true k job is) there))
      back k there false far = w.others k (all.all k (far_back k far there)) (λ same. not_there (subst (IsThere new) same there))

  planned : SoMany new (jobs_left_by pl (length xs))
  planned = by (leaving_job pl) refl
    where
      by : (o : Option JobId) → leaving_job pl ≡ o → SoMany new (jobs_left_by pl (length xs))
      by None is = record { jobs = xs; all = staying is; many = ap (λ (o : Option JobId). if is_some o then length xs - 1 else length xs) is }
      by (Some j) is =
          let w = without job xs its in
          record {
            jobs = w.rest;
            all = leaving (ap is_some is);
            many = ap (λ (o : Option JobId). if is_some o then length xs - 1 else length xs) is ∙ (let one = w.one_less in omega (arith, one));
          }

-- ---- what was unfinished is logged
so_many : (q : KeyedAds) (count : ℕ) → IsOrdered q → SoMany q count → IsJobCount q count
so_many q count ordered m = subst (IsJobCount q) (sym m.many) (counted q m.jobs ordered.keys m.all)

module _ (p : Protocol) (s : PoolState) (kept : IsKept p s) where
  none_there : (tx : List Operation) (ids : List JobId) (w : AwaitsJobs p (parts_of s) ids tx) (j : NewJob) → IsIn j w.jobs → IsThere s.queue j.job → ⊥
  none_there tx ids w j there was =
      let new : AreNew p.pool.jobs w.jobs = subst (λ c. IfSome c (CanBeMade p.pool)) w.change kept.linked.facts.pending in
      let found = shown s.queue s.schedd.left p.pool.jobs j.job kept.linked.schedd.jobs was in
      let clash : Some found.entry ≡ None = sym found.entry_is ∙ new_was_none p.pool.jobs w.jobs j new there in cc

  many_logged : (tx : List Operation) (what : Unfinished) (q : KeyedAds) (xs : List JobId) → awaited_of s.pending ≡ Some (awaited_by tx what) → IsTxOf what tx → queue_after s.queue tx ≡ Ok q → AreAll s.queue xs
      → IsOrdered q × SoMany q (jobs_after what (length xs))
  many_logged tx (Submission cluster count) q xs awaited of h all =
      let w : AwaitsJobs p (parts_of s) (cluster_jobs cluster count) tx = subst (λ (o : Option Awaited). Awaits p (parts_of s) o) awaited kept.linked.awaited in
      let brings = w.brings q h in (
        brings.queue,
        record {
          jobs = cluster_jobs cluster count ++ xs;
          all = brought_all s.queue q w.jobs (cluster_jobs cluster count) xs w.named (cluster_apart cluster count) brings (none_there tx (cluster_jobs cluster count) w) all;
          many = (let both = length-append (cluster_jobs cluster count) xs in let many = cluster_length cluster count in omega (arith, both, many));
        },
      )
  many_logged tx (Plan pl) q xs awaited of h all =
      let w : AwaitsPlan p (parts_of s) pl = subst (λ (o : Option Awaited). Awaits p (parts_of s) o) awaited kept.linked.awaited in
      let done : queue_after s.queue (plan_ops pl) ≡ Ok q = subst (λ (ops : List Operation). queue_after s.queue ops ≡ Ok q) of h in
      (ordered_after s.queue q (plan_ops pl) w.lost.fits.queue done, planned s.queue q s.schedd.left pl xs w.lost.fits.queue done w.fitting all)

  pub jobs_logged : (tx : List Operation) (what : Unfinished) (q : KeyedAds) (count : ℕ) → awaited_of s.pending ≡ Some (awaited_by tx what) → IsTxOf what tx → queue_after s.queue tx ≡ Ok q
      → IsJobCount s.queue count → IsJobCount q (jobs_after what count)
  jobs_logged tx what q count awaited of h (jobs, listed, is) =
      let m = many_logged tx what q jobs awaited of h (listed_all s.queue jobs listed) in
      subst (λ n. IsJobCount q (jobs_after what n)) (sym is) (so_many q (jobs_after what (length jobs)) m.0 m.1)
