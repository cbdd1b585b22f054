-- A pool is kept where its unfinished transaction is logged.
use Rattle.std.proofs.Common.{◌≡◌, inl, inr, ◌⊎◌, ℕ, zero, suc, true, false, if◌then◌else◌, List, [], ◌∷◌, map, Ok, Option, Some, None, IsSomeAnd, refl, sym, ◌∙◌, ap, subst, arith}
use Rattle.std.specs.Cmp.{nat_cmp_is}
use Rattle.std.specs.Ordering.{is_gt, nat_cmp, ordering_then}
use Rattle.std.specs.declared.cmp.Ordering.{Ordering}
use Rattle.std.specs.declared.cmp.Ordering.TheVariants.{Less, Equal}
use Rattle.claim_id.specs.declared.numbers.ClaimId.{ClaimId}
use Rattle.claim_id.specs.declared.numbers.JobId.{JobId}
use Rattle.pool_parts.specs.declared.answer.Stepped.{Stepped}
use Rattle.pool_parts.specs.declared.event.Event.TheVariants as event
use Rattle.pool_mail.specs.declared.mail.Mail.{Mail}
use Rattle.pool_parts.specs.declared.pending.Pending.{Pending}
use Rattle.pool_parts.specs.declared.pending.Unfinished.{Unfinished}
use Rattle.pool_parts.specs.declared.pending.Unfinished.TheVariants.{Submission, Plan}
use Rattle.pool_view.specs.Protocol.{NewJob, Protocol}
use Rattle.pool_view.specs.ProtocolMove.{Commit, confirm_move}
use Rattle.pool_state.specs.declared.state.PoolState.{PoolState}
use Rattle.pool_view.specs.AbstractPool.{IsIn}
use Rattle.pool_view.specs.AbstractStep.{AbstractStep}
use Rattle.queue_tx.specs.declared.key.Key.{Key}
use Rattle.queue_tx.specs.declared.key.Key.TheVariants.{Header, Proc}
use Rattle.queue_tx.specs.Keys.{is_above, key_cmp}
use Rattle.queue_tx.specs.Operations.{Operation}
use Rattle.queue_tx.specs.Periodic.{IsPeriodic, is_periodic}
use Rattle.queue_tx.specs.Queues.{KeyedAds, queue_after}
use Rattle.receipt_roll.specs.Values.{ReceiptValue}
use Rattle.schedd_core.specs.Logging.{after_logged, mails_of_plan}
use Rattle.schedd_core.specs.PlanChanges.{moves_of_logged}
use Rattle.schedd_state.specs.Reopening.{IsReader}
use Rattle.schedd_core.proofs.Marks.{logged_passed, new_passed}
use Rattle.schedd_plan.specs.declared.plan.JobPlan.{JobPlan}
use Rattle.schedd_plan.specs.Plans.{plan_ops}
use Rattle.pool_rules.specs.Linked.{Awaits, AwaitsJobs, AwaitsPlan, BringsJobs, new_job_id}
use Rattle.pool_rules.specs.PoolParts.{Awaited}
use Rattle.pool_rules.specs.ScheddEvents.{parts_with_jobs, parts_with_plan}
use Rattle.pool_rules.proofs.Kept.{in_both}
use Rattle.pool_rules.proofs.LinkedLogged.{plan_logged}
use Rattle.pool_rules.proofs.Submitting.{jobs_logged}
use Rattle.pool_rules.specs.Deeds.{counts_sent, posts}
use Rattle.pool_rules.specs.Happens.{Happens}
use Rattle.pool_rules.specs.Logging.{IsLogged, Leaver, after_unfinished, cluster_jobs, counts_logged, leaver_of, with_logged, with_submission}
use Rattle.pool_rules.specs.Parts.{awaited_by, awaited_of, parts_of}
use Rattle.pool_rules.specs.Kept.{GoesOn, IsKept, IsPendingTx, IsTxOf}
use Rattle.pool_rules.specs.Steps.{IsAcknowledgeStep, IsPlanStep, IsQueueStep, IsStepOf}
use Rattle.pool_rules.proofs.ScheddSteps.{logged_jobs_steps, logged_plan_steps}
use Rattle.pool_rules.proofs.ScheddEvents.{mark_stays, parts_marked}
use Rattle.pool_rules.proofs.ScheddGoing.{goes_by}
use Rattle.pool_rules.proofs.ScheddLeavers.{Leaves, leaves}
use Rattle.pool_rules.proofs.Mailing.{addressed_posts, mails_of_posts}
use Rattle.pool_rules.proofs.ScheddLists.{in_map, same_members, swapped}

-- ---- the jobs of a cluster
abbrev pub IsOfCluster : ℕ → JobId → Type 0
IsOfCluster cluster job = (proc : ℕ) × (job ≡ record { cluster = cluster; proc = proc })

pub in_cluster : (job : JobId) (cluster count : ℕ) → IsIn job (cluster_jobs cluster count) → IsOfCluster cluster job
in_cluster job cluster zero there = absurd there
in_cluster job cluster (suc count) there = by (in_both job (cluster_jobs cluster count) (record { cluster = cluster; proc = count } ∷ []) there) (λ h. in_cluster job cluster count h)
  where
    by : IsIn job (cluster_jobs cluster count) ⊎ IsIn job (record { cluster = cluster; proc = count } ∷ []) → (IsIn job (cluster_jobs cluster count) → IsOfCluster cluster job) → IsOfCluster cluster job
    by (inl h) rest = rest h
    by (inr (inl same)) rest = (count, same)
    by (inr (inr h)) rest = absurd h

-- none of them comes before the first
first_least : (cluster proc : ℕ) → is_gt (key_cmp (Proc (record { cluster = cluster; proc = 0 })) (Proc (record { cluster = cluster; proc = proc }))) ≡ false
first_least cluster proc =
    ap (λ (r : Ordering). is_gt (ordering_then r (nat_cmp 0 proc))) (sym (nat_cmp_is cluster cluster Equal refl)) ∙ by proc
  where
    by : (n : ℕ) → is_gt (nat_cmp 0 n) ≡ false
    by zero = refl
    by (suc n) = ap is_gt (sym (nat_cmp_is 0 (suc n) Less (omega arith)))

not_before : (job : JobId) (cluster count : ℕ) → is_gt (key_cmp (Proc (record { cluster = cluster; proc = 0 })) (Proc job)) ≡ true → IsIn job (cluster_jobs cluster count) → ⊥
not_before job cluster count before there =
    let found = in_cluster job cluster count there in
    let clash : true ≡ false = sym before ∙ (ap (λ k. is_gt (key_cmp (Proc (record { cluster = cluster; proc = 0 })) (Proc k))) found.1 ∙ first_least cluster found.0) in cc

-- jobs with a periodic expression that come before all new ones were there
periodic_before : (q new : KeyedAds) (jobs : List NewJob) (cluster count : ℕ) → map new_job_id jobs ≡ cluster_jobs cluster count → BringsJobs q jobs new
    → (key : Key) → IsPeriodic new key → is_gt (key_cmp (Proc (record { cluster = cluster; proc = 0 })) key) ≡ true → IsPeriodic q key
periodic_before q new jobs cluster count named brings Header periodic before = cc
periodic_before q new jobs cluster count named brings (Proc job) periodic before =
    ap (is_periodic (Proc job)) (sym (brings.others job none)) ∙ periodic
  where
    none : (j : NewJob) → IsIn j jobs → job ≡ j.job → ⊥
    none j there same =
        not_before job cluster count before (subst (λ (l : List JobId). IsIn job l) named (subst (λ k. IsIn k (map new_job_id jobs)) (sym same) (in_map new_job_id j jobs there)))

-- ---- a plan
plan_goes : (read : List ℕ → Option ClaimId) → IsReader read → (p : Protocol) (P : AbstractStep → Type 0) (s : PoolState) (pl : JobPlan) (q : KeyedAds) → ((k : AbstractStep) → IsPlanStep pl k → P k) → IsKept p s → AwaitsPlan p (parts_of s) pl → queue_after s.queue (plan_ops pl) ≡ Ok q
    → GoesOn p P (after_unfinished q (leaver_of read s.queue (Plan pl)) (Plan pl) s)
plan_goes read reads p P s pl q queues kept w h =
    subst (λ (o : Option JobPlan). GoesOn p P (as_waits o)) (sym w.waiting)
    (goes_by p P (moves_of_logged s.schedd q pl) (parts_with_plan pl q l.finished (parts_of s)) (as_waits (Some pl))
    (logged_plan_steps P p (parts_of s) pl s.schedd q queues w)
    (plan_logged p (parts_of s) pl q l.finished kept.linked w h l.finishes)
    (record {
      moment = refl;
      startds = refl;
      schedd = refl;
      queue = refl;
      mails = λ m there. subst (λ (ms : List Mail). IsIn m ms) (mails_of_posts s.mails.sent (mails_of_plan s.schedd q pl)) there;
      awaited = refl;
      finished = l.same;
      acked = same_members s.acked;
      ordered = same_members s.ordered;
      reports = same_members s.reports;
    })
    tt
    (addressed_posts s.mails.sent (mails_of_plan s.schedd q pl) kept.addressed)
    (logged_passed s.queue q s.schedd pl w.lost.fits.queue w.fitting h kept.passed)
    kept.boots)
  where
    leaver : Leaver
    leaver = leaver_of read s.queue (Plan pl)

    l : Leaves pl s.queue s.finished leaver
    l = leaves read reads p s pl kept.linked w

    as_waits : Option JobPlan → PoolState
    as_waits o = record (with_logged q leaver (Plan pl) s) {
      schedd = (after_logged s.schedd q o).schedd;
      mails = posts (after_logged s.schedd q o).step.mails s.mails;
      counts = counts_sent (after_logged s.schedd q o).step.mails (counts_logged s.queue q (Plan pl) s.counts);
    }

-- ---- a submission
jobs_go : (p : Protocol) (P : AbstractStep → Type 0) (s : PoolState) (cluster count : ℕ) (tx : List Operation) (q : KeyedAds) → ((k : AbstractStep) → IsQueueStep (Submission cluster count) k → P k)
    → ((k : AbstractStep) → IsAcknowledgeStep (Submission cluster count) k → P k) → IsKept p s → AwaitsJobs p (parts_of s) (cluster_jobs cluster count) tx → queue_after s.queue tx ≡ Ok q → GoesOn p P (with_submission q cluster count s)
jobs_go p P s cluster count tx q queues tells kept w h =
    goes_by p P (Commit ∷ map confirm_move w.jobs) (parts_marked mark (parts_with_jobs (cluster_jobs cluster count) q (parts_of s))) (with_submission q cluster count s)
    (logged_jobs_steps P p (parts_of s) cluster count tx queues tells w)
    (mark_stays p (Commit ∷ map confirm_move w.jobs) (parts_with_jobs (cluster_jobs cluster count) q (parts_of s)) mark
    (jobs_logged p (parts_of s) (cluster_jobs cluster count) tx q kept.linked w h))
    (record {
      moment = refl;
      startds = refl;
      schedd = refl;
      queue = refl;
      mails = λ m there. there;
      awaited = refl;
      finished = λ job. refl;
      acked = swapped (cluster_jobs cluster count) s.acked;
      ordered = same_members s.ordered;
      reports = same_members s.reports;
    })
    tt
    kept.addressed
    (new_passed s.queue q s.schedd first (periodic_before s.queue q w.jobs cluster count w.named (w.brings q h)) kept.passed)
    kept.boots
  where
    first : Key
    first = Proc (record { cluster = cluster; proc = 0 })

    mark : Option Key
    mark = if is_above s.schedd.passed first then s.schedd.passed else None

-- ---- what was unfinished
by_what : (read : List ℕ → Option ClaimId) → IsReader read → (p : Protocol) (P : AbstractStep → Type 0) (s : PoolState) (tx : List Operation) (what : Unfinished) (q : KeyedAds) → ((k : AbstractStep) → IsQueueStep what k → P k) → ((k : AbstractStep) → IsAcknowledgeStep what k → P k) → IsKept p s → awaited_of s.pending ≡ Some (awaited_by tx what) → IsTxOf what tx → queue_after s.queue tx ≡ Ok q
    → GoesOn p P (after_unfinished q (leaver_of read s.queue what) what s)
by_what read reads p P s tx (Submission cluster count) q queues tells kept awaited of h =
    jobs_go p P s cluster count tx q queues tells kept (subst (λ (o : Option Awaited). Awaits p (parts_of s) o) awaited kept.linked.awaited) h
by_what read reads p P s tx (Plan pl) q queues tells kept awaited of h =
    plan_goes read reads p P s pl q queues kept (subst (λ (o : Option Awaited). Awaits p (parts_of s) o) awaited kept.linked.awaited)
    (subst (λ (ops : List Operation). queue_after s.queue ops ≡ Ok q) of h)

pub logged_keeps : (read : List ℕ → Option ClaimId) → IsReader read → (p : Protocol) (s new : PoolState) (r : Stepped) (boot : ℕ) (receipt : ReceiptValue (List Operation)) → IsKept p s → Happens (event.Logged boot receipt) s new r → GoesOn p (IsStepOf (event.Logged boot receipt) s) new
unfolding Happens
logged_keeps read reads p s new r boot receipt kept happens = by s.pending refl kept.pending happens
  where
    waits : (x : Pending) → s.pending ≡ Some x → (k : AbstractStep) → IsQueueStep x.what k ⊎ IsAcknowledgeStep x.what k → IsStepOf (event.Logged boot receipt) s k
    waits x is k h = subst (λ (o : Option Pending). IsSomeAnd o (λ y. IsQueueStep y.what k ⊎ IsAcknowledgeStep y.what k)) (sym is) h

    by : (o : Option Pending) → s.pending ≡ o → IsPendingTx o → IsSomeAnd o (λ x. IsLogged s x new r) → GoesOn p (IsStepOf (event.Logged boot receipt) s) new
    by None is tx does = absurd does
    by (Some x) is tx does =
        subst (λ (t : PoolState). GoesOn p (IsStepOf (event.Logged boot receipt) s) t) (sym (does.pool read reads))
        (by_what read reads p (IsStepOf (event.Logged boot receipt) s) s x.tx x.what does.queue (λ k queue. waits x is k (inl queue)) (λ k told. waits x is k (inr told)) kept (ap awaited_of is) tx does.done)
