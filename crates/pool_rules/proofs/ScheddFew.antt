-- Few clusters are used: an event uses one more at most.
use Rattle.std.proofs.Common.{◌≡◌, ◌⊎◌, inl, inr, ℕ, ◌≤◌, ◌==◌, Bool, true, false, cond, ◌||◌, List, [], ◌∷◌, ◌++◌, length, map, Ok, Option, Some, None, is_some, IsSomeAnd, IfSome, slice_get, position, eqb-true, length-append, refl, sym, ◌∙◌, ap, subst, arith}
use Rattle.std.specs.Prelude.{IsSome}
use Rattle.std.specs.Map.{keys_of, lookup}
use Rattle.ad_eval.specs.Judgement.{Judgement}
use Rattle.ad_tree.specs.Ad.{Attributes}
use Rattle.claim_id.specs.declared.numbers.ClaimId.{ClaimId}
use Rattle.claim_id.specs.declared.numbers.JobId.{JobId}
use Rattle.claim_id.specs.declared.order.Verb.{Verb}
use Rattle.ordered_map.proofs.Maps.{lookup-insert_entry}
use Rattle.pool_parts.specs.declared.answer.Stepped.{Stepped}
use Rattle.pool_parts.specs.declared.event.Event.{Event}
use Rattle.pool_parts.specs.declared.event.Event.TheVariants as event
use Rattle.pool_outer.specs.declared.gate.Daemon.{Daemon}
use Rattle.pool_outer.specs.declared.gate.Daemon.TheVariants.{Schedd, Startd, Matchmaker}
use Rattle.pool_parts.specs.Clusters.{has_cluster, is_of_cluster, is_used}
use Rattle.pool_parts.specs.declared.finished.FinishedJob.{FinishedJob}
use Rattle.pool_parts.specs.declared.pending.Pending.{Pending}
use Rattle.pool_parts.specs.declared.pending.Unfinished.{Unfinished}
use Rattle.pool_parts.specs.declared.pending.Unfinished.TheVariants.{Submission, Plan}
use Rattle.pool_view.specs.Protocol.{NewJob, Protocol}
use Rattle.pool_state.specs.declared.state.PoolState.{PoolState}
use Rattle.pool_parts.specs.Submissions.{job_numbered}
use Rattle.pool_view.specs.AbstractPool.{IsIn}
use Rattle.pool_view.specs.Numbers.{same_job}
use Rattle.pool_view.specs.declared.job.Outcome.{Outcome}
use Rattle.pool_view.proofs.Sameness.{same_job-true}
use Rattle.queue_tx.specs.declared.key.Key.{Key}
use Rattle.queue_tx.specs.declared.key.Key.TheVariants.{Header, Proc}
use Rattle.pool_parts.specs.Sizes.{queue_count}
use Rattle.pool_state.specs.declared.opening.Opening.{Opening}
use Rattle.pool_state.specs.Openings.{CanOpen, IsOpenedBy}
use Rattle.pool_tables.specs.OrderTables.{is_due_for}
use Rattle.queue_tx.specs.Keys.{cluster_of, key_cmp_total, same_key, same_key_laws}
use Rattle.queue_tx.specs.Kinds.{kind_of}
use Rattle.queue_tx.specs.Operations.{Operation}
use Rattle.queue_tx.specs.Queues.{KeyedAds, ad_at, queue_after}
use Rattle.queue_tx.proofs.Transactions.{same_keys}
use Rattle.schedd_state.specs.Reopening.{IsReader}
use Rattle.schedd_core.specs.ScheddParts.{IsThere}
use Rattle.schedd_core.proofs.PlanJobs.{ad_elsewhere, plan_there}
use Rattle.schedd_plan.specs.declared.plan.JobPlan.{JobPlan}
use Rattle.schedd_plan.specs.Plans.{job_of}
use Rattle.startd_core.specs.Startds.{After, StartdValue, after_end, after_mail, after_reboot, after_tick}
use Rattle.pool_rules.specs.Linked.{Awaits, AwaitsJobs, AwaitsPlan, BringsJobs, new_job_id}
use Rattle.pool_rules.specs.PoolParts.{Awaited}
use Rattle.pool_rules.proofs.Kept.{in_first, in_second}
use Rattle.pool_rules.proofs.Submitting.{OneOrNone, one_or_none}
use Rattle.pool_rules.specs.Happens.{ComesBack, Happens, Reacts, Receives, Ticks, counts_brought, counts_event, crashes}
use Rattle.pool_rules.specs.Logging.{IsBackWith, IsLogged, Leaver, ScheddIsBack, after_unfinished, cluster_jobs, leaver_as, leaver_of, leaver_with, outcome_of, run_under, with_leaver}
use Rattle.pool_rules.specs.Masters.{gives}
use Rattle.pool_rules.specs.Parts.{awaited_by, awaited_of, parts_of}
use Rattle.pool_rules.specs.Startds.{IsReceivedStep, IsStartdStep, ends_after}
use Rattle.pool_tables.specs.declared.sent.Sent.{Sent}
use Rattle.pool_view.specs.declared.run.EndReport.{EndReport}
use Rattle.pool_rules.specs.Few.{AreFew}
use Rattle.pool_rules.specs.Kept.{IsKept, IsPendingTx, IsTxOf}
use Rattle.pool_rules.proofs.ScheddLogged.{in_cluster}
use Rattle.pool_rules.proofs.ScheddLists.{in_map}
use Rattle.pool_rules.proofs.ScheddSubmitted.{none_of_cluster}

-- ---- tests
either : (a b : Bool) → (a || b) ≡ true → (a ≡ true) ⊎ (b ≡ true)
either true b h = inl refl
either false b h = inr h

by_first : (a b : Bool) → a ≡ true → (a || b) ≡ true
by_first true b h = refl
by_first false b h = cc

by_second : (a b : Bool) → b ≡ true → (a || b) ≡ true
by_second true b h = refl
by_second false b h = h

-- ---- a cluster by one of its jobs
module _ {X : Type 0} where
  -- something stands under a job of the cluster
  record IsFound (cluster : ℕ) (es : List (Key × X)) : Type 0 where
    proc : ℕ
    there : IsSome (lookup (same_key (Proc (job_numbered cluster proc))) es)

  first_found : (cluster : ℕ) (key : Key) (v : X) (es : List (Key × X)) → is_of_cluster cluster key ≡ true → IsFound cluster ((key, v) ∷ es)
  first_found cluster Header v es is = cc
  first_found cluster (Proc job) v es is = record {
    proc = job.proc;
    there = subst (λ n. IsSome (lookup (same_key (Proc (job_numbered n job.proc))) ((Proc job, v) ∷ es))) (eqb-true job.cluster cluster is)
        (ap (λ b. is_some (cond b (Some v) (lookup (same_key (Proc job)) es))) (same_key_laws.refl (Proc job)));
  }

  later_found : (cluster : ℕ) (e : Key × X) (es : List (Key × X)) → IsFound cluster es → IsFound cluster (e ∷ es)
  later_found cluster e es found = record { proc = found.proc; there = by (same_key (Proc (job_numbered cluster found.proc)) e.0) }
    where
      by : (b : Bool) → IsSome (cond b (Some e.1) (lookup (same_key (Proc (job_numbered cluster found.proc))) es))
      by true = refl
      by false = found.there

  found_of : (cluster : ℕ) (es : List (Key × X)) → has_cluster cluster (keys_of es) ≡ true → IsFound cluster es
  found_of cluster [] has = cc
  found_of cluster (e ∷ es) has = by (either (is_of_cluster cluster e.0) (has_cluster cluster (keys_of es)) has) (λ h. found_of cluster es h)
    where
      by : (is_of_cluster cluster e.0 ≡ true) ⊎ (has_cluster cluster (keys_of es) ≡ true) → (has_cluster cluster (keys_of es) ≡ true → IsFound cluster es) → IsFound cluster (e ∷ es)
      by (inl h) rest = first_found cluster e.0 e.1 es h
      by (inr h) rest = later_found cluster e es (rest h)

  has_found : (cluster proc : ℕ) (es : List (Key × X)) → IsSome (lookup (same_key (Proc (job_numbered cluster proc))) es) → has_cluster cluster (keys_of es) ≡ true
  has_found cluster proc es there = by (has_cluster cluster (keys_of es)) refl
    where
      by : (b : Bool) → has_cluster cluster (keys_of es) ≡ b → b ≡ true
      by true is = refl
      by false is = let clash : false ≡ true = sym (ap is_some (none_of_cluster cluster proc es is)) ∙ there in cc

-- ---- clusters that are used
used_in_queue : (q : KeyedAds) (finished : List (Key × FinishedJob)) (cluster proc : ℕ) → IsSome (ad_at (Proc (job_numbered cluster proc)) q) → is_used q finished cluster ≡ true
used_in_queue q finished cluster proc there = by_first (has_cluster cluster (keys_of q)) (has_cluster cluster (keys_of finished)) (has_found cluster proc q there)

used_in_finished : (q : KeyedAds) (finished : List (Key × FinishedJob)) (cluster proc : ℕ) → IsSome (lookup (same_key (Proc (job_numbered cluster proc))) finished) → is_used q finished cluster ≡ true
used_in_finished q finished cluster proc there = by_second (has_cluster cluster (keys_of q)) (has_cluster cluster (keys_of finished)) (has_found cluster proc finished there)

-- a pool uses what another does, and perhaps one cluster more
record Grows (s t : PoolState) : Type 0 where
  more : List ℕ
  one : length more ≤ 1
  all : (cluster : ℕ) → is_used t.queue t.finished cluster ≡ true → IsIn cluster more ⊎ (is_used s.queue s.finished cluster ≡ true)

same_grows : (s t : PoolState) → t.queue ≡ s.queue → t.finished ≡ s.finished → Grows s t
same_grows s t queue finished = record {
  more = [];
  one = omega arith;
  all = λ cluster used. inr (subst (λ f. is_used s.queue f cluster ≡ true) finished (subst (λ q. is_used q t.finished cluster ≡ true) queue used));
}

few_then : (e : Event) (s t : PoolState) → AreFew s → Grows s t → AreFew (counts_event e s t)
few_then e s t are grows = record {
  clusters = grows.more ++ are.clusters;
  few = (let both = length-append grows.more are.clusters in let one = grows.one in let few = are.few in omega (arith, both, one, few));
  all = λ cluster used. by cluster (grows.all cluster used);
}
  where
    by : (cluster : ℕ) → IsIn cluster grows.more ⊎ (is_used s.queue s.finished cluster ≡ true) → IsIn cluster (grows.more ++ are.clusters)
    by cluster (inl h) = in_first cluster grows.more are.clusters h
    by cluster (inr h) = in_second cluster grows.more are.clusters (are.all cluster h)

-- ---- the jobs of a submission come into the queue
module _ (s t : PoolState) (q : KeyedAds) (jobs : List NewJob) (cluster count : ℕ) (named : map new_job_id jobs ≡ cluster_jobs cluster count) (brings : BringsJobs s.queue jobs q) (queue : t.queue ≡ q) (finished : t.finished ≡ s.finished) where
  jobs_use : (c : ℕ) → IsFound c q → IsIn c (cluster ∷ []) ⊎ (is_used s.queue s.finished c ≡ true)
  jobs_use c found = by (one_or_none job jobs)
    where
      job : JobId
      job = job_numbered c found.proc

      by : OneOrNone job jobs → IsIn c (cluster ∷ []) ⊎ (is_used s.queue s.finished c ≡ true)
      by (inl one) =
          let there : IsIn job (cluster_jobs cluster count) = subst (λ (l : List JobId). IsIn job l) named (subst (λ k. IsIn k (map new_job_id jobs)) (sym one.2) (in_map new_job_id one.0 jobs one.1)) in
          inl (inl (ap (λ (k : JobId). k.cluster) (in_cluster job cluster count there).1))
      by (inr none) = inr (used_in_queue s.queue s.finished c found.proc (subst (λ (o : Option Attributes). IsSome o) (brings.others job none) found.there))

  jobs_grow : Grows s t
  jobs_grow = record { more = cluster ∷ []; one = omega arith; all = λ c used. by c (subst (λ f. is_used q f c ≡ true) finished (subst (λ k. is_used k t.finished c ≡ true) queue used)) }
    where
      by_part : (c : ℕ) → (has_cluster c (keys_of q) ≡ true) ⊎ (has_cluster c (keys_of s.finished) ≡ true) → IsIn c (cluster ∷ []) ⊎ (is_used s.queue s.finished c ≡ true)
      by_part c (inl h) = jobs_use c (found_of c q h)
      by_part c (inr h) = inr (by_second (has_cluster c (keys_of s.queue)) (has_cluster c (keys_of s.finished)) h)

      by : (c : ℕ) → is_used q s.finished c ≡ true → IsIn c (cluster ∷ []) ⊎ (is_used s.queue s.finished c ≡ true)
      by c used = by_part c (either (has_cluster c (keys_of q)) (has_cluster c (keys_of s.finished)) used)

-- ---- a job's plan is done
abbrev IsOfJob : JobId → Leaver → Type 0
IsOfJob job leaver = IfSome leaver (λ e. e.0 ≡ Proc job)

of_outcome : (job : JobId) (o : Option Outcome) (ad : Attributes) → IsOfJob job (leaver_as o (Proc job) ad)
of_outcome job None ad = tt
of_outcome job (Some out) ad = refl

of_its_job : (read : List ℕ → Option ClaimId) (pl : JobPlan) (o : Option Attributes) → IsOfJob (job_of pl) (leaver_with read o pl)
of_its_job read pl None = tt
of_its_job read pl (Some ad) = of_outcome (job_of pl) (outcome_of (run_under read ad) pl) ad

of_proc : (a b : JobId) → Proc a ≡ Proc b → a ≡ b
of_proc a b h = cc

some_there : (q : KeyedAds) (job : JobId) → IsThere q job → IsSome (ad_at (Proc job) q)
some_there q job there = by (ad_at (Proc job) q) there
  where
    by : (o : Option Attributes) → IsSomeAnd o (λ ad. IsSome (kind_of ad)) → IsSome o
    by None h = absurd h
    by (Some ad) h = refl

module _ (s t : PoolState) (q : KeyedAds) (pl : JobPlan) (leaver : Leaver) (there : IsThere s.queue (job_of pl)) (elsewhere : (k : JobId) → same_job k (job_of pl) ≡ false → ad_at (Proc k) q ≡ ad_at (Proc k) s.queue)
    (of : IsOfJob (job_of pl) leaver) (queue : t.queue ≡ q) (finished : t.finished ≡ with_leaver leaver s.finished) where
  its_use : (k : JobId) → k ≡ job_of pl → is_used s.queue s.finished k.cluster ≡ true
  its_use k same = used_in_queue s.queue s.finished k.cluster k.proc (subst (λ x. IsSome (ad_at (Proc x) s.queue)) (sym same) (some_there s.queue (job_of pl) there))

  queue_use : (c : ℕ) → IsFound c q → is_used s.queue s.finished c ≡ true
  queue_use c found = by (same_job (job_numbered c found.proc) (job_of pl)) refl
    where
      by : (b : Bool) → same_job (job_numbered c found.proc) (job_of pl) ≡ b → is_used s.queue s.finished c ≡ true
      by true is = its_use (job_numbered c found.proc) (same_job-true (job_numbered c found.proc) (job_of pl) is)
      by false is = used_in_queue s.queue s.finished c found.proc (subst (λ (o : Option Attributes). IsSome o) (elsewhere (job_numbered c found.proc) is) found.there)

  finished_use : (l : Leaver) → IsOfJob (job_of pl) l → (c : ℕ) → IsFound c (with_leaver l s.finished) → is_used s.queue s.finished c ≡ true
  finished_use None is c found = used_in_finished s.queue s.finished c found.proc found.there
  finished_use (Some e) is c found = by (same_key e.0 (Proc k)) refl (subst (λ (o : Option FinishedJob). IsSome o) (lookup-insert_entry key_cmp_total (Proc k) e.0 e.1 s.finished) found.there)
    where
      k : JobId
      k = job_numbered c found.proc

      by : (b : Bool) → same_key e.0 (Proc k) ≡ b → IsSome (cond b (Some e.1) (lookup (same_key (Proc k)) s.finished)) → is_used s.queue s.finished c ≡ true
      by true same h = its_use k (of_proc k (job_of pl) (sym (same_keys e.0 (Proc k) same) ∙ is))
      by false same h = used_in_finished s.queue s.finished c found.proc h

  plan_grows : Grows s t
  plan_grows = record { more = []; one = omega arith; all = λ c used. inr (by c (subst (λ f. is_used q f c ≡ true) finished (subst (λ k. is_used k t.finished c ≡ true) queue used))) }
    where
      by_part : (c : ℕ) → (has_cluster c (keys_of q) ≡ true) ⊎ (has_cluster c (keys_of (with_leaver leaver s.finished)) ≡ true) → is_used s.queue s.finished c ≡ true
      by_part c (inl h) = queue_use c (found_of c q h)
      by_part c (inr h) = finished_use leaver of c (found_of c (with_leaver leaver s.finished) h)

      by : (c : ℕ) → is_used q (with_leaver leaver s.finished) c ≡ true → is_used s.queue s.finished c ≡ true
      by c used = by_part c (either (has_cluster c (keys_of q)) (has_cluster c (keys_of (with_leaver leaver s.finished))) used)

-- ---- what was unfinished is logged
module _ (read : List ℕ → Option ClaimId) (reads : IsReader read) (p : Protocol) (s : PoolState) (kept : IsKept p s) where
  what_grows : (tx : List Operation) (what : Unfinished) (q : KeyedAds) (t : PoolState) → awaited_of s.pending ≡ Some (awaited_by tx what) → IsTxOf what tx → queue_after s.queue tx ≡ Ok q
      → t.queue ≡ q → t.finished ≡ with_leaver (leaver_of read s.queue what) s.finished → Grows s t
  what_grows tx (Submission cluster count) q t awaited of h queue finished =
      let w : AwaitsJobs p (parts_of s) (cluster_jobs cluster count) tx = subst (λ (o : Option Awaited). Awaits p (parts_of s) o) awaited kept.linked.awaited in
      jobs_grow s t q w.jobs cluster count w.named (w.brings q h) queue finished
  what_grows tx (Plan pl) q t awaited of h queue finished =
      let w : AwaitsPlan p (parts_of s) pl = subst (λ (o : Option Awaited). Awaits p (parts_of s) o) awaited kept.linked.awaited in
      plan_grows s t q pl (leaver_of read s.queue (Plan pl)) (plan_there s.queue s.schedd.left pl w.fitting)
      (λ k far. ad_elsewhere s.queue q pl k w.lost.fits.queue.keys (subst (λ (ops : List Operation). queue_after s.queue ops ≡ Ok q) of h) far)
      (of_its_job read pl (ad_at (Proc (job_of pl)) s.queue)) queue finished

  unfinished_queue : (q : KeyedAds) (what : Unfinished) → (after_unfinished q (leaver_of read s.queue what) what s).queue ≡ q
  unfinished_queue q (Submission cluster count) = refl
  unfinished_queue q (Plan pl) = refl

  unfinished_finished : (q : KeyedAds) (what : Unfinished) → (after_unfinished q (leaver_of read s.queue what) what s).finished ≡ with_leaver (leaver_of read s.queue what) s.finished
  unfinished_finished q (Submission cluster count) = refl
  unfinished_finished q (Plan pl) = refl

  logged_grows : (o : Option Pending) (t : PoolState) (r : Stepped) → s.pending ≡ o → IsPendingTx o → IsSomeAnd o (λ x. IsLogged s x t r) → Grows s t
  logged_grows None t r is tx does = absurd does
  logged_grows (Some x) t r is tx does =
      what_grows x.tx x.what does.queue t (ap awaited_of is) tx does.done
      (ap (λ (u : PoolState). u.queue) (does.pool read reads) ∙ unfinished_queue does.queue x.what)
      (ap (λ (u : PoolState). u.finished) (does.pool read reads) ∙ unfinished_finished does.queue x.what)

  with_grows : (o : Option Pending) (t : PoolState) (reading : ℕ) → s.pending ≡ o → IsPendingTx o → IsSomeAnd o (λ x. IsBackWith s x reading t) → Grows s t
  with_grows None t reading is tx does = absurd does
  with_grows (Some x) t reading is tx does =
      what_grows x.tx x.what does.queue t (ap awaited_of is) tx does.done
      (ap (λ (u : PoolState). u.queue) (does.pool read reads))
      (ap (λ (u : PoolState). u.finished) (does.pool read reads))

  back_grows : (kept_tx : Bool) (t : PoolState) (reading : ℕ) → ScheddIsBack s kept_tx reading t → Grows s t
  back_grows false t reading does = same_grows s t (ap (λ (u : PoolState). u.queue) does.pool) (ap (λ (u : PoolState). u.finished) does.pool)
  back_grows true t reading does = with_grows s.pending t reading refl kept.pending does

-- ---- all other events leave the queue, and the jobs that have left it
abbrev Leaves : PoolState → PoolState → Type 0
Leaves s t = (t.queue ≡ s.queue) × (t.finished ≡ s.finished)

leaves_by : (s t u : PoolState) → t ≡ u → Leaves s u → Leaves s t
leaves_by s t u is leaves = (ap (λ (x : PoolState). x.queue) is ∙ leaves.0, ap (λ (x : PoolState). x.finished) is ∙ leaves.1)

given_leaves : (s : PoolState) (o : Option ℕ) (v : Verb) (job : JobId) → Leaves s (gives o v job s)
given_leaves s None v job = (refl, refl)
given_leaves s (Some place) v job = (refl, refl)

startd_leaves : (s t : PoolState) (r : Stepped) (machine : ℕ) (o : Option StartdValue) (does : StartdValue → After) (ends : StartdValue → List EndReport) → IsSomeAnd o (λ v. IsStartdStep machine (does v) (ends v) s t r) → Leaves s t
startd_leaves s t r machine None does ends h = absurd h
startd_leaves s t r machine (Some v) does ends h = leaves_by s t _ h.pool (refl, refl)

mailed_leaves : (s t : PoolState) (r : Stepped) (machine index : ℕ) (o : Option StartdValue) (does : StartdValue → After) → IsSomeAnd o (λ v. IsReceivedStep machine index (does v) s t r) → Leaves s t
mailed_leaves s t r machine index None does h = absurd h
mailed_leaves s t r machine index (Some v) does h = leaves_by s t _ h.pool (refl, refl)

received_leaves : (who : Daemon) (index reading : ℕ) (judged : Option Judgement) (s t : PoolState) (r : Stepped) (o : Option Sent) → IsSomeAnd o (λ sent. Receives who index sent.mail reading judged s t r) → Leaves s t
received_leaves who index reading judged s t r None h = absurd h
received_leaves Schedd index reading judged s t r (Some sent) h = leaves_by s t _ h.pool (refl, refl)
received_leaves (Startd machine) index reading judged s t r (Some sent) h = mailed_leaves s t r machine index (slice_get s.machines machine) (λ v. after_mail v sent.mail judged reading) h
received_leaves Matchmaker index reading judged s t r (Some sent) h = leaves_by s t _ h.0 (refl, refl)

ticked_leaves : (who : Daemon) (reading : ℕ) (s t : PoolState) (r : Stepped) → Ticks who reading s t r → Leaves s t
ticked_leaves Schedd reading s t r h = leaves_by s t _ h.pool (refl, refl)
ticked_leaves (Startd machine) reading s t r h = startd_leaves s t r machine (slice_get s.machines machine) (λ v. after_tick v reading) (λ v. []) h
ticked_leaves Matchmaker reading s t r h = leaves_by s t s h.0 (refl, refl)

grows_on : (s b t : PoolState) → Leaves b t → Grows s b → Grows s t
grows_on s b t leaves grows = record {
  more = grows.more;
  one = grows.one;
  all = λ c used. grows.all c (subst (λ f. is_used b.queue f c ≡ true) leaves.1 (subst (λ q. is_used q t.finished c ≡ true) leaves.0 used));
}

-- ---- each event
module _ (read : List ℕ → Option ClaimId) (reads : IsReader read) (p : Protocol) (s : PoolState) (kept : IsKept p s) where
  left : (t : PoolState) → Leaves s t → Grows s t
  left t leaves = same_grows s t leaves.0 leaves.1

  back_again : (who : Daemon) (kept_tx : Bool) (reading : ℕ) (b : PoolState) (r : Stepped) → ComesBack who kept_tx reading s b r → Grows s b
  back_again Schedd kept_tx reading b r h = back_grows read reads p s kept kept_tx b reading h.0
  back_again (Startd machine) kept_tx reading b r h = left b (startd_leaves s b r machine (slice_get s.machines machine) (λ v. after_reboot v reading) (λ v. []) h)
  back_again Matchmaker kept_tx reading b r h = left b (leaves_by s b s h.0 (refl, refl))

  event_grows : (e : Event) (t : PoolState) (r : Stepped) → Happens e s t r → Grows s t
  unfolding Happens
  event_grows (event.Submit boot jobs reading) t r h = left t (leaves_by s t _ h.pool (refl, refl))
  event_grows (event.Order v job reading) t r h = left t (leaves_by s t (gives (position (is_due_for v job reading) s.orders) v job s) h.0 (given_leaves s (position (is_due_for v job reading) s.orders) v job))
  event_grows (event.Receive who boot index reading judged mismatch) t r h = left t (received_leaves who index reading judged s t r (slice_get s.mails.sent index) h)
  event_grows (event.Tick who boot reading) t r h = left t (ticked_leaves who reading s t r h)
  event_grows (event.Check boot job reading) t r h = left t (leaves_by s t _ h.pool (refl, refl))
  event_grows (event.Logged boot receipt) t r h = logged_grows read reads p s kept s.pending t r refl kept.pending h
  event_grows (event.Ended machine boot receipt reading) t r h = left t
      (startd_leaves s t r machine (slice_get s.machines machine) (λ v. after_end v receipt.item reading) (λ v. ends_after receipt.item.run v (after_end v receipt.item reading)) h)
  event_grows (event.Crash who) t r h = left t (leaves_by s t (crashes who s) h.0 (refl, refl))
  event_grows (event.Reopen who kept_tx ended reading) t r h = grows_on s h.back t (leaves_by h.back t _ h.pool (refl, refl)) (back_again who (is_some kept_tx) reading h.back r h.comes)
  event_grows (event.Matches list judged reading) t r h = left t (leaves_by s t _ h.pool (refl, refl))
  event_grows (event.Close length reading mismatch) t r h = left t (leaves_by s t _ h.0 (refl, refl))

-- what an event brings is counted, and not seen here
brought_kept : (p : Protocol) (e : Event) (s : PoolState) → IsKept p s → IsKept p (counts_brought e s)
brought_kept p e s kept = record {
  linked = kept.linked;
  pending = kept.pending;
  addressed = kept.addressed;
  passed = kept.passed;
  boots = kept.boots;
}

pub event_few : (read : List ℕ → Option ClaimId) → IsReader read → (p : Protocol) (s new : PoolState) (e : Event) (r : Stepped) → IsKept p s → AreFew s → Reacts s e r new → AreFew new
event_few read reads p s new e r kept few reacts =
    let grows : Grows (counts_brought e s) reacts.then_pool = event_grows read reads p (counts_brought e s) (brought_kept p e s kept) e reacts.then_pool r reacts.happens in
    subst (λ (x : PoolState). AreFew x) (sym reacts.pool)
    (few_then e s reacts.then_pool few (record { more = grows.more; one = grows.one; all = grows.all }))

-- ---- the opening
any_in : (cluster : ℕ) (keys : List Key) → has_cluster cluster keys ≡ true → IsIn cluster (map cluster_of keys)
any_in cluster [] has = cc
any_in cluster (Header ∷ keys) has = inr (any_in cluster keys has)
any_in cluster (Proc job ∷ keys) has = by (either (job.cluster == cluster) (has_cluster cluster keys) has) (λ h. any_in cluster keys h)
  where
    by : ((job.cluster == cluster) ≡ true) ⊎ (has_cluster cluster keys ≡ true) → (has_cluster cluster keys ≡ true → IsIn cluster (map cluster_of keys)) → IsIn cluster (map cluster_of (Proc job ∷ keys))
    by (inl h) rest = inl (sym (eqb-true job.cluster cluster h))
    by (inr h) rest = inr (rest h)

-- a byte for each key
as_long : (q : KeyedAds) → length (map cluster_of (keys_of q)) ≤ queue_count q
as_long [] = omega arith
as_long (e ∷ q) = let rest = as_long q in omega (arith, rest)

pub opening_few : (o : Opening) (s : PoolState) → CanOpen o → IsOpenedBy o s → AreFew s
opening_few o s can opened = record {
  clusters = map cluster_of (keys_of s.queue);
  few = (let long = as_long s.queue in let bytes = can.bytes in let same = ap queue_count opened.queue in omega (arith, long, bytes, same));
  all = λ cluster used. by cluster (either (has_cluster cluster (keys_of s.queue)) (has_cluster cluster (keys_of s.finished)) used);
}
  where
    by : (cluster : ℕ) → (has_cluster cluster (keys_of s.queue) ≡ true) ⊎ (has_cluster cluster (keys_of s.finished) ≡ true) → IsIn cluster (map cluster_of (keys_of s.queue))
    by cluster (inl h) = any_in cluster (keys_of s.queue) h
    by cluster (inr h) = let clash : false ≡ true = sym (ap (λ f. has_cluster cluster (keys_of f)) opened.finished) ∙ h in cc
