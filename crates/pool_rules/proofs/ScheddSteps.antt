-- Which steps the schedd makes of mails and looks, and of what is logged.
use Rattle.std.proofs.Common.{◌≡◌, inl, inr, ℕ, Bool, true, false, List, [], ◌∷◌, map, Option, Some, None, is_some, if◌then◌else◌, refl, sym, ap, subst}
use Rattle.std.proofs.lemmas.Option.{none-some, same_Some}
use Rattle.ad_tree.specs.Ad.{Attributes}
use Rattle.claim_id.specs.declared.numbers.JobId.{JobId}
use Rattle.claim_id.specs.declared.numbers.RunNo.{RunNo}
use Rattle.pool_rules.specs.Linked.{AwaitsJobs, AwaitsPlan}
use Rattle.pool_rules.specs.PoolParts.{PoolParts}
use Rattle.pool_rules.specs.ScheddEvents.{late_order, moves_of_schedd_mail}
use Rattle.pool_mail.specs.declared.mail.Mail.{Mail}
use Rattle.pool_mail.specs.declared.mail.Mail.TheVariants as mail
use Rattle.pool_parts.specs.Plans.{ordered_job}
use Rattle.pool_view.specs.Protocol.{Change, NewJob, Protocol, change_steps, pending_steps, queue_step}
use Rattle.pool_view.specs.ProtocolMove.{ProtocolMove, Commit, TakeOrder, all_steps, confirm_move, protocol_after}
use Rattle.pool_view.specs.AbstractPool.{IsIn}
use Rattle.pool_view.specs.AbstractStep.{AbstractStep, Acknowledge, Order}
use Rattle.pool_view.specs.declared.job.Entry.{Entry}
use Rattle.pool_view.specs.declared.job.State.{State}
use Rattle.pool_view.specs.declared.job.State.TheVariants as state
use Rattle.queue_tx.specs.Operations.{Operation}
use Rattle.queue_tx.specs.declared.key.Key.TheVariants.{Proc}
use Rattle.queue_tx.specs.Queues.{KeyedAds, ad_at}
use Rattle.schedd_core.specs.Logging.{numbered, run_of_job}
use Rattle.schedd_core.specs.PlanChanges.{Jobs, change_at, change_by, lease_moves, moves_of_logged, moves_of_mail, moves_of_order, pends, told_leases}
use Rattle.schedd_core.specs.Rows.{after_mail, after_row, mail_row}
use Rattle.schedd_state.specs.Schedds.{ScheddValue}
use Rattle.schedd_plan.specs.JobPlaces.{job_place}
use Rattle.schedd_plan.specs.MailTable.{order_row}
use Rattle.schedd_plan.specs.OrderTable.{remove_plan}
use Rattle.schedd_plan.specs.declared.places.JobPlace.{JobPlace}
use Rattle.schedd_plan.specs.declared.places.JobPlace.TheVariants as place
use Rattle.schedd_plan.specs.declared.plan.JobPlan.{JobPlan}
use Rattle.schedd_plan.specs.declared.plan.JobPlan.TheVariants as plan
use Rattle.schedd_plan.specs.Plans.{job_of}
use Rattle.pool_rules.specs.Logging.{cluster_jobs}
use Rattle.pool_parts.specs.declared.pending.Unfinished.TheVariants.{Submission}
use Rattle.pool_rules.specs.Linked.{new_job_id}
use Rattle.pool_rules.specs.Steps.{AreSteps, IsAcknowledgeStep, IsOrderStep, IsPlanStep, IsQueueStep}
use Rattle.pool_rules.proofs.ScheddLists.{in_map}
use Rattle.pool_rules.proofs.StepKinds.{MakeSteps, both_steps, confirms_make, step_before, make_append, no_steps}

-- ---- what may be planned
-- an order is of its own job
mail_removes : (v : ScheddValue) (q : KeyedAds) (job other : JobId) (reading : ℕ) → ordered_job (after_mail v q (mail.Remove job) reading).step.plan ≡ Some other → job ≡ other
unfolding after_row mail_row
mail_removes v q job other reading = by (job_place q v.left job)
  where
    by : (at : JobPlace) → ordered_job (after_row v q (order_row (remove_plan at job)) reading).step.plan ≡ Some other → job ≡ other
    by place.Nowhere is = absurd (none-some other is)
    by place.Idle is = same_Some job other is
    by place.Held is = same_Some job other is
    by (place.Left status) is = same_Some job other is
    by (place.Under status) is = same_Some job other is

module _ (P : AbstractStep → Type 0) where
  -- what waits to be logged makes no step yet
  pub pends_make : (jobs : Jobs) (o : Option JobPlan) → MakeSteps P (pends jobs o)
  pends_make jobs None p = no_steps P
  pends_make jobs (Some pl) p = no_steps P

  pub order_makes : (jobs : Jobs) (o : Option JobPlan) → ((job : JobId) → ordered_job o ≡ Some job → P (Order job)) → MakeSteps P (moves_of_order jobs o)
  order_makes jobs None each p = no_steps P
  order_makes jobs (Some (plan.Remove job)) each p = step_before P (Order job) [] (each job refl) (no_steps P)
  order_makes jobs (Some (plan.MarkRemoved job)) each p = step_before P (Order job) [] (each job refl) (no_steps P)
  order_makes jobs (Some (plan.PutIdle job)) each p = no_steps P
  order_makes jobs (Some (plan.PutHeld job reason)) each p = no_steps P
  order_makes jobs (Some (plan.Complete job completion)) each p = no_steps P
  order_makes jobs (Some (plan.MarkHeld job reason)) each p = no_steps P
  order_makes jobs (Some (plan.MarkRunning job)) each p = no_steps P
  order_makes jobs (Some (plan.Lengthen job until)) each p = no_steps P
  order_makes jobs (Some (plan.Grant job claim number until header)) each p = no_steps P

  late_makes : (job : JobId) (late : Bool) → P (Order job) → MakeSteps P (map TakeOrder (if late then job ∷ [] else []))
  late_makes job true its p = step_before P (Order job) [] its (no_steps P)
  late_makes job false its p = no_steps P

  pub schedd_mail_makes : (jobs : Jobs) (a : PoolParts) (m : Mail) (reading : ℕ) → ((k : AbstractStep) → IsOrderStep m k → P k) → MakeSteps P (moves_of_schedd_mail jobs a m reading)
  schedd_mail_makes jobs a (mail.Remove job) reading each =
      make_append P (map TakeOrder (late_order a.finished (mail.Remove job))) (moves_of_mail jobs a.schedd a.queue (mail.Remove job) reading)
      (late_makes job (is_some (a.finished job)) (each (Order job) refl))
      (order_makes jobs (after_mail a.schedd a.queue (mail.Remove job) reading).step.plan (λ other is. each (Order other) (ap (λ j. Order j) (sym (mail_removes a.schedd a.queue job other reading is)))))
  schedd_mail_makes jobs a (mail.Update slot) reading each = pends_make jobs _
  schedd_mail_makes jobs a (mail.Matched found) reading each = pends_make jobs _
  schedd_mail_makes jobs a (mail.Ask claim job ad by_priority) reading each = pends_make jobs _
  schedd_mail_makes jobs a (mail.Granted claim job) reading each = pends_make jobs _
  schedd_mail_makes jobs a (mail.Denied claim run job why) reading each = pends_make jobs _
  schedd_mail_makes jobs a (mail.Activate run job ad until) reading each = pends_make jobs _
  schedd_mail_makes jobs a (mail.Alive run until) reading each = pends_make jobs _
  schedd_mail_makes jobs a (mail.Seen run until) reading each = pends_make jobs _
  schedd_mail_makes jobs a (mail.Stop run) reading each = pends_make jobs _
  schedd_mail_makes jobs a (mail.Release claim) reading each = pends_make jobs _
  schedd_mail_makes jobs a (mail.Gone run kept) reading each = pends_make jobs _
  schedd_mail_makes jobs a (mail.Ended run how) reading each = pends_make jobs _
  schedd_mail_makes jobs a (mail.Hold job) reading each = pends_make jobs _
  schedd_mail_makes jobs a (mail.Resume job) reading each = pends_make jobs _

-- ---- the jobs of a submission
named_in : (p : Protocol) (a : PoolParts) (cluster count : ℕ) (tx : List Operation) (w : AwaitsJobs p a (cluster_jobs cluster count) tx) (j : NewJob) → IsIn j w.jobs → IsIn j.job (cluster_jobs cluster count)
named_in p a cluster count tx w j there = subst (λ (l : List JobId). IsIn j.job l) w.named (in_map new_job_id j w.jobs there)

-- ---- the change that a plan is
module _ (P : AbstractStep → Type 0) where
  one_step : (k : AbstractStep) → P k → AreSteps P (k ∷ [])
  one_step k is = step_before P k [] is (no_steps P)

  steps_at : (s : State) (pl : JobPlan) → ((k : AbstractStep) → IsPlanStep pl k → P k) → AreSteps P (change_steps (change_at s pl))
  steps_at state.Idle (plan.PutIdle job) each = one_step _ (each _ (inl refl))
  steps_at state.Held (plan.PutIdle job) each = one_step _ (each _ (inr refl))
  steps_at (state.Under run end) (plan.PutIdle job) each = one_step _ (each _ (inl refl))
  steps_at state.Left (plan.PutIdle job) each = one_step _ (each _ (inl refl))
  steps_at (state.Done outcome) (plan.PutIdle job) each = one_step _ (each _ (inl refl))
  steps_at state.Idle (plan.PutHeld job reason) each = one_step _ (each _ (inr refl))
  steps_at state.Held (plan.PutHeld job reason) each = one_step _ (each _ (inl refl))
  steps_at (state.Under run end) (plan.PutHeld job reason) each = one_step _ (each _ (inl refl))
  steps_at state.Left (plan.PutHeld job reason) each = one_step _ (each _ (inl refl))
  steps_at (state.Done outcome) (plan.PutHeld job reason) each = one_step _ (each _ (inl refl))
  steps_at state.Idle (plan.Complete job completion) each = no_steps P
  steps_at state.Held (plan.Complete job completion) each = no_steps P
  steps_at (state.Under run end) (plan.Complete job completion) each = one_step _ (each _ (run, refl))
  steps_at state.Left (plan.Complete job completion) each = no_steps P
  steps_at (state.Done outcome) (plan.Complete job completion) each = no_steps P
  steps_at s (plan.Remove job) each = one_step _ (each _ refl)
  steps_at s (plan.MarkRemoved job) each = no_steps P
  steps_at s (plan.MarkHeld job reason) each = no_steps P
  steps_at s (plan.MarkRunning job) each = no_steps P
  steps_at s (plan.Lengthen job until) each = one_step _ (each _ refl)
  steps_at s (plan.Grant job claim number until header) each = one_step _ (each _ refl)

  steps_by : (o : Option Entry) (pl : JobPlan) → ((k : AbstractStep) → IsPlanStep pl k → P k) → AreSteps P (change_steps (change_by o pl))
  steps_by None pl each = no_steps P
  steps_by (Some e) pl each = steps_at e.state pl each

  new_jobs_steps : (jobs : List NewJob) → ((j : NewJob) → IsIn j jobs → P (queue_step j)) → AreSteps P (map queue_step jobs)
  new_jobs_steps [] each = no_steps P
  new_jobs_steps (j ∷ js) each = step_before P (queue_step j) (map queue_step js) (each j (inl refl)) (new_jobs_steps js (λ i there. each i (inr there)))

  -- ---- what waits, once it is logged
  pub plan_steps : (p : Protocol) (a : PoolParts) (pl : JobPlan) → ((k : AbstractStep) → IsPlanStep pl k → P k) → AwaitsPlan p a pl → AreSteps P (pending_steps p.pending)
  plan_steps p a pl each w = subst (λ (o : Option Change). AreSteps P (pending_steps o)) (sym w.change) (steps_by (p.pool.jobs (job_of pl)) pl each)

  -- the jobs of a cluster come into the queue
  pub jobs_steps : (p : Protocol) (a : PoolParts) (cluster count : ℕ) (tx : List Operation) → ((k : AbstractStep) → IsQueueStep (Submission cluster count) k → P k) → AwaitsJobs p a (cluster_jobs cluster count) tx → AreSteps P (pending_steps p.pending)
  jobs_steps p a cluster count tx each w = subst (λ (o : Option Change). AreSteps P (pending_steps o)) (sym w.change)
      (new_jobs_steps w.jobs (λ j there. each (queue_step j) (named_in p a cluster count tx w j there)))

  -- a lease that is told is no step
  lease_makes : (o : Option RunNo) (ad : Option Attributes) (job : JobId) (until : ℕ) → MakeSteps P (lease_moves o ad job until)
  lease_makes None ad job until p = no_steps P
  lease_makes (Some run) None job until p = no_steps P
  lease_makes (Some run) (Some ad) job until p = no_steps P

  leases_make : (v : ScheddValue) (q : KeyedAds) (pl : JobPlan) → MakeSteps P (told_leases v q pl)
  unfolding told_leases
  leases_make v q (plan.Lengthen job until) = lease_makes (run_of_job v.runs job) (ad_at (Proc job) q) job until
  leases_make v q (plan.Grant job claim number until header) = lease_makes (Some (numbered claim number)) (ad_at (Proc job) q) job until
  leases_make v q (plan.PutIdle job) = λ p. no_steps P
  leases_make v q (plan.PutHeld job reason) = λ p. no_steps P
  leases_make v q (plan.Complete job completion) = λ p. no_steps P
  leases_make v q (plan.Remove job) = λ p. no_steps P
  leases_make v q (plan.MarkRemoved job) = λ p. no_steps P
  leases_make v q (plan.MarkHeld job reason) = λ p. no_steps P
  leases_make v q (plan.MarkRunning job) = λ p. no_steps P

  -- it is logged first
  pub commit_first : (p : Protocol) (ms : List ProtocolMove) → AreSteps P (pending_steps p.pending) → MakeSteps P ms → AreSteps P (all_steps p (Commit ∷ ms))
  commit_first p ms are rest = both_steps P (pending_steps p.pending) (all_steps (protocol_after p Commit) ms) are (rest (protocol_after p Commit))

  pub logged_plan_steps : (p : Protocol) (a : PoolParts) (pl : JobPlan) (v : ScheddValue) (q : KeyedAds) → ((k : AbstractStep) → IsPlanStep pl k → P k) → AwaitsPlan p a pl → AreSteps P (all_steps p (moves_of_logged v q pl))
  logged_plan_steps p a pl v q each w = commit_first p (told_leases v q pl) (plan_steps p a pl each w) (leases_make v q pl)

  pub logged_jobs_steps : (p : Protocol) (a : PoolParts) (cluster count : ℕ) (tx : List Operation) → ((k : AbstractStep) → IsQueueStep (Submission cluster count) k → P k)
      → ((k : AbstractStep) → IsAcknowledgeStep (Submission cluster count) k → P k) → (w : AwaitsJobs p a (cluster_jobs cluster count) tx) → AreSteps P (all_steps p (Commit ∷ map confirm_move w.jobs))
  logged_jobs_steps p a cluster count tx each tells w = commit_first p (map confirm_move w.jobs) (jobs_steps p a cluster count tx each w)
      (confirms_make P w.jobs (λ j there. tells (Acknowledge j.job) (named_in p a cluster count tx w j there)))
