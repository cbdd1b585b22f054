-- A plan that is logged keeps the links.
use Rattle.std.proofs.Common.{◌≡◌, inl, inr, ℕ, Bool, true, false, List, Option, Some, None, refl, sym, ◌∙◌, ap, subst}
use Rattle.std.specs.Prelude.{Ok}
use Rattle.ad_tree.specs.Ad.{Attributes}
use Rattle.claim_id.specs.declared.numbers.JobId.{JobId}
use Rattle.claim_id.specs.declared.numbers.RunNo.{RunNo}
use Rattle.pool_mail.specs.declared.mail.Mail.{Mail}
use Rattle.pool_mail.specs.declared.mail.Mail.TheVariants as mail
use Rattle.pool_view.specs.AbstractPool.{IsIn, SameMembers}
use Rattle.pool_view.specs.declared.job.Entry.{Entry}
use Rattle.pool_view.specs.Facts.{Facts}
use Rattle.pool_view.specs.Protocol.{JobRun, Protocol, change_steps, pending_steps, view_after_all}
use Rattle.pool_view.specs.ProtocolMove.{ProtocolMove, Commit, MayAll, grants_with_all, protocol_after, protocol_after_all}
use Rattle.queue_tx.specs.declared.key.Key.TheVariants.{Proc}
use Rattle.queue_tx.specs.Queues.{KeyedAds, ad_at, queue_after}
use Rattle.schedd_plan.specs.declared.plan.JobPlan.{JobPlan}
use Rattle.schedd_plan.specs.declared.plan.JobPlan.TheVariants as plan
use Rattle.schedd_plan.specs.Plans.{job_of, plan_ops}
use Rattle.schedd_plan.specs.KeptRuns.{run_of}
use Rattle.schedd_core.specs.Logging.{activates, after_plan, alives, is_stopped, mails_of_plan, numbered, run_of_job, stops}
use Rattle.schedd_core.specs.PlanChanges.{change_by, lease_moves, moves_of_logged, told_leases}
use Rattle.schedd_core.specs.ScheddParts.{Fits, IsLeased, IsPart}
use Rattle.schedd_state.specs.Schedds.{ScheddValue}
use Rattle.schedd_core.proofs.LoggedMails.{logged_may, logged_part, mails_leased, run_found}
use Rattle.schedd_core.proofs.LoggedMay.{runs_are}
use Rattle.schedd_core.proofs.PlanJobs.{Shown, plan_there, shown}
use Rattle.schedd_core.proofs.PlanMay.{stands_as, under_run}
use Rattle.pool_rules.specs.Linked.{IsGranted, IsPlaced, IsBorneOut, AreBorneOut, IsFinishedAs, AwaitsPlan, IsLinked, StayLinked}
use Rattle.pool_rules.specs.PoolParts.{PoolParts}
use Rattle.pool_rules.specs.ScheddEvents.{Finishes, parts_with_plan}
use Rattle.pool_rules.proofs.Finished.{Granted, finished_after, granted_by}
use Rattle.pool_rules.proofs.Going.{GoesOn, all_good, goes_on}
use Rattle.pool_rules.proofs.ScheddKept.{AreOffSlots, KeepsSaid, commit_said, schedd_event}

-- ---- what telling a lease leaves
pub record SameButLeases (p q : Protocol) : Type 0 where
  pub pool : q.pool ≡ p.pool
  pub grants : q.grants ≡ p.grants
  pub pending : q.pending ≡ p.pending

same_as_was : (p : Protocol) → SameButLeases p p
same_as_was p = record { pool = refl; grants = refl; pending = refl }

lease_leaves : (p : Protocol) (run : Option RunNo) (ad : Option Attributes) (job : JobId) (until : ℕ) → SameButLeases p (protocol_after_all p (lease_moves run ad job until)) × AreOffSlots (lease_moves run ad job until)
lease_leaves p None ad job until = (same_as_was p, tt)
lease_leaves p (Some run) None job until = (same_as_was p, tt)
lease_leaves p (Some run) (Some ad) job until = (record { pool = refl; grants = refl; pending = refl }, (tt, tt))

told_leaves : (p : Protocol) (v : ScheddValue) (new : KeyedAds) (pl : JobPlan) → SameButLeases p (protocol_after_all p (told_leases v new pl)) × AreOffSlots (told_leases v new pl)
unfolding told_leases
told_leaves p v new (plan.PutIdle job) = (same_as_was p, tt)
told_leaves p v new (plan.PutHeld job reason) = (same_as_was p, tt)
told_leaves p v new (plan.Complete job completion) = (same_as_was p, tt)
told_leaves p v new (plan.Remove job) = (same_as_was p, tt)
told_leaves p v new (plan.MarkRemoved job) = (same_as_was p, tt)
told_leaves p v new (plan.MarkHeld job reason) = (same_as_was p, tt)
told_leaves p v new (plan.MarkRunning job) = (same_as_was p, tt)
told_leaves p v new (plan.Lengthen job until) = lease_leaves p (run_of_job v.runs job) (ad_at (Proc job) new) job until
told_leaves p v new (plan.Grant job claim number until header) = lease_leaves p (Some (numbered claim number)) (ad_at (Proc job) new) job until

-- ---- the schedd after a plan
claims_are : (pl : JobPlan) (v : ScheddValue) → (after_plan pl v).claims ≡ v.claims
unfolding after_plan
claims_are (plan.PutIdle job) v = refl
claims_are (plan.PutHeld job reason) v = refl
claims_are (plan.Complete job completion) v = refl
claims_are (plan.Remove job) v = refl
claims_are (plan.MarkRemoved job) v = refl
claims_are (plan.MarkHeld job reason) v = refl
claims_are (plan.MarkRunning job) v = refl
claims_are (plan.Lengthen job until) v = refl
claims_are (plan.Grant job claim number until header) v = refl

pub none_waits : (pl : JobPlan) (v : ScheddValue) → (after_plan pl v).waiting ≡ None
unfolding after_plan
none_waits (plan.PutIdle job) v = refl
none_waits (plan.PutHeld job reason) v = refl
none_waits (plan.Complete job completion) v = refl
none_waits (plan.Remove job) v = refl
none_waits (plan.MarkRemoved job) v = refl
none_waits (plan.MarkHeld job reason) v = refl
none_waits (plan.MarkRunning job) v = refl
none_waits (plan.Lengthen job until) v = refl
none_waits (plan.Grant job claim number until header) v = refl

-- ---- the commit of a plan
-- the grants after it are of slots of the pool
pub grants_placed : (p : Protocol) (a : PoolParts) (pl : JobPlan) → IsLinked p a → AwaitsPlan p a pl → (g : JobRun) → IsIn g (protocol_after p Commit).grants → IsPlaced p g.run.claim
grants_placed p a pl linked w g there =
    by (granted_by p its.entry.state pl p.grants g w.placed
    (subst (λ e. IsIn g (grants_with_all (change_steps (change_by e pl)) p.grants)) its.entry_is
    (subst (λ c. IsIn g (grants_with_all (pending_steps c) p.grants)) w.change there)))
  where
    its : Shown a.queue a.schedd.left p.pool.jobs (job_of pl)
    its = shown a.queue a.schedd.left p.pool.jobs (job_of pl) linked.schedd.jobs (plan_there a.queue a.schedd.left pl w.fitting)

    by : Granted p g p.grants → IsPlaced p g.run.claim
    by (inl was) = linked.granted g was
    by (inr placed) = placed

-- the jobs that have left the queue then
pub finished_then : (p : Protocol) (a : PoolParts) (pl : JobPlan) (new : KeyedAds) (fin : JobId → Option Entry) → IsLinked p a → AwaitsPlan p a pl → queue_after a.queue (plan_ops pl) ≡ Ok new → Finishes pl a.queue a.finished fin
    → (job : JobId) → IsFinishedAs (ad_at (Proc job) new) (fin job) ((protocol_after p Commit).pool.jobs job)
finished_then p a pl new fin linked w h f job =
    subst (λ c. IsFinishedAs (ad_at (Proc job) new) (fin job) ((view_after_all p.pool (pending_steps c)).jobs job)) (sym w.change)
    (finished_after p.pool a.queue new a.schedd.left a.finished fin w.lost.fits.queue linked.schedd.jobs linked.finished pl w.fitting f h job)

pub said_then : (p : Protocol) (a : PoolParts) → IsLinked p a → KeepsSaid p.pool (protocol_after p Commit).pool
said_then p a linked = commit_said p.pool p.pending linked.facts.pending

-- ---- logged
module _ (p : Protocol) (a : PoolParts) (pl : JobPlan) (new : KeyedAds) (fin : JobId → Option Entry) (linked : IsLinked p a) (w : AwaitsPlan p a pl) (h : queue_after a.queue (plan_ops pl) ≡ Ok new) (f : Finishes pl a.queue a.finished fin) where
  abbrev pub ms : List ProtocolMove
  ms = moves_of_logged a.schedd new pl

  abbrev pub q : Protocol
  q = protocol_after_all p ms

  fits_then : Fits new (after_plan pl a.schedd)
  fits_then = w.fits new h

  may : MayAll p ms
  may = logged_may p a.queue new a.schedd pl linked.schedd w.lost.fits.queue w.fitting h fits_then linked.facts w.change

  part : IsPart q new (after_plan pl a.schedd)
  part = logged_part p a.queue new a.schedd pl linked.schedd w.lost.fits.queue w.fitting h fits_then linked.facts w.change

  on : GoesOn p q
  on = goes_on p ms may linked.facts linked.safe

  facts : Facts q
  facts = (all_good p ms may linked.facts linked.safe).0

  told : SameButLeases (protocol_after p Commit) q × AreOffSlots (told_leases a.schedd new pl)
  told = told_leaves (protocol_after p Commit) a.schedd new pl

  said : KeepsSaid p.pool (protocol_after p Commit).pool
  said = said_then p a linked

  -- a run that is told to stop was granted
  stop_granted : (job : JobId) (run : RunNo) → run_of_job a.schedd.runs job ≡ Some run → IsGranted q run
  stop_granted job run is =
      let found = run_found a.schedd.runs job run is in
      let u = under_run q new (after_plan pl a.schedd) part found.kept (fits_then.each found.kept (subst (IsIn found.kept) (sym (runs_are pl a.schedd)) found.there)) in
      subst (IsGranted q) found.run_is (found.kept.job, facts.numbers.of_jobs found.kept.job (run_of found.kept) u.end (stands_as q new (after_plan pl a.schedd) part found.kept u))

  stops_borne : (o : Option RunNo) → ((run : RunNo) → o ≡ Some run → IsGranted q run) → AreBorneOut q (stops o)
  stops_borne None granted m there = absurd there
  stops_borne (Some run) granted m (inl same) = subst (IsBorneOut q) (sym same) (granted run refl)
  stops_borne (Some run) granted m (inr there) = absurd there

  alives_borne : (o : Option RunNo) (stopped : Bool) (until : ℕ) → ((run : RunNo) → o ≡ Some run → IsGranted q run) → ((m : Mail) → IsIn m (alives o stopped until) → IsLeased q m) → AreBorneOut q (alives o stopped until)
  alives_borne None stopped until granted leased m there = absurd there
  alives_borne (Some run) stopped until granted leased m (inl same) = subst (IsBorneOut q) (sym same) (leased (mail.Alive run until) (inl refl))
  alives_borne (Some run) true until granted leased m (inr (inl same)) = subst (IsBorneOut q) (sym same) (granted run refl)
  alives_borne (Some run) true until granted leased m (inr (inr there)) = absurd there
  alives_borne (Some run) false until granted leased m (inr there) = absurd there

  activates_borne : (o : Option Attributes) (run : RunNo) (job : JobId) (until : ℕ) → ((m : Mail) → IsIn m (activates o run job until) → IsLeased q m) → AreBorneOut q (activates o run job until)
  activates_borne None run job until leased m there = absurd there
  activates_borne (Some ad) run job until leased m (inl same) = subst (IsBorneOut q) (sym same) (leased _ (inl refl))
  activates_borne (Some ad) run job until leased m (inr there) = absurd there

  sent_borne : (x : JobPlan) → ((m : Mail) → IsIn m (mails_of_plan a.schedd new x) → IsLeased q m) → AreBorneOut q (mails_of_plan a.schedd new x)
  unfolding mails_of_plan
  sent_borne (plan.PutIdle job) leased m there = absurd there
  sent_borne (plan.PutHeld job reason) leased m there = absurd there
  sent_borne (plan.Complete job completion) leased m there = absurd there
  sent_borne (plan.Remove job) leased m there = absurd there
  sent_borne (plan.MarkRemoved job) leased m there = stops_borne (run_of_job a.schedd.runs job) (stop_granted job) m there
  sent_borne (plan.MarkHeld job reason) leased m there = stops_borne (run_of_job a.schedd.runs job) (stop_granted job) m there
  sent_borne (plan.MarkRunning job) leased m there = absurd there
  sent_borne (plan.Lengthen job until) leased m there = alives_borne (run_of_job a.schedd.runs job) (is_stopped new job) until (stop_granted job) leased m there
  sent_borne (plan.Grant job claim number until header) leased m there = activates_borne (ad_at (Proc job) new) (numbered claim number) job until leased m there

  pub plan_logged : StayLinked p ms (parts_with_plan pl new fin a)
  plan_logged = schedd_event p a (parts_with_plan pl new fin a) ms linked may (tt, told.1) refl (record {
    moment = ap (λ v. v.moment) told.0.pool ∙ (said.moment ∙ linked.moment);
    acked = subst (λ xs. SameMembers xs a.acked) (sym (ap (λ v. v.acked) told.0.pool ∙ said.acked)) linked.acked;
    ordered = subst (λ xs. SameMembers xs a.ordered) (sym (ap (λ v. v.ordered) told.0.pool ∙ said.ordered)) linked.ordered;
    reports = subst (λ xs. SameMembers xs a.reports) (sym (ap (λ v. v.reports) told.0.pool ∙ said.reports)) linked.reports;
    schedd = part;
    finished = λ job. subst (λ v. IsFinishedAs (ad_at (Proc job) new) (fin job) (v.jobs job)) (sym told.0.pool) (finished_then p a pl new fin linked w h f job);
    sent = mails_of_plan a.schedd new pl;
    mails = refl;
    borne = sent_borne pl (mails_leased p a.queue new a.schedd pl linked.schedd w.lost.fits.queue w.fitting h fits_then linked.facts w.change pl refl);
    claims = λ c there. on.placed c.claim.no.slot (linked.claims c (subst (IsIn c) (claims_are pl a.schedd) there));
    granted = λ g there. on.placed g.run.claim.slot (grants_placed p a pl linked w g (subst (IsIn g) told.0.grants there));
    awaited = record { change = told.0.pending; waiting = none_waits pl a.schedd; fits = fits_then };
  })
