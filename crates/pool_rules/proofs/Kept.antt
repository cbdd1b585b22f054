-- Links that moves of startds keep.
use Rattle.std.proofs.Common.{◌≡◌, ◌≢◌, ◌⊎◌, inl, inr, ℕ, List, [], ◌∷◌, ◌++◌, map, Option, Some, None, slice_get, refl, sym, ◌∙◌, ap, subst}
use Rattle.pool_mail.specs.declared.mail.Mail.{Mail}
use Rattle.pool_view.specs.AbstractPool.{IsIn, SameMembers}
use Rattle.pool_view.specs.declared.run.EndReport.{EndReport}
use Rattle.queue_tx.specs.declared.key.Key.TheVariants.{Proc}
use Rattle.queue_tx.specs.Queues.{ad_at}
use Rattle.schedd_plan.specs.declared.plan.JobPlan.{JobPlan}
use Rattle.schedd_plan.specs.declared.plan.JobPlan.TheVariants as plan
use Rattle.schedd_core.specs.JobStates.{ShowsJobs}
use Rattle.schedd_core.specs.PlanChanges.{change_of}
use Rattle.schedd_core.specs.ScheddParts.{IsPart}
use Rattle.pool_view.specs.Facts.{Facts}
use Rattle.pool_view.specs.Protocol.{Protocol}
use Rattle.pool_view.specs.Safe.{Safe}
use Rattle.pool_view.specs.ProtocolMove.{ProtocolMove, MayAll, protocol_after_all}
use Rattle.pool_view.specs.SlotPart.{HasParts, part_after_all}
use Rattle.pool_view.proofs.Whole.{parts_on_all}
use Rattle.startd_core.specs.Sound.{IsSound}
use Rattle.startd_core.specs.Startds.{After, StartdValue}
use Rattle.pool_rules.specs.Linked.{AreBorneOut, AreEndsReported, IsFinishedAs, IsStartdAt, IsPlanPlaced, Awaits, IsLinked, StayLinked, ended_of}
use Rattle.pool_rules.specs.PoolParts.{Awaited, NewJobs, Planned, PoolParts, machine_parts, pool_parts}
use Rattle.pool_rules.specs.StartdEvents.{parts_with_startd}
use Rattle.pool_rules.proofs.Going.{GoesOn, goes_on, all_good, borne_on, reported_on}
use Rattle.pool_rules.proofs.Machines.{AreFarFrom, machine_same, pool_changed, put_cases}
use Rattle.pool_rules.proofs.Owned.{AreStartdMoves, KeepsJobs, own_moves_keep, own_moves_say, said_by_all}

-- ---- lists
pub in_both : {A : Type 0} (x : A) (xs ys : List A) → IsIn x (xs ++ ys) → IsIn x xs ⊎ IsIn x ys
in_both x [] ys there = inr there
in_both x (z ∷ zs) ys (inl same) = inl (inl same)
in_both x (z ∷ zs) ys (inr there) = later (in_both x zs ys there)
  where
    later : IsIn x zs ⊎ IsIn x ys → IsIn x (z ∷ zs) ⊎ IsIn x ys
    later (inl h) = inl (inr h)
    later (inr h) = inr h

pub in_first : {A : Type 0} (x : A) (xs ys : List A) → IsIn x xs → IsIn x (xs ++ ys)
in_first x [] ys there = absurd there
in_first x (z ∷ zs) ys (inl same) = inl same
in_first x (z ∷ zs) ys (inr there) = inr (in_first x zs ys there)

pub in_second : {A : Type 0} (x : A) (xs ys : List A) → IsIn x ys → IsIn x (xs ++ ys)
in_second x [] ys there = there
in_second x (z ∷ zs) ys there = inr (in_second x zs ys there)

pub same_with : {A : Type 0} (more xs ys : List A) → SameMembers xs ys → SameMembers (more ++ xs) (more ++ ys)
same_with {A} more xs ys same x = (λ there. to (in_both x more xs there), λ there. back (in_both x more ys there))
  where
    to : IsIn x more ⊎ IsIn x xs → IsIn x (more ++ ys)
    to (inl h) = in_first x more ys h
    to (inr h) = in_second x more ys ((same x).0 h)

    back : IsIn x more ⊎ IsIn x ys → IsIn x (more ++ xs)
    back (inl h) = in_first x more xs h
    back (inr h) = in_second x more xs ((same x).1 h)

pub mails_with : (p q : Protocol) (old new : List Mail) → GoesOn p q → AreBorneOut p old → AreBorneOut q new → AreBorneOut q (old ++ new)
mails_with p q old new on was now m there = by (in_both m old new there)
  where
    by : IsIn m old ⊎ IsIn m new → Rattle.pool_rules.specs.Linked.IsBorneOut q m
    by (inl h) = borne_on p q m on (was m h)
    by (inr h) = now m h

-- ---- what the schedd rests on
pub schedd_kept : (p q : Protocol) (a : PoolParts) → KeepsJobs p q → IsPart p a.queue a.schedd → IsPart q a.queue a.schedd
schedd_kept p q a keeps part = record {
  jobs = subst (ShowsJobs a.queue a.schedd.left) (sym keeps.jobs) part.jobs;
  next = keeps.next ∙ part.next;
  marked = λ job marked. subst (IsIn job) (sym keeps.removals) (part.marked job marked);
}

placed_plan : (p q : Protocol) (pl : JobPlan) → GoesOn p q → IsPlanPlaced p pl → IsPlanPlaced q pl
placed_plan p q (plan.Grant job claim number until header) on placed = on.placed claim.no.slot placed
placed_plan p q (plan.PutIdle job) on placed = tt
placed_plan p q (plan.PutHeld job reason) on placed = tt
placed_plan p q (plan.Complete job completion) on placed = tt
placed_plan p q (plan.Remove job) on placed = tt
placed_plan p q (plan.MarkRemoved job) on placed = tt
placed_plan p q (plan.MarkHeld job reason) on placed = tt
placed_plan p q (plan.MarkRunning job) on placed = tt
placed_plan p q (plan.Lengthen job until) on placed = tt

-- what is awaited, where the jobs and the pending change are as they were, and so are the queue and
-- the schedd
pub awaited_kept : (p q : Protocol) (a b : PoolParts) (o : Option Awaited) → q.pool.jobs ≡ p.pool.jobs → q.pending ≡ p.pending → GoesOn p q → b.queue ≡ a.queue → b.schedd ≡ a.schedd → Awaits p a o → Awaits q b o
awaited_kept p q a b None jobs pending on queue schedd w = record {
  change = pending ∙ w.change;
  waiting = ap (λ v. v.waiting) schedd ∙ w.waiting;
  fits = subst (λ k. Rattle.schedd_core.specs.ScheddParts.Fits k b.schedd) (sym queue) (subst (Rattle.schedd_core.specs.ScheddParts.Fits a.queue) (sym schedd) w.fits);
}
awaited_kept p q a b (Some (NewJobs ids tx)) jobs pending on queue schedd w = record {
  jobs = w.jobs;
  named = w.named;
  change = pending ∙ w.change;
  brings = subst (λ k. (new : Rattle.queue_tx.specs.Queues.KeyedAds) → Rattle.queue_tx.specs.Queues.queue_after k tx ≡ Rattle.std.specs.Prelude.Ok new → Rattle.pool_rules.specs.Linked.BringsJobs k w.jobs new) (sym queue) w.brings;
  idle = ap (λ v. v.waiting) schedd ∙ w.idle;
  fits = subst (λ k. Rattle.schedd_core.specs.ScheddParts.Fits k b.schedd) (sym queue) (subst (Rattle.schedd_core.specs.ScheddParts.Fits a.queue) (sym schedd) w.fits);
}
awaited_kept p q a b (Some (Planned pl)) jobs pending on queue schedd w = record {
  change = pending ∙ (w.change ∙ ap (λ j. Some (change_of j pl)) (sym jobs));
  waiting = ap (λ v. v.waiting) schedd ∙ w.waiting;
  fitting = subst (λ k. Rattle.schedd_core.specs.ScheddParts.IsFitting k b.schedd.left pl) (sym queue) (subst (λ v. Rattle.schedd_core.specs.ScheddParts.IsFitting a.queue v.left pl) (sym schedd) w.fitting);
  fits = subst (λ k. (new : Rattle.queue_tx.specs.Queues.KeyedAds) → Rattle.queue_tx.specs.Queues.queue_after k (Rattle.schedd_plan.specs.Plans.plan_ops pl) ≡ Rattle.std.specs.Prelude.Ok new → Rattle.schedd_core.specs.ScheddParts.Fits new (Rattle.schedd_core.specs.Logging.after_plan pl b.schedd)) (sym queue)
      (subst (λ v. (new : Rattle.queue_tx.specs.Queues.KeyedAds) → Rattle.queue_tx.specs.Queues.queue_after a.queue (Rattle.schedd_plan.specs.Plans.plan_ops pl) ≡ Rattle.std.specs.Prelude.Ok new → Rattle.schedd_core.specs.ScheddParts.Fits new (Rattle.schedd_core.specs.Logging.after_plan pl v)) (sym schedd) w.fits);
  placed = placed_plan p q pl on w.placed;
  unplanned = w.unplanned;
  lost = subst (λ k. Rattle.pool_rules.specs.Linked.StandsIn b.schedd k w.unplanned) (sym queue) (subst (λ v. Rattle.pool_rules.specs.Linked.StandsIn v a.queue w.unplanned) (sym schedd) w.lost);
}

-- ---- an event of one startd
pub startd_event : (p : Protocol) (a : PoolParts) (machine : ℕ) (v : StartdValue) (after : After) (reports : List EndReport) (ms : List ProtocolMove)
    → IsLinked p a → slice_get a.startds machine ≡ Some v → MayAll p ms → AreStartdMoves ms → AreFarFrom machine ms
    → map (part_after_all ms) (machine_parts v) ≡ machine_parts after.startd → after.startd.machine.number ≡ v.machine.number → IsSound after.startd
    → AreEndsReported (protocol_after_all p ms) after.startd.slots → AreBorneOut (protocol_after_all p ms) after.step.mails → said_by_all ms ≡ reports
    → StayLinked p ms (parts_with_startd machine after reports a)
startd_event p a machine v after reports ms linked at may startd far changed number sound ends borne says = record {
  may = may;
  linked = record {
    facts = good.0;
    safe = good.1;
    moment = keeps.moment ∙ linked.moment;
    acked = subst (λ xs. SameMembers xs a.acked) (sym keeps.acked) linked.acked;
    ordered = subst (λ xs. SameMembers xs a.ordered) (sym keeps.ordered) linked.ordered;
    reports = subst (λ xs. SameMembers xs (reports ++ a.reports)) (sym (own_moves_say p ms startd ∙ ap (λ xs. xs ++ p.pool.reports) says)) (same_with reports p.pool.reports a.reports linked.reports);
    slots = subst (HasParts q) (pool_changed (part_after_all ms) a.startds machine v after.startd at changed (λ k u there other. machine_same ms machine k u far (linked.startds k u there).sound (linked.startds k u there).numbered other))
        (parts_on_all p ms (pool_parts a.startds) linked.facts linked.safe may linked.slots);
    schedd = schedd_kept p q a keeps linked.schedd;
    finished = λ job. subst (λ f. IsFinishedAs (ad_at (Proc job) a.queue) (a.finished job) (f job)) (sym keeps.jobs) (linked.finished job);
    startds = λ k u there. at_machine k u (put_cases a.startds machine k after.startd u there);
    mails = mails_with p q a.mails after.step.mails on linked.mails borne;
    claims = λ c there. on.placed c.claim.no.slot (linked.claims c there);
    granted = λ g there. on.placed g.run.claim.slot (linked.granted g (subst (IsIn g) keeps.grants there));
    awaited = awaited_kept p q a (parts_with_startd machine after reports a) a.awaited keeps.jobs keeps.pending on refl refl linked.awaited;
  };
}
  where
    q : Protocol
    q = protocol_after_all p ms

    good : Facts q × Safe q.pool
    good = all_good p ms may linked.facts linked.safe

    on : GoesOn p q
    on = goes_on p ms may linked.facts linked.safe

    keeps : KeepsJobs p q
    keeps = own_moves_keep p ms startd

    at_machine : (k : ℕ) (u : StartdValue) → ((k ≡ machine) × (u ≡ after.startd)) ⊎ ((k ≢ machine) × (slice_get a.startds k ≡ Some u)) → IsStartdAt q k u
    at_machine k u (inl here) = subst (IsStartdAt q k) (sym here.1) (record {
      numbered = number ∙ ((linked.startds machine v at).numbered ∙ sym here.0);
      sound = sound;
      ends = ends;
    })
    at_machine k u (inr other) =
        let was = linked.startds k u other.1 in
        record { numbered = was.numbered; sound = was.sound; ends = λ s there. reported_on p q (ended_of s.state.held) on (was.ends s there) }
