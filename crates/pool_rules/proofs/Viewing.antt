-- Linked parts show one abstract pool, which is safe; and what follows for their jobs.
use Rattle.std.proofs.Common.{◌≡◌, inl, inr, ℕ, Bool, true, false, List, [], ◌++◌, Option, Some, None, IfSome, IsSome, IsSomeAnd, is_some, refl, sym, ◌∙◌, ap, subst}
use Rattle.ad_tree.specs.Ad.{Attributes}
use Rattle.claim_id.specs.declared.numbers.JobId.{JobId}
use Rattle.claim_id.specs.declared.numbers.RunNo.{RunNo}
use Rattle.pool_view.specs.AbstractPool.{AbstractPool, IsIn, SameMembers, SameView}
use Rattle.pool_view.specs.AbstractStep.{Takes}
use Rattle.pool_view.specs.Safe.{IsAccounted, Safe}
use Rattle.pool_view.specs.declared.job.Entry.{Entry}
use Rattle.pool_view.specs.declared.job.Outcome.TheVariants as outcome
use Rattle.pool_view.specs.declared.job.State.{State}
use Rattle.pool_view.specs.declared.job.State.TheVariants as state
use Rattle.pool_view.specs.Protocol.{Protocol}
use Rattle.pool_view.specs.ProtocolMove.{ProtocolMove, SameProtocol, all_steps, protocol_after_all}
use Rattle.pool_view.specs.SlotPart.{HasParts}
use Rattle.pool_view.proofs.SameProtocol.{moves_good}
use Rattle.pool_view.proofs.Whole.{shown}
use Rattle.queue_tx.specs.declared.key.Key.TheVariants.{Proc}
use Rattle.queue_tx.specs.declared.kind.JobKind.{JobKind}
use Rattle.queue_tx.specs.declared.kind.JobKind.TheVariants as kind
use Rattle.queue_tx.specs.Kinds.{kind_of}
use Rattle.queue_tx.specs.Queues.{ad_at}
use Rattle.schedd_plan.specs.JobPlaces.{is_left}
use Rattle.schedd_core.specs.JobStates.{ShowsEntry, ShowsJob, ShowsState}
use Rattle.schedd_core.specs.ScheddParts.{IsPart}
use Rattle.schedd_core.proofs.PlanAds.{run_kind}
use Rattle.schedd_core.proofs.PlanMay.{stands_under}
use Rattle.pool_rules.specs.Linked.{AreStartds, IsFinishedAs, IsLinked, StayLinked}
use Rattle.pool_rules.specs.PoolParts.{PoolParts, pool_parts}
use Rattle.pool_rules.specs.Shown.{IsKnown, LeftRightly, SameParts, ShowsPool}
use Rattle.pool_rules.proofs.Going.{after_append, goes_on, may_append}
use Rattle.pool_rules.proofs.Kept.{awaited_kept}
use Rattle.pool_rules.proofs.Submitting.{same_members_on}

-- ---- one entry for one ad
idle_is : (left : Bool) (ad : Attributes) (s : State) → kind_of ad ≡ Some kind.Idle → ShowsState left ad s → state.Idle ≡ s
idle_is left ad state.Idle is shows = refl
idle_is left ad state.Held is shows = let clash : Some kind.Idle ≡ Some kind.Held = sym is ∙ shows in cc
idle_is left ad (state.Under run end) is shows = let clash : Some kind.Idle ≡ Some kind.Under = sym is ∙ run_kind ad shows.1.0 run.number end shows.1.2 in cc
idle_is left ad state.Left is shows = let clash : Some kind.Idle ≡ Some kind.Under = sym is ∙ shows.1 in cc
idle_is left ad (state.Done by) is shows = absurd shows

held_is : (left : Bool) (ad : Attributes) (s : State) → kind_of ad ≡ Some kind.Held → ShowsState left ad s → state.Held ≡ s
held_is left ad state.Held is shows = refl
held_is left ad state.Idle is shows = let clash : Some kind.Held ≡ Some kind.Idle = sym is ∙ shows in cc
held_is left ad (state.Under run end) is shows = let clash : Some kind.Held ≡ Some kind.Under = sym is ∙ run_kind ad shows.1.0 run.number end shows.1.2 in cc
held_is left ad state.Left is shows = let clash : Some kind.Held ≡ Some kind.Under = sym is ∙ shows.1 in cc
held_is left ad (state.Done by) is shows = absurd shows

left_is : (left : Bool) (ad : Attributes) (s : State) → left ≡ true → kind_of ad ≡ Some kind.Under → ShowsState left ad s → state.Left ≡ s
left_is left ad state.Left was is shows = refl
left_is left ad state.Idle was is shows = let clash : Some kind.Under ≡ Some kind.Idle = sym is ∙ shows in cc
left_is left ad state.Held was is shows = let clash : Some kind.Under ≡ Some kind.Held = sym is ∙ shows in cc
left_is left ad (state.Under run end) was is shows = let clash : true ≡ false = sym was ∙ shows.0 in cc
left_is left ad (state.Done by) was is shows = absurd shows

under_is : (left : Bool) (ad : Attributes) (run : RunNo) (end : ℕ) (s : State) → ShowsState left ad (state.Under run end) → ShowsState left ad s → state.Under run end ≡ s
under_is left ad run end s (not_left, (claim, claim_is, names)) shows =
    (λ i. state.Under (record { claim = sym claim_is i; number = run.number }) end) ∙ sym (stands_under left ad s claim run.number end not_left names shows)

one_state : (left : Bool) (ad : Attributes) (s t : State) → ShowsState left ad s → ShowsState left ad t → s ≡ t
one_state left ad state.Idle t shows also = idle_is left ad t shows also
one_state left ad state.Held t shows also = held_is left ad t shows also
one_state left ad (state.Under run end) t shows also = under_is left ad run end t shows also
one_state left ad state.Left t shows also = left_is left ad t shows.0 shows.1 also
one_state left ad (state.Done by) t shows also = absurd shows

-- an ad that shows a state is a job's
has_kind : (left : Bool) (ad : Attributes) (s : State) → ShowsState left ad s → IsSome (kind_of ad)
has_kind left ad state.Idle shows = ap is_some shows
has_kind left ad state.Held shows = ap is_some shows
has_kind left ad (state.Under run end) shows = ap is_some (run_kind ad shows.1.0 run.number end shows.1.2)
has_kind left ad state.Left shows = ap is_some shows.1
has_kind left ad (state.Done by) shows = absurd shows

no_kind : (ad : Attributes) → kind_of ad ≡ None → IsSome (kind_of ad) → ⊥
no_kind ad none some = by (kind_of ad) none some
  where
    by : (o : Option JobKind) → o ≡ None → IsSome o → ⊥
    by None is h = cc
    by (Some k) is h = cc

one_entry : (left : Bool) (ad : Attributes) (e f : Option Entry) → ShowsEntry left ad e → ShowsEntry left ad f → e ≡ f
one_entry left ad None None shows also = refl
one_entry left ad None (Some f) shows also = absurd (no_kind ad shows (has_kind left ad f.state also.1))
one_entry left ad (Some e) None shows also = absurd (no_kind ad also (has_kind left ad e.state shows.1))
one_entry left ad (Some e) (Some f) shows also =
    let core : e.core ≡ f.core = shows.0 ∙ sym also.0 in
    let its : e.state ≡ f.state = one_state left ad e.state f.state shows.1 also.1 in
    λ i. Some (record { core = core i; state = its i })

one_job : (left : Bool) (o : Option Attributes) (finished e f : Option Entry) → ShowsJob left o e → ShowsJob left o f → IsFinishedAs o finished e → IsFinishedAs o finished f → e ≡ f
one_job left None finished e f shows also one other = one ∙ sym other
one_job left (Some ad) finished e f shows also one other = one_entry left ad e f shows also

both_same : {A : Type 0} (xs ys zs : List A) → SameMembers xs zs → SameMembers ys zs → SameMembers xs ys
both_same xs ys zs a b k = (λ there. (b k).1 ((a k).0 there), λ there. (a k).1 ((b k).0 there))

pub one_view : (a : PoolParts) (v w : AbstractPool) → ShowsPool a v → ShowsPool a w → SameView v w
one_view a v w x y = record {
  moment = y.moment ∙ sym x.moment;
  next = y.next ∙ sym x.next;
  jobs = λ job. one_job (is_left job a.schedd.left) (ad_at (Proc job) a.queue) (a.finished job) (w.jobs job) (v.jobs job) (y.jobs job) (x.jobs job) (y.finished job) (x.finished job);
  acked = both_same v.acked w.acked a.acked x.acked y.acked;
  ordered = both_same v.ordered w.ordered a.ordered x.ordered y.ordered;
  runs = both_same v.runs w.runs _ x.slots.runs y.slots.runs;
  marks = λ slot. y.slots.marks slot ∙ sym (x.slots.marks slot);
  reports = both_same v.reports w.reports a.reports x.reports y.reports;
  slots = λ slot. y.slots.slots slot ∙ sym (x.slots.slots slot);
}

-- ---- linked parts
pub linked_shows : (p : Protocol) (a : PoolParts) → IsLinked p a → ShowsPool a p.pool
linked_shows p a linked = record {
  moment = linked.moment;
  next = linked.schedd.next;
  jobs = linked.schedd.jobs;
  finished = linked.finished;
  acked = linked.acked;
  ordered = linked.ordered;
  reports = linked.reports;
  slots = shown p (pool_parts a.startds) linked.slots;
}

pub with_view : (p : Protocol) (v : AbstractPool) → SameView p.pool v → SameProtocol p (record p { pool = v })
with_view p v same = record {
  pool = same;
  grants = λ x. (λ there. there, λ there. there);
  leases = λ x. (λ there. there, λ there. there);
  gone = λ x. (λ there. there, λ there. there);
  removals = λ x. (λ there. there, λ there. there);
  pending = refl;
}

-- moves lead from the pool of the one to any that the parts of the other show
pub steps_lead : (p : Protocol) (a b : PoolParts) (ms : List ProtocolMove) (w : AbstractPool) → IsLinked p a → StayLinked p ms b → ShowsPool b w → Takes p.pool (all_steps p ms) w × Safe w
steps_lead p a b ms w linked leads shows =
    let q : Protocol = protocol_after_all p ms in
    let same = one_view b q.pool w (linked_shows q b leads.linked) shows in
    let good = moves_good p ms (record q { pool = w }) (record { may = leads.may; leads = with_view q w same }) linked.facts linked.safe in
    (good.2, good.1)

pub shown_safe : (p : Protocol) (a : PoolParts) (w : AbstractPool) → IsLinked p a → ShowsPool a w → Safe w
shown_safe p a w linked shows = (steps_lead p a a [] w linked (record { may = tt; linked = linked }) shows).1

-- ---- jobs
pub acked_known : (p : Protocol) (a : PoolParts) (job : JobId) → IsLinked p a → IsIn job a.acked → IsKnown a job
acked_known p a job linked there = by (ad_at (Proc job) a.queue) refl (p.pool.jobs job) (linked.safe.acknowledged_kept job ((linked.acked job).1 there)) (linked.schedd.jobs job) (linked.finished job)
  where
    by_entry : (ad : Attributes) → ad_at (Proc job) a.queue ≡ Some ad → (e : Option Entry) → IsSome e → ShowsEntry (is_left job a.schedd.left) ad e → IsKnown a job
    by_entry ad is None some shows = cc
    by_entry ad is (Some e) some shows = inl (subst (λ o. IsSomeAnd o (λ x. IsSome (kind_of x))) (sym is) (has_kind (is_left job a.schedd.left) ad e.state shows.1))

    by : (o : Option Attributes) → ad_at (Proc job) a.queue ≡ o → (e : Option Entry) → IsSome e → ShowsJob (is_left job a.schedd.left) o e → IsFinishedAs o (a.finished job) e → IsKnown a job
    by None is e some shows finished = inr (subst (λ (x : Option Entry). IsSome x) finished some)
    by (Some ad) is e some shows finished = by_entry ad is e some shows

pub left_rightly : (p : Protocol) (a : PoolParts) (job : JobId) → IsLinked p a → IfSome (a.finished job) (λ e. LeftRightly a job e.state)
left_rightly p a job linked = by (a.finished job) refl
  where
    by_state : (s : State) → Rattle.schedd_core.specs.JobStates.IsDone s → IsAccounted p.pool job s → LeftRightly a job s
    by_state (state.Done (outcome.EndedBy run how)) done said = (linked.reports _).0 said
    by_state (state.Done outcome.Removed) done said = (linked.ordered job).0 said
    by_state state.Idle done said = cc
    by_state state.Held done said = cc
    by_state (state.Under run end) done said = cc
    by_state state.Left done said = cc

    by_ad : (e : Entry) (o : Option Attributes) → IsFinishedAs o (Some e) (p.pool.jobs job) → ShowsJob (is_left job a.schedd.left) o (p.pool.jobs job) → IfSome (p.pool.jobs job) (λ x. IsAccounted p.pool job x.state) → LeftRightly a job e.state
    by_ad e None is shows said = by_state e.state (subst (λ x. IfSome x (λ y. Rattle.schedd_core.specs.JobStates.IsDone y.state)) is shows) (subst (λ x. IfSome x (λ y. IsAccounted p.pool job y.state)) is said)
    by_ad e (Some ad) is shows said = cc

    by : (o : Option Entry) → a.finished job ≡ o → IfSome o (λ e. LeftRightly a job e.state)
    by None is = tt
    by (Some e) is = by_ad e (ad_at (Proc job) a.queue) (subst (λ o. IsFinishedAs (ad_at (Proc job) a.queue) o (p.pool.jobs job)) is (linked.finished job)) (linked.schedd.jobs job) (linked.safe.endings_said job)

-- ---- events one after the other
pub lead_on : (p : Protocol) (ms ns : List ProtocolMove) (b c : PoolParts) → StayLinked p ms b → StayLinked (protocol_after_all p ms) ns c → StayLinked p (ms ++ ns) c
lead_on p ms ns b c first second = record {
  may = may_append p ms ns first.may second.may;
  linked = subst (λ q. IsLinked q c) (sym (after_append p ms ns)) second.linked;
}

-- ---- the same parts
pub same_linked : (p : Protocol) (a b : PoolParts) → SameParts a b → IsLinked p a → IsLinked p b
same_linked p a b same linked = record {
  facts = linked.facts;
  safe = linked.safe;
  moment = linked.moment ∙ sym same.moment;
  acked = same_members_on p.pool.acked a.acked b.acked linked.acked same.acked;
  ordered = same_members_on p.pool.ordered a.ordered b.ordered linked.ordered same.ordered;
  reports = same_members_on p.pool.reports a.reports b.reports linked.reports same.reports;
  slots = subst (λ vs. HasParts p (pool_parts vs)) (sym same.startds) linked.slots;
  schedd = subst (λ k. IsPart p k b.schedd) (sym same.queue) (subst (IsPart p a.queue) (sym same.schedd) linked.schedd);
  finished = λ job. subst (λ k. IsFinishedAs (ad_at (Proc job) k) (b.finished job) (p.pool.jobs job)) (sym same.queue) (subst (λ o. IsFinishedAs (ad_at (Proc job) a.queue) o (p.pool.jobs job)) (sym (same.finished job)) (linked.finished job));
  startds = subst (AreStartds p) (sym same.startds) linked.startds;
  mails = λ m there. linked.mails m (same.mails m there);
  claims = λ c there. linked.claims c (subst (λ v. IsIn c v.claims) same.schedd there);
  granted = linked.granted;
  awaited = subst (Rattle.pool_rules.specs.Linked.Awaits p b) (sym same.awaited) (awaited_kept p p a b a.awaited refl refl (goes_on p [] tt linked.facts linked.safe) same.queue same.schedd linked.awaited);
}
