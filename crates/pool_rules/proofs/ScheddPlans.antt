-- A schedd that receives a mail, ticks or looks at a job, and may plan something, keeps the links.
use Rattle.std.proofs.Common.{◌≡◌, ℕ, ◌≤◌, Bool, true, false, List, [], ◌∷◌, ◌++◌, map, Option, Some, None, IfSome, IsSome, is_some, refl, sym, ◌∙◌, ap, subst, if◌then◌else◌}
use Rattle.std.specs.Prelude.{option_map, MatchOption, Ok}
use Rattle.std.proofs.lemmas.List.{append_assoc}
use Rattle.ad_tree.specs.Ad.{Attributes}
use Rattle.claim_id.specs.declared.numbers.JobId.{JobId}
use Rattle.pool_mail.specs.declared.mail.Mail.{Mail}
use Rattle.pool_mail.specs.declared.mail.Mail.TheVariants as mail
use Rattle.pool_view.specs.AbstractPool.{IsIn, SameMembers}
use Rattle.pool_view.specs.declared.job.Entry.{Entry}
use Rattle.pool_view.specs.Protocol.{Change, Protocol}
use Rattle.pool_view.specs.ProtocolMove.{ProtocolMove, TakeOrder, MayAll, protocol_after, protocol_after_all}
use Rattle.queue_tx.specs.declared.key.Key.TheVariants.{Proc}
use Rattle.queue_tx.specs.declared.kind.JobKind.{JobKind}
use Rattle.queue_tx.specs.declared.kind.JobKind.TheVariants as kind
use Rattle.queue_tx.specs.Kinds.{kind_of}
use Rattle.queue_tx.specs.Queues.{KeyedAds, ad_at, queue_after}
use Rattle.schedd_plan.specs.declared.plan.JobPlan.{JobPlan}
use Rattle.schedd_plan.specs.declared.plan.JobPlan.TheVariants as plan
use Rattle.schedd_plan.specs.Plans.{plan_ops}
use Rattle.schedd_plan.specs.declared.status.JobStatus.{JobStatus}
use Rattle.schedd_plan.specs.JobAttributes.{status_of}
use Rattle.schedd_plan.specs.JobPlaces.{is_left, kind_place, place_by}
use Rattle.schedd_plan.specs.MailTable.{order_row}
use Rattle.schedd_plan.specs.OrderTable.{remove_plan}
use Rattle.schedd_state.specs.declared.answer.ScheddStep.{ScheddStep}
use Rattle.schedd_core.specs.Checks.{after_check}
use Rattle.schedd_core.specs.JobStates.{ShowsJobs}
use Rattle.schedd_core.specs.Logging.{IsReopened, after_plan}
use Rattle.schedd_core.specs.PlanChanges.{change_of, moves_of_mail, moves_of_order, order_moves, pends}
use Rattle.schedd_core.specs.Rows.{after_mail, after_row, mail_row}
use Rattle.schedd_core.specs.ScheddParts.{Fits, FitsOn, IsFitting, IsHeard, IsOfClaim, IsPart}
use Rattle.schedd_state.specs.Schedds.{ScheddValue, After}
use Rattle.schedd_core.specs.Ticks.{IsTicked}
use Rattle.schedd_core.proofs.EventFits.{check_fits, mail_fits, tick_fits}
use Rattle.schedd_core.proofs.EventMay.{check_may, mail_may, tick_may}
use Rattle.schedd_core.proofs.LostPlans.{check_as, mail_as, reopens_as, tick_as}
use Rattle.pool_rules.specs.Linked.{IsPlaced, IsBorneOut, IsFinishedAs, IsPlanPlaced, AwaitsNothing, Awaits, IsLinked, StayLinked}
use Rattle.pool_rules.specs.PoolParts.{PoolParts}
use Rattle.pool_rules.specs.ScheddEvents.{is_known, is_known_by, job_removed, late_order, moves_of_schedd_mail, orders_of, orders_of_mail, planned_by, parts_with_schedd}
use Rattle.pool_rules.proofs.Going.{may_append, after_append}
use Rattle.pool_rules.proofs.Kept.{same_with}
use Rattle.pool_rules.proofs.ScheddKept.{AreOffSlots, off_append, schedd_event}
use Rattle.pool_rules.proofs.ScheddRows.{OfMatch, OfPlan, Tidy, check_tidy, mail_tidy, tick_tidy}

-- ---- what the moves of a plan leave
-- orders, and a pending change; all else of the jobs and the slots is as it was
pub record Plans (p q : Protocol) (orders : List JobId) (change : Option Change) : Type 0 where
  pub jobs : q.pool.jobs ≡ p.pool.jobs
  pub next : q.pool.next ≡ p.pool.next
  pub moment : q.pool.moment ≡ p.pool.moment
  pub acked : q.pool.acked ≡ p.pool.acked
  pub reports : q.pool.reports ≡ p.pool.reports
  pub marks : q.pool.marks ≡ p.pool.marks
  pub removals : q.removals ≡ p.removals
  pub grants : q.grants ≡ p.grants
  pub ordered : q.pool.ordered ≡ orders ++ p.pool.ordered
  pub pending : q.pending ≡ change

abbrev PlansAs : Protocol → List ProtocolMove → List JobId → Option JobPlan → Type 0
PlansAs p ms orders o = AreOffSlots ms × Plans p (protocol_after_all p ms) orders (option_map (change_of p.pool.jobs) o)

pends_plans : (p : Protocol) (o : Option JobPlan) → p.pending ≡ None → PlansAs p (pends p.pool.jobs o) [] o
pends_plans p None idle = (tt, record { jobs = refl; next = refl; moment = refl; acked = refl; reports = refl; marks = refl; removals = refl; grants = refl; ordered = refl; pending = idle })
pends_plans p (Some pl) idle = ((tt, tt), record { jobs = refl; next = refl; moment = refl; acked = refl; reports = refl; marks = refl; removals = refl; grants = refl; ordered = refl; pending = refl })

one_plans : (p : Protocol) (pl : JobPlan) → PlansAs p (order_moves p.pool.jobs pl) (job_removed (Some pl)) (Some pl)
one_plans p (plan.Remove job) = ((tt, (tt, tt)), record { jobs = refl; next = refl; moment = refl; acked = refl; reports = refl; marks = refl; removals = refl; grants = refl; ordered = refl; pending = refl })
one_plans p (plan.MarkRemoved job) = ((tt, (tt, tt)), record { jobs = refl; next = refl; moment = refl; acked = refl; reports = refl; marks = refl; removals = refl; grants = refl; ordered = refl; pending = refl })
one_plans p (plan.PutIdle job) = ((tt, tt), record { jobs = refl; next = refl; moment = refl; acked = refl; reports = refl; marks = refl; removals = refl; grants = refl; ordered = refl; pending = refl })
one_plans p (plan.PutHeld job reason) = ((tt, tt), record { jobs = refl; next = refl; moment = refl; acked = refl; reports = refl; marks = refl; removals = refl; grants = refl; ordered = refl; pending = refl })
one_plans p (plan.Complete job completion) = ((tt, tt), record { jobs = refl; next = refl; moment = refl; acked = refl; reports = refl; marks = refl; removals = refl; grants = refl; ordered = refl; pending = refl })
one_plans p (plan.MarkHeld job reason) = ((tt, tt), record { jobs = refl; next = refl; moment = refl; acked = refl; reports = refl; marks = refl; removals = refl; grants = refl; ordered = refl; pending = refl })
one_plans p (plan.MarkRunning job) = ((tt, tt), record { jobs = refl; next = refl; moment = refl; acked = refl; reports = refl; marks = refl; removals = refl; grants = refl; ordered = refl; pending = refl })
one_plans p (plan.Lengthen job until) = ((tt, tt), record { jobs = refl; next = refl; moment = refl; acked = refl; reports = refl; marks = refl; removals = refl; grants = refl; ordered = refl; pending = refl })
one_plans p (plan.Grant job claim number until header) = ((tt, tt), record { jobs = refl; next = refl; moment = refl; acked = refl; reports = refl; marks = refl; removals = refl; grants = refl; ordered = refl; pending = refl })

order_plans : (p : Protocol) (o : Option JobPlan) → p.pending ≡ None → PlansAs p (moves_of_order p.pool.jobs o) (job_removed o) o
order_plans p None idle = pends_plans p None idle
order_plans p (Some pl) idle = one_plans p pl

mail_plans : (p : Protocol) (v : ScheddValue) (q : KeyedAds) (m : Mail) (reading : ℕ) → p.pending ≡ None
    → PlansAs p (moves_of_mail p.pool.jobs v q m reading) (orders_of m (after_mail v q m reading).step.plan) (after_mail v q m reading).step.plan
mail_plans p v q (mail.Remove job) reading idle = order_plans p (after_mail v q (mail.Remove job) reading).step.plan idle
mail_plans p v q (mail.Update slot) reading idle = pends_plans p (after_mail v q (mail.Update slot) reading).step.plan idle
mail_plans p v q (mail.Matched found) reading idle = pends_plans p (after_mail v q (mail.Matched found) reading).step.plan idle
mail_plans p v q (mail.Ask claim job ad by_priority) reading idle = pends_plans p (after_mail v q (mail.Ask claim job ad by_priority) reading).step.plan idle
mail_plans p v q (mail.Granted claim job) reading idle = pends_plans p (after_mail v q (mail.Granted claim job) reading).step.plan idle
mail_plans p v q (mail.Denied claim run job why) reading idle = pends_plans p (after_mail v q (mail.Denied claim run job why) reading).step.plan idle
mail_plans p v q (mail.Activate run job ad until) reading idle = pends_plans p (after_mail v q (mail.Activate run job ad until) reading).step.plan idle
mail_plans p v q (mail.Alive run until) reading idle = pends_plans p (after_mail v q (mail.Alive run until) reading).step.plan idle
mail_plans p v q (mail.Seen run until) reading idle = pends_plans p (after_mail v q (mail.Seen run until) reading).step.plan idle
mail_plans p v q (mail.Stop run) reading idle = pends_plans p (after_mail v q (mail.Stop run) reading).step.plan idle
mail_plans p v q (mail.Release claim) reading idle = pends_plans p (after_mail v q (mail.Release claim) reading).step.plan idle
mail_plans p v q (mail.Gone run kept) reading idle = pends_plans p (after_mail v q (mail.Gone run kept) reading).step.plan idle
mail_plans p v q (mail.Ended run how) reading idle = pends_plans p (after_mail v q (mail.Ended run how) reading).step.plan idle
mail_plans p v q (mail.Hold job) reading idle = pends_plans p (after_mail v q (mail.Hold job) reading).step.plan idle
mail_plans p v q (mail.Resume job) reading idle = pends_plans p (after_mail v q (mail.Resume job) reading).step.plan idle

-- ---- an event that may plan something
-- nothing was awaited
pub was_idle : (p : Protocol) (a : PoolParts) → IsLinked p a → a.awaited ≡ None → AwaitsNothing p a
was_idle p a linked idle = subst (Awaits p a) idle linked.awaited

planned_event : (p : Protocol) (a : PoolParts) (new : ScheddValue) (step : ScheddStep) (orders : List JobId) (ms : List ProtocolMove) → IsLinked p a → a.awaited ≡ None → MayAll p ms → AreOffSlots ms
    → Plans p (protocol_after_all p ms) orders (option_map (change_of p.pool.jobs) step.plan)
    → Tidy (λ claim. IsPlaced p claim.no) a.schedd (record { schedd = new; step = step }) → FitsOn a.queue (record { schedd = new; step = step })
    → ((reading : ℕ) (back : ScheddValue) → IsReopened new a.queue reading back → IsReopened a.schedd a.queue reading back)
    → StayLinked p ms (parts_with_schedd new step orders a)
planned_event p a new step orders ms linked idle may off plans tidy fits back = schedd_event p a b ms linked may off refl (record {
  moment = plans.moment ∙ linked.moment;
  acked = subst (λ xs. SameMembers xs a.acked) (sym plans.acked) linked.acked;
  ordered = subst (λ xs. SameMembers xs (orders ++ a.ordered)) (sym plans.ordered) (same_with orders p.pool.ordered a.ordered linked.ordered);
  reports = subst (λ xs. SameMembers xs a.reports) (sym plans.reports) linked.reports;
  schedd = record {
    jobs = subst (ShowsJobs a.queue new.left) (sym plans.jobs) (subst (λ l. ShowsJobs a.queue l p.pool.jobs) (sym tidy.left) linked.schedd.jobs);
    next = plans.next ∙ (linked.schedd.next ∙ sym tidy.next);
    marked = λ job marked. subst (IsIn job) (sym plans.removals) (linked.schedd.marked job marked);
  };
  finished = λ job. subst (λ f. IsFinishedAs (ad_at (Proc job) a.queue) (a.finished job) (f job)) (sym plans.jobs) (linked.finished job);
  sent = step.mails;
  mails = refl;
  borne = tidy.mails q;
  claims = λ c there. placed c.claim.no (tidy.claims c there);
  granted = λ g there. placed g.run.claim (linked.granted g (subst (IsIn g) plans.grants there));
  awaited = awaits step.plan refl fits;
})
  where
    q : Protocol
    q = protocol_after_all p ms

    b : PoolParts
    b = parts_with_schedd new step orders a

    placed : (claim : Rattle.claim_id.specs.declared.numbers.ClaimNo.ClaimNo) → IsPlaced p claim → IsPlaced q claim
    placed claim h = subst (λ f. IsSome (f claim.slot)) (sym plans.marks) h

    placed_plan : (pl : JobPlan) → OfPlan (λ claim. IsPlaced p claim.no) pl → IsPlanPlaced q pl
    placed_plan (plan.Grant job claim number until header) h = placed claim.no h
    placed_plan (plan.PutIdle job) h = tt
    placed_plan (plan.PutHeld job reason) h = tt
    placed_plan (plan.Complete job completion) h = tt
    placed_plan (plan.Remove job) h = tt
    placed_plan (plan.MarkRemoved job) h = tt
    placed_plan (plan.MarkHeld job reason) h = tt
    placed_plan (plan.MarkRunning job) h = tt
    placed_plan (plan.Lengthen job until) h = tt

    before : AwaitsNothing p a
    before = was_idle p a linked idle

    awaits : (o : Option JobPlan) → step.plan ≡ o → MatchOption o (Fits a.queue new) (λ pl. IsFitting a.queue new.left pl × ((next : KeyedAds) → queue_after a.queue (plan_ops pl) ≡ Ok next → Fits next (after_plan pl new))) → Awaits q b (planned_by o)
    awaits None is f = record {
      change = plans.pending ∙ ap (option_map (change_of p.pool.jobs)) is;
      waiting = tidy.waiting ∙ is;
      fits = f;
    }
    awaits (Some pl) is f = record {
      change = plans.pending ∙ (ap (option_map (change_of p.pool.jobs)) is ∙ ap (λ j. Some (change_of j pl)) (sym plans.jobs));
      waiting = tidy.waiting ∙ is;
      fitting = f.0;
      fits = f.1;
      placed = placed_plan pl (subst (λ o. IfSome o (OfPlan (λ claim. IsPlaced p claim.no))) is tidy.planned);
      unplanned = a.schedd;
      lost = record { fits = before.fits; idle = before.waiting; left = sym tidy.left; next = sym tidy.next; back = back };
    }

-- ---- mails
heard_of : (p : Protocol) (m : Mail) → IsBorneOut p m → IsHeard p m
heard_of p (mail.Gone run kept) h = h
heard_of p (mail.Ended run how) h = h
heard_of p (mail.Update slot) h = tt
heard_of p (mail.Matched found) h = tt
heard_of p (mail.Ask claim job ad by_priority) h = tt
heard_of p (mail.Granted claim job) h = tt
heard_of p (mail.Denied claim run job why) h = tt
heard_of p (mail.Activate run job ad until) h = tt
heard_of p (mail.Alive run until) h = tt
heard_of p (mail.Seen run until) h = tt
heard_of p (mail.Stop run) h = tt
heard_of p (mail.Release claim) h = tt
heard_of p (mail.Remove job) h = tt
heard_of p (mail.Hold job) h = tt
heard_of p (mail.Resume job) h = tt

claim_of : (p : Protocol) (m : Mail) → IsBorneOut p m → IsOfClaim m
claim_of p (mail.Matched found) h = h.0
claim_of p (mail.Gone run kept) h = tt
claim_of p (mail.Ended run how) h = tt
claim_of p (mail.Update slot) h = tt
claim_of p (mail.Ask claim job ad by_priority) h = tt
claim_of p (mail.Granted claim job) h = tt
claim_of p (mail.Denied claim run job why) h = tt
claim_of p (mail.Activate run job ad until) h = tt
claim_of p (mail.Alive run until) h = tt
claim_of p (mail.Seen run until) h = tt
claim_of p (mail.Stop run) h = tt
claim_of p (mail.Release claim) h = tt
claim_of p (mail.Remove job) h = tt
claim_of p (mail.Hold job) h = tt
claim_of p (mail.Resume job) h = tt

match_of : (p : Protocol) (m : Mail) → IsBorneOut p m → OfMatch (λ claim. IsPlaced p claim.no) m
match_of p (mail.Matched found) h = h.1
match_of p (mail.Gone run kept) h = tt
match_of p (mail.Ended run how) h = tt
match_of p (mail.Update slot) h = tt
match_of p (mail.Ask claim job ad by_priority) h = tt
match_of p (mail.Granted claim job) h = tt
match_of p (mail.Denied claim run job why) h = tt
match_of p (mail.Activate run job ad until) h = tt
match_of p (mail.Alive run until) h = tt
match_of p (mail.Seen run until) h = tt
match_of p (mail.Stop run) h = tt
match_of p (mail.Release claim) h = tt
match_of p (mail.Remove job) h = tt
match_of p (mail.Hold job) h = tt
match_of p (mail.Resume job) h = tt

-- an order to remove a job that has left the queue
record LateOrders (p : Protocol) (orders : List JobId) : Type 0 where
  may : MayAll p (map TakeOrder orders)
  off : AreOffSlots (map TakeOrder orders)
  same : Plans p (protocol_after_all p (map TakeOrder orders)) orders p.pending

none_late : (p : Protocol) → LateOrders p []
none_late p = record { may = tt; off = tt; same = record { jobs = refl; next = refl; moment = refl; acked = refl; reports = refl; marks = refl; removals = refl; grants = refl; ordered = refl; pending = refl } }

late_orders : (p : Protocol) (a : PoolParts) (m : Mail) → IsLinked p a → LateOrders p (late_order a.finished m)
late_orders p a (mail.Remove job) linked = by (a.finished job) refl
  where
    entered : (e : Entry) (o : Option Attributes) → IsFinishedAs o (Some e) (p.pool.jobs job) → IsSome (p.pool.jobs job)
    entered e None is = subst (λ (x : Option Entry). IsSome x) (sym is) refl
    entered e (Some ad) is = cc

    by : (o : Option Entry) → a.finished job ≡ o → LateOrders p (if is_some o then job ∷ [] else [])
    by None is = none_late p
    by (Some e) is = record {
      may = (entered e (ad_at (Proc job) a.queue) (subst (λ o. IsFinishedAs (ad_at (Proc job) a.queue) o (p.pool.jobs job)) is (linked.finished job)), tt);
      off = (tt, tt);
      same = record { jobs = refl; next = refl; moment = refl; acked = refl; reports = refl; marks = refl; removals = refl; grants = refl; ordered = refl; pending = refl };
    }
late_orders p a (mail.Update slot) linked = none_late p
late_orders p a (mail.Matched found) linked = none_late p
late_orders p a (mail.Ask claim job ad by_priority) linked = none_late p
late_orders p a (mail.Granted claim job) linked = none_late p
late_orders p a (mail.Denied claim run job why) linked = none_late p
late_orders p a (mail.Activate run job ad until) linked = none_late p
late_orders p a (mail.Alive run until) linked = none_late p
late_orders p a (mail.Seen run until) linked = none_late p
late_orders p a (mail.Stop run) linked = none_late p
late_orders p a (mail.Release claim) linked = none_late p
late_orders p a (mail.Gone run kept) linked = none_late p
late_orders p a (mail.Ended run how) linked = none_late p
late_orders p a (mail.Hold job) linked = none_late p
late_orders p a (mail.Resume job) linked = none_late p

gone_on : (p q : Protocol) (m : Mail) → q.gone ≡ p.gone → q.pool.reports ≡ p.pool.reports → IsHeard p m → IsHeard q m
gone_on p q (mail.Gone run kept) gone reports h = subst (IsIn run) (sym gone) h
gone_on p q (mail.Ended run how) gone reports (job, h) = (job, subst (IsIn _) (sym reports) h)
gone_on p q (mail.Update slot) gone reports h = tt
gone_on p q (mail.Matched found) gone reports h = tt
gone_on p q (mail.Ask claim job ad by_priority) gone reports h = tt
gone_on p q (mail.Granted claim job) gone reports h = tt
gone_on p q (mail.Denied claim run job why) gone reports h = tt
gone_on p q (mail.Activate run job ad until) gone reports h = tt
gone_on p q (mail.Alive run until) gone reports h = tt
gone_on p q (mail.Seen run until) gone reports h = tt
gone_on p q (mail.Stop run) gone reports h = tt
gone_on p q (mail.Release claim) gone reports h = tt
gone_on p q (mail.Remove job) gone reports h = tt
gone_on p q (mail.Hold job) gone reports h = tt
gone_on p q (mail.Resume job) gone reports h = tt

orders_gone : (p : Protocol) (orders : List JobId) → (protocol_after_all p (map TakeOrder orders)).gone ≡ p.gone
orders_gone p [] = refl
orders_gone p (job ∷ jobs) = orders_gone (protocol_after p (TakeOrder job)) jobs

two_plans : (p q r : Protocol) (first second : List JobId) (change : Option Change) → Plans p q first p.pending → Plans q r second change → Plans p r (second ++ first) change
two_plans p q r first second change x y = record {
  jobs = y.jobs ∙ x.jobs;
  next = y.next ∙ x.next;
  moment = y.moment ∙ x.moment;
  acked = y.acked ∙ x.acked;
  reports = y.reports ∙ x.reports;
  marks = y.marks ∙ x.marks;
  removals = y.removals ∙ x.removals;
  grants = y.grants ∙ x.grants;
  ordered = y.ordered ∙ (ap (λ xs. second ++ xs) x.ordered ∙ sym (append_assoc second first p.pool.ordered));
  pending = y.pending;
}

pub mail_linked : (p : Protocol) (a : PoolParts) (m : Mail) (reading : ℕ) → IsLinked p a → a.awaited ≡ None → IsIn m a.mails
    → StayLinked p (moves_of_schedd_mail p.pool.jobs a m reading) (parts_with_schedd (after_mail a.schedd a.queue m reading).schedd (after_mail a.schedd a.queue m reading).step (orders_of_mail a m reading) a)
mail_linked p a m reading linked idle sent =
    planned_event p a after.schedd after.step (orders_of_mail a m reading) (map TakeOrder late ++ moves) linked idle
    (may_append p (map TakeOrder late) moves first.may then_may)
    (off_append (map TakeOrder late) moves first.off (subst (λ ms. AreOffSlots ms) (ap (λ j. moves_of_mail j a.schedd a.queue m reading) first.same.jobs) plans.0))
    (subst (λ q. Plans p q (orders_of_mail a m reading) (option_map (change_of p.pool.jobs) after.step.plan)) (sym (after_append p (map TakeOrder late) moves)) both)
    (mail_tidy (λ claim. IsPlaced p claim.no) a.queue a.schedd before.waiting linked.claims m reading (match_of p m (linked.mails m sent)))
    (mail_fits a.queue a.schedd before.fits m reading (claim_of p m (linked.mails m sent)))
    (λ later back reopened. reopens_as a.queue later a.schedd after.schedd back before.waiting (mail_as a.queue a.schedd before.waiting m reading) reopened)
  where
    after : After
    after = after_mail a.schedd a.queue m reading

    late : List JobId
    late = late_order a.finished m

    moves : List ProtocolMove
    moves = moves_of_mail p.pool.jobs a.schedd a.queue m reading

    first : LateOrders p late
    first = late_orders p a m linked

    x : Protocol
    x = protocol_after_all p (map TakeOrder late)

    before : AwaitsNothing p a
    before = was_idle p a linked idle

    pending : x.pending ≡ None
    pending = first.same.pending ∙ before.change

    part : IsPart x a.queue a.schedd
    part = record {
      jobs = subst (ShowsJobs a.queue a.schedd.left) (sym first.same.jobs) linked.schedd.jobs;
      next = first.same.next ∙ linked.schedd.next;
      marked = λ job marked. subst (IsIn job) (sym first.same.removals) (linked.schedd.marked job marked);
    }

    plans : PlansAs x (moves_of_mail x.pool.jobs a.schedd a.queue m reading) (orders_of m after.step.plan) after.step.plan
    plans = mail_plans x a.schedd a.queue m reading pending

    then_may : MayAll x moves
    then_may = subst (λ j. MayAll x (moves_of_mail j a.schedd a.queue m reading)) first.same.jobs
        (mail_may x a.queue a.schedd part before.fits pending m reading (gone_on p x m (orders_gone p late) first.same.reports (heard_of p m (linked.mails m sent))))

    then_plans : Plans x (protocol_after_all x moves) (orders_of m after.step.plan) (option_map (change_of p.pool.jobs) after.step.plan)
    then_plans = subst (λ j. Plans x (protocol_after_all x (moves_of_mail j a.schedd a.queue m reading)) (orders_of m after.step.plan) (option_map (change_of j) after.step.plan)) first.same.jobs plans.1

    both : Plans p (protocol_after_all x moves) (orders_of m after.step.plan ++ late) (option_map (change_of p.pool.jobs) after.step.plan)
    both = two_plans p x (protocol_after_all x moves) late (orders_of m after.step.plan) (option_map (change_of p.pool.jobs) after.step.plan) first.same then_plans

-- an order to remove a job is taken where the pool has the job, or had it
pub remove_orders : (p : Protocol) (a : PoolParts) (job : JobId) (reading : ℕ) → IsLinked p a → orders_of_mail a (mail.Remove job) reading ≡ (if is_known a job then job ∷ [] else [])
unfolding after_row mail_row
remove_orders p a job reading linked = by (ad_at (Proc job) a.queue) (a.finished job) (linked.finished job)
  where
    by_kind : (k : Option JobKind) (b : Bool) (st : JobStatus) → job_removed (after_row a.schedd a.queue (order_row (remove_plan (kind_place k b st) job)) reading).step.plan ++ [] ≡ (if is_some k then job ∷ [] else [])
    by_kind None b st = refl
    by_kind (Some kind.Idle) b st = refl
    by_kind (Some kind.Held) b st = refl
    by_kind (Some kind.Under) true st = refl
    by_kind (Some kind.Under) false st = refl

    by : (o : Option Attributes) (f : Option Entry) → IsFinishedAs o f (p.pool.jobs job)
        → job_removed (after_row a.schedd a.queue (order_row (remove_plan (place_by (is_left job a.schedd.left) o) job)) reading).step.plan ++ (if is_some f then job ∷ [] else []) ≡ (if is_known_by o f then job ∷ [] else [])
    by None f is = refl
    by (Some ad) None is = by_kind (kind_of ad) (is_left job a.schedd.left) (status_of ad)
    by (Some ad) (Some e) is = cc

-- ---- ticks
pub tick_linked : (p : Protocol) (a : PoolParts) (new : ScheddValue) (step : ScheddStep) (reading : ℕ) → IsLinked p a → a.awaited ≡ None → reading ≤ a.moment → IsTicked a.schedd a.queue reading new step
    → StayLinked p (pends p.pool.jobs step.plan) (parts_with_schedd new step [] a)
tick_linked p a new step reading linked idle now ticked =
    planned_event p a new step [] (pends p.pool.jobs step.plan) linked idle
    (tick_may p a.queue a.schedd linked.schedd before.fits before.change reading new step (subst (λ n. reading ≤ n) (sym linked.moment) now) ticked)
    plans.0 plans.1
    (tick_tidy (λ claim. IsPlaced p claim.no) a.queue a.schedd before.waiting linked.claims reading new step ticked)
    (tick_fits a.queue a.schedd before.fits reading new step ticked)
    (λ later back reopened. reopens_as a.queue later a.schedd new back before.waiting (tick_as a.queue a.schedd before.waiting reading new step ticked) reopened)
  where
    before : AwaitsNothing p a
    before = was_idle p a linked idle

    plans : PlansAs p (pends p.pool.jobs step.plan) [] step.plan
    plans = pends_plans p step.plan before.change

-- ---- looks at periodic expressions
pub check_linked : (p : Protocol) (a : PoolParts) (job : JobId) (reading : ℕ) → IsLinked p a → a.awaited ≡ None
    → StayLinked p (moves_of_order p.pool.jobs (after_check a.schedd a.queue job reading).step.plan)
    (parts_with_schedd (after_check a.schedd a.queue job reading).schedd (after_check a.schedd a.queue job reading).step (job_removed (after_check a.schedd a.queue job reading).step.plan) a)
check_linked p a job reading linked idle =
    planned_event p a after.schedd after.step (job_removed after.step.plan) (moves_of_order p.pool.jobs after.step.plan) linked idle
    (check_may p a.queue a.schedd linked.schedd before.fits before.change job reading)
    plans.0 plans.1
    (check_tidy (λ claim. IsPlaced p claim.no) a.queue a.schedd before.waiting linked.claims job reading)
    (check_fits a.queue a.schedd before.fits job reading)
    (λ later back reopened. reopens_as a.queue later a.schedd after.schedd back before.waiting (check_as a.queue a.schedd before.waiting job reading) reopened)
  where
    after : After
    after = after_check a.schedd a.queue job reading

    before : AwaitsNothing p a
    before = was_idle p a linked idle

    plans : PlansAs p (moves_of_order p.pool.jobs after.step.plan) (job_removed after.step.plan) after.step.plan
    plans = order_plans p after.step.plan before.change
