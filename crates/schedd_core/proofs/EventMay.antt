-- The moves that an event of the schedd is may be made.
use Rattle.std.proofs.Common.{◌≡◌, ◌⊎◌, inl, inr, ℕ, ◌≤◌, Bool, true, false, cond, not, ◌&&◌, slice_get, Option, Some, None, is_some, is_none, IsSome, IsSomeAnd, refl, ap, sym, ◌∙◌, subst, arith}
use Rattle.std.proofs.lemmas.Bool.{leb-true}
use Rattle.ad_value.specs.declared.names.job.TheConstants.{PERIODIC_HOLD, PERIODIC_REMOVE, PERIODIC_RELEASE}
use Rattle.ad_tree.specs.Ad.{Attributes}
use Rattle.claim_id.specs.declared.numbers.ClaimId.{ClaimId}
use Rattle.claim_id.specs.declared.numbers.JobId.{JobId}
use Rattle.claim_id.specs.declared.numbers.RunNo.{RunNo}
use Rattle.pool_mail.specs.declared.end.How.{How}
use Rattle.pool_mail.specs.declared.mail.Mail.{Mail}
use Rattle.pool_mail.specs.declared.mail.Mail.TheVariants as mail
use Rattle.pool_mail.specs.declared.why.Why.{Why}
use Rattle.pool_view.specs.Protocol.{Protocol}
use Rattle.pool_view.specs.ProtocolMove.{TakeOrder, MayLetGo, MayPend, MayAll, protocol_after}
use Rattle.pool_view.specs.AbstractPool.{IsIn}
use Rattle.pool_view.specs.AbstractStep.{IsWaiting}
use Rattle.pool_view.specs.declared.job.State.{State}
use Rattle.pool_view.specs.declared.job.State.TheVariants as state
use Rattle.queue_tx.specs.declared.key.Key.{Key}
use Rattle.queue_tx.specs.declared.key.Key.TheVariants.{Header, Proc}
use Rattle.queue_tx.specs.declared.kind.JobKind.{JobKind}
use Rattle.queue_tx.specs.declared.kind.JobKind.TheVariants as kind
use Rattle.queue_tx.specs.Kinds.{kind_of}
use Rattle.queue_tx.specs.Queues.{KeyedAds, ad_at}
use Rattle.schedd_plan.specs.declared.plan.JobPlan.{JobPlan}
use Rattle.schedd_plan.specs.declared.plan.JobPlan.TheVariants as plan
use Rattle.schedd_plan.specs.declared.reason.Reason.{Reason}
use Rattle.schedd_plan.specs.declared.reason.Reason.TheVariants.{ByPolicy}
use Rattle.schedd_plan.specs.declared.status.JobStatus.{JobStatus}
use Rattle.schedd_plan.specs.declared.status.JobStatus.TheVariants as status
use Rattle.schedd_plan.specs.JobAttributes.{lease_until, status_of}
use Rattle.schedd_plan.specs.declared.claims.KeptClaim.{KeptClaim}
use Rattle.schedd_plan.specs.declared.claims.Stage.{Stage}
use Rattle.schedd_plan.specs.declared.claims.Stage.TheVariants as stage
use Rattle.schedd_plan.specs.declared.mail.MailRow.{MailRow}
use Rattle.schedd_plan.specs.declared.mail.MailRow.TheVariants as row
use Rattle.schedd_plan.specs.declared.places.JobPlace.{JobPlace}
use Rattle.schedd_plan.specs.declared.places.JobPlace.TheVariants as place
use Rattle.schedd_plan.specs.declared.runs.KeptRun.{KeptRun}
use Rattle.schedd_plan.specs.declared.tick.RunLine.TheVariants as of_run
use Rattle.schedd_plan.specs.declared.tick.TickLine.{TickLine}
use Rattle.schedd_plan.specs.declared.tick.TickLine.TheVariants as line
use Rattle.schedd_plan.specs.EndTable.{ended_ad_plan, is_asked_by}
use Rattle.schedd_plan.specs.JobPlaces.{is_left, kind_place, place_by, job_place, let_go}
use Rattle.schedd_plan.specs.KeptClaims.{place_of_claim, engages}
use Rattle.schedd_plan.specs.KeptRuns.{run_of, is_run, place_of_run}
use Rattle.schedd_plan.specs.MailTable.{is_idle_place, granted_at, granted_row, is_spent_why, denied_claim, denied_row, order_row}
use Rattle.schedd_plan.specs.OrderTable.{remove_plan, hold_plan, resume_plan, resume_marked, can_be_held, is_waiting}
use Rattle.schedd_plan.specs.TickTable.{is_past, lease_end}
use Rattle.schedd_core.specs.Checks.{policy_plan, after_check_by, after_check, with_look}
use Rattle.schedd_state.specs.declared.answer.ScheddStep.{ScheddStep}
use Rattle.schedd_core.specs.JobStates.{ShowsState}
use Rattle.schedd_core.specs.PlanChanges.{change_at, change_by, pends, order_moves, moves_of_order, moves_of_mail}
use Rattle.schedd_core.specs.Rows.{stage_known, run_at, known_job, seen_at, seen_row, gone_at, gone_row, ended_at, ended_with, ended_row, mail_row, asked_in, after_row}
use Rattle.schedd_core.specs.ScheddParts.{IsPart, Fits, IsHeard}
use Rattle.schedd_state.specs.Schedds.{ScheddValue, waits_for}
use Rattle.schedd_state.specs.DueLines.{tick_line}
use Rattle.schedd_core.specs.Ticks.{IsSought, later, lengthened_by, after_lengthen, granted_by, after_grant, after_past, after_give_up, after_line, IsTicked}
use Rattle.schedd_core.proofs.FitsAfter.{Frees, freed_job}
use Rattle.schedd_core.proofs.Freed.{let_go_frees, end_frees}
use Rattle.schedd_core.proofs.PlanAds.{run_kind}
use Rattle.schedd_core.proofs.Lines.{RunAt, LineTold, line_told, IdleAd, idle_at, sought_idle, past_lease}
use Rattle.schedd_core.proofs.Places.{in_at, passes_at}
use Rattle.schedd_core.proofs.PlanJobs.{Shown, shown_at, under_ad}
use Rattle.schedd_core.proofs.PlanMay.{UnderRun, under_run, stands_as, shown_is, is_run-true, in_left, may_let_go, may_free, may_end, pend_may}

-- ---- the plan of a row
abbrev pub plan_of_row : MailRow → Option JobPlan
plan_of_row row.Nothing = None
plan_of_row (row.Ask claim job by_priority) = None
plan_of_row (row.Ready place) = None
plan_of_row (row.Release claim) = None
plan_of_row (row.Forget place) = None
plan_of_row (row.Leave place) = None
plan_of_row (row.Note place) = None
plan_of_row (row.Free place p claim fate) = Some p
plan_of_row (row.Order p) = Some p

pub row_plans : (v : ScheddValue) (q : KeyedAds) (r : MailRow) (reading : ℕ) → (after_row v q r reading).step.plan ≡ plan_of_row r
unfolding after_row
row_plans v q row.Nothing reading = refl
row_plans v q (row.Ask claim job by_priority) reading = by (ad_at (Proc job) q)
  where
    by : (o : Option Attributes) → (asked_in o v claim job by_priority reading).step.plan ≡ None
    by None = refl
    by (Some ad) = refl
row_plans v q (row.Ready place) reading = refl
row_plans v q (row.Release claim) reading = refl
row_plans v q (row.Forget place) reading = refl
row_plans v q (row.Leave place) reading = refl
row_plans v q (row.Note place) reading = refl
row_plans v q (row.Free place p claim fate) reading = refl
row_plans v q (row.Order p) reading = refl

-- rows without a plan
pub granted_quiet : (o : Option (ℕ × Stage)) (claim : Rattle.claim_id.specs.declared.numbers.ClaimNo.ClaimNo) → plan_of_row (granted_row o claim) ≡ None
granted_quiet None claim = refl
granted_quiet (Some known) claim = by known.1
  where
    by : (s : Stage) → plan_of_row (granted_at known.0 s) ≡ None
    by (stage.Asked at) = refl
    by stage.Ready = refl
    by stage.Leaving = refl

pub denied_quiet : (o : Option (ℕ × Stage)) (of_run : Bool) (w : Why) → plan_of_row (denied_row o of_run w) ≡ None
denied_quiet None of_run w = refl
denied_quiet (Some known) true w = by (is_spent_why w)
  where
    by : (b : Bool) → plan_of_row (cond b row.Nothing (row.Leave known.0)) ≡ None
    by true = refl
    by false = refl
denied_quiet (Some known) false w = by known.1
  where
    by : (s : Stage) → plan_of_row (denied_claim known.0 s) ≡ None
    by (stage.Asked at) = refl
    by stage.Ready = refl
    by stage.Leaving = refl

pub matched_quiet : (b : Bool) (claim : ClaimId) (job : JobId) (by_priority : Bool) → plan_of_row (cond b (row.Ask claim job by_priority) row.Nothing) ≡ None
matched_quiet true claim job by_priority = refl
matched_quiet false claim job by_priority = refl

pub seen_quiet : (o : Option ℕ) → plan_of_row (seen_at o) ≡ None
seen_quiet None = refl
seen_quiet (Some place) = refl

module _ (p : Protocol) (q : KeyedAds) (v : ScheddValue) (part : IsPart p q v) (fit : Fits q v) (idle : p.pending ≡ None) where
  nothing_may : (o : Option JobPlan) → o ≡ None → MayAll p (pends p.pool.jobs o)
  nothing_may o is = subst (λ o. MayAll p (pends p.pool.jobs o)) (sym is) tt

  of_row : (r : MailRow) (reading : ℕ) → MayAll p (pends p.pool.jobs (plan_of_row r)) → MayAll p (pends p.pool.jobs (after_row v q r reading).step.plan)
  of_row r reading h = subst (λ o. MayAll p (pends p.pool.jobs o)) (sym (row_plans v q r reading)) h

  -- a plan of a job under a run
  run_may : (r : KeptRun) (u : UnderRun p q v part r) (pl : JobPlan) → Frees r.job pl → MayPend p (change_at u.entry.state pl) → MayAll p (pends p.pool.jobs (Some pl))
  run_may r u pl frees h = pend_may p q v part idle pl u.entry (ap p.pool.jobs (freed_job r.job pl frees) ∙ u.entry_is) h

  -- ---- the run of a mail
  known_run : (run : RunNo) (i : ℕ) (r : KeptRun) → place_of_run run v.runs ≡ Some i → slice_get v.runs i ≡ Some r → run_of r ≡ run
  known_run run i r is e = is_run-true run r (passes_at (is_run run) v.runs i r is e)

  under_at : (i : ℕ) (r : KeptRun) → slice_get v.runs i ≡ Some r → UnderRun p q v part r
  under_at i r e = under_run p q v part r (fit.each r (in_at v.runs i r e))

  gone_may : (run : RunNo) (kept : Bool) → IsIn run p.gone → MayAll p (pends p.pool.jobs (plan_of_row (gone_row v q run kept)))
  gone_may run kept said = by (place_of_run run v.runs) refl
    where
      at : (i : ℕ) → place_of_run run v.runs ≡ Some i → (o : Option KeptRun) → slice_get v.runs i ≡ o → MayAll p (pends p.pool.jobs (plan_of_row (gone_at (known_job i o) q run kept)))
      at i is None e = tt
      at i is (Some r) e =
          let same = known_run run i r is e in
          let u = under_at i r e in
          run_may r u (let_go q r.job) (let_go_frees q r.job) (may_free p q v part r u (inl (inl (subst (λ x. IsIn x p.gone) (sym same) said))))

      by : (o : Option ℕ) → place_of_run run v.runs ≡ o → MayAll p (pends p.pool.jobs (plan_of_row (gone_at (run_at v.runs o) q run kept)))
      by None is = tt
      by (Some i) is = at i is (slice_get v.runs i) refl

  ended_may : (run : RunNo) (h : How) (reading : ℕ) → ((k : JobId) × IsIn (record { run = run; job = k; how = h }) p.pool.reports) → MayAll p (pends p.pool.jobs (plan_of_row (ended_row v q run h reading)))
  ended_may run h reading said = by (place_of_run run v.runs) refl
    where
      with_ad : (i : ℕ) (r : KeptRun) → run_of r ≡ run → (u : UnderRun p q v part r) → (o : Option Attributes) → ad_at (Proc r.job) q ≡ o
          → MayAll p (pends p.pool.jobs (plan_of_row (ended_with o (i, r.job) run h reading)))
      with_ad i r same u None e = tt
      with_ad i r same u (Some ad) e =
          let same_ad : ad ≡ u.ad = some_is ad u.ad (sym e ∙ u.ad_is) in
          subst (λ a. MayAll p (pends p.pool.jobs (Some (ended_ad_plan r.job a h reading)))) (sym same_ad)
          (run_may r u (ended_ad_plan r.job u.ad h reading) (end_frees r.job u.ad h reading)
          (may_end p q v part r u h (said.0, subst (λ x. IsIn (record { run = x; job = said.0; how = h }) p.pool.reports) (sym same) said.1) reading))
        where
          some_is : (a b : Attributes) → Some a ≡ Some b → a ≡ b
          some_is a b e = cc

      at : (i : ℕ) → place_of_run run v.runs ≡ Some i → (o : Option KeptRun) → slice_get v.runs i ≡ o → MayAll p (pends p.pool.jobs (plan_of_row (ended_at (known_job i o) q run h reading)))
      at i is None e = tt
      at i is (Some r) e = with_ad i r (known_run run i r is e) (under_at i r e) (ad_at (Proc r.job) q) refl

      by : (o : Option ℕ) → place_of_run run v.runs ≡ o → MayAll p (pends p.pool.jobs (plan_of_row (ended_at (run_at v.runs o) q run h reading)))
      by None is = tt
      by (Some i) is = at i is (slice_get v.runs i) refl

  -- ---- orders
  -- how a job that an order finds stands
  idle_state : (left : Bool) (ad : Attributes) (s : State) → ShowsState left ad s → kind_of ad ≡ Some kind.Idle → s ≡ state.Idle
  idle_state left ad state.Idle h is = refl
  idle_state left ad state.Held h is = let clash : Some kind.Held ≡ Some kind.Idle = sym h ∙ is in cc
  idle_state left ad (state.Under run end) h is = let clash : Some kind.Under ≡ Some kind.Idle = sym (run_kind ad h.1.0 run.number end h.1.2) ∙ is in cc
  idle_state left ad state.Left h is = let clash : Some kind.Under ≡ Some kind.Idle = sym h.1 ∙ is in cc
  idle_state left ad (state.Done outcome) h is = absurd h

  held_state : (left : Bool) (ad : Attributes) (s : State) → ShowsState left ad s → kind_of ad ≡ Some kind.Held → s ≡ state.Held
  held_state left ad state.Idle h is = let clash : Some kind.Idle ≡ Some kind.Held = sym h ∙ is in cc
  held_state left ad state.Held h is = refl
  held_state left ad (state.Under run end) h is = let clash : Some kind.Under ≡ Some kind.Held = sym (run_kind ad h.1.0 run.number end h.1.2) ∙ is in cc
  held_state left ad state.Left h is = let clash : Some kind.Under ≡ Some kind.Held = sym h.1 ∙ is in cc
  held_state left ad (state.Done outcome) h is = absurd h

  left_state : (left : Bool) (ad : Attributes) (s : State) → ShowsState left ad s → kind_of ad ≡ Some kind.Under → left ≡ true → s ≡ state.Left
  left_state left ad state.Idle h is also = let clash : Some kind.Idle ≡ Some kind.Under = sym h ∙ is in cc
  left_state left ad state.Held h is also = let clash : Some kind.Held ≡ Some kind.Under = sym h ∙ is in cc
  left_state left ad (state.Under run end) h is also = let clash : false ≡ true = sym h.0 ∙ also in cc
  left_state left ad state.Left h is also = refl
  left_state left ad (state.Done outcome) h is also = absurd h

  module _ (job : JobId) (ad : Attributes) (is : ad_at (Proc job) q ≡ Some ad) where
    its : (k : JobKind) → kind_of ad ≡ Some k → Shown q v.left p.pool.jobs job
    its k e = shown_at q v.left p.pool.jobs job ad part.jobs is (ap is_some e)

    ad_same : (k : JobKind) (e : kind_of ad ≡ Some k) → (its k e).ad ≡ ad
    ad_same k e = some_is (its k e).ad ad (sym (its k e).ad_is ∙ is)
      where
        some_is : (a b : Attributes) → Some a ≡ Some b → a ≡ b
        some_is a b e = cc

    shows_ad : (k : JobKind) (e : kind_of ad ≡ Some k) → ShowsState (is_left job v.left) ad (its k e).entry.state
    shows_ad k e = subst (λ a. ShowsState (is_left job v.left) a (its k e).entry.state) (ad_same k e) (its k e).stands

    entry_at : (k : JobKind) (e : kind_of ad ≡ Some k) → p.pool.jobs job ≡ Some (its k e).entry
    entry_at k e = (its k e).entry_is

    waiting_or_left : (k : JobKind) (e : kind_of ad ≡ Some k) (s : State) → (its k e).entry.state ≡ s → IsWaiting s ⊎ (s ≡ state.Left) → (pq : Protocol) → IsSomeAnd (p.pool.jobs job) (λ x. IsWaiting x.state ⊎ MayLetGo pq x.state)
    waiting_or_left k e s same h pq = shown_is (p.pool.jobs job) (its k e).entry (λ x. IsWaiting x ⊎ MayLetGo pq x) (entry_at k e) (subst (λ x. IsWaiting x ⊎ MayLetGo pq x) (sym same) (by s h))
      where
        by : (s : State) → IsWaiting s ⊎ (s ≡ state.Left) → IsWaiting s ⊎ MayLetGo pq s
        by s (inl w) = inl w
        by s (inr l) = inr (subst (MayLetGo pq) (sym l) tt)

    remove_waiting : (k : JobKind) (e : kind_of ad ≡ Some k) (s : State) → (its k e).entry.state ≡ s → IsWaiting s ⊎ (s ≡ state.Left) → MayAll p (order_moves p.pool.jobs (plan.Remove job))
    remove_waiting k e s same h = (
      subst IsSome (sym (entry_at k e)) refl,
      ((idle, subst (λ o. MayPend (protocol_after p (TakeOrder job)) (change_by o (plan.Remove job))) (sym (entry_at k e)) (inl (inl refl), waiting_or_left k e s same h (protocol_after p (TakeOrder job)))), tt),
    )

    remove_marked : (e : kind_of ad ≡ Some kind.Under) → MayAll p (order_moves p.pool.jobs (plan.MarkRemoved job))
    remove_marked e = (
      subst IsSome (sym (entry_at kind.Under e)) refl,
      ((idle, subst (λ o. MayPend (protocol_after p (TakeOrder job)) (change_by o (plan.MarkRemoved job))) (sym (entry_at kind.Under e)) (inl refl)), tt),
    )

    remove_at : (k : Option JobKind) → kind_of ad ≡ k → (left : Bool) → is_left job v.left ≡ left → MayAll p (moves_of_order p.pool.jobs (remove_plan (kind_place k left (status_of ad)) job))
    remove_at None e left l = tt
    remove_at (Some kind.Idle) e left l = remove_waiting kind.Idle e state.Idle (idle_state (is_left job v.left) ad (its kind.Idle e).entry.state (shows_ad kind.Idle e) e) (inl (inl refl))
    remove_at (Some kind.Held) e left l = remove_waiting kind.Held e state.Held (held_state (is_left job v.left) ad (its kind.Held e).entry.state (shows_ad kind.Held e) e) (inl (inr refl))
    remove_at (Some kind.Under) e true l = remove_waiting kind.Under e state.Left (left_state (is_left job v.left) ad (its kind.Under e).entry.state (shows_ad kind.Under e) e l) (inr refl)
    remove_at (Some kind.Under) e false l = remove_marked e

    hidden_held : (reason : Reason) (k : JobKind) (e : kind_of ad ≡ Some k) → MayAll p (pends p.pool.jobs (Some (plan.MarkHeld job reason)))
    hidden_held reason k e = pend_may p q v part idle (plan.MarkHeld job reason) (its k e).entry (entry_at k e) tt

    hidden_running : (k : JobKind) (e : kind_of ad ≡ Some k) → MayAll p (pends p.pool.jobs (Some (plan.MarkRunning job)))
    hidden_running k e = pend_may p q v part idle (plan.MarkRunning job) (its k e).entry (entry_at k e) tt

    hold_at : (reason : Reason) (k : Option JobKind) → kind_of ad ≡ k → (left : Bool) → (st : JobStatus) → MayAll p (pends p.pool.jobs (hold_plan (kind_place k left st) job reason))
    hold_at reason None e left st = tt
    hold_at reason (Some kind.Idle) e left st =
        let idles = idle_state (is_left job v.left) ad (its kind.Idle e).entry.state (shows_ad kind.Idle e) e in
        pend_may p q v part idle (plan.PutHeld job reason) (its kind.Idle e).entry (entry_at kind.Idle e)
        (subst (λ s. MayPend p (change_at s (plan.PutHeld job reason))) (sym idles) (shown_is (p.pool.jobs job) (its kind.Idle e).entry (λ s. s ≡ state.Idle) (entry_at kind.Idle e) idles))
    hold_at reason (Some kind.Held) e left st = tt
    hold_at reason (Some kind.Under) e true status.Idle = hidden_held reason kind.Under e
    hold_at reason (Some kind.Under) e true status.Running = hidden_held reason kind.Under e
    hold_at reason (Some kind.Under) e true status.Removed = tt
    hold_at reason (Some kind.Under) e true status.Completed = tt
    hold_at reason (Some kind.Under) e true status.Held = tt
    hold_at reason (Some kind.Under) e true status.Other = tt
    hold_at reason (Some kind.Under) e false status.Idle = tt
    hold_at reason (Some kind.Under) e false status.Running = hidden_held reason kind.Under e
    hold_at reason (Some kind.Under) e false status.Removed = tt
    hold_at reason (Some kind.Under) e false status.Completed = tt
    hold_at reason (Some kind.Under) e false status.Held = tt
    hold_at reason (Some kind.Under) e false status.Other = tt

    marked_at : (e : kind_of ad ≡ Some kind.Under) (st : JobStatus) → MayAll p (pends p.pool.jobs (resume_marked st job))
    marked_at e status.Idle = tt
    marked_at e status.Running = tt
    marked_at e status.Removed = tt
    marked_at e status.Completed = tt
    marked_at e status.Held = hidden_running kind.Under e
    marked_at e status.Other = tt

    resume_at : (k : Option JobKind) → kind_of ad ≡ k → (left : Bool) → (st : JobStatus) → MayAll p (pends p.pool.jobs (resume_plan (kind_place k left st) job))
    resume_at None e left st = tt
    resume_at (Some kind.Idle) e left st = tt
    resume_at (Some kind.Held) e left st =
        let holds = held_state (is_left job v.left) ad (its kind.Held e).entry.state (shows_ad kind.Held e) e in
        pend_may p q v part idle (plan.PutIdle job) (its kind.Held e).entry (entry_at kind.Held e)
        (subst (λ s. MayPend p (change_at s (plan.PutIdle job))) (sym holds) (shown_is (p.pool.jobs job) (its kind.Held e).entry (λ s. s ≡ state.Held) (entry_at kind.Held e) holds))
    resume_at (Some kind.Under) e true st = marked_at e st
    resume_at (Some kind.Under) e false st = marked_at e st

  remove_may : (job : JobId) → MayAll p (moves_of_order p.pool.jobs (remove_plan (job_place q v.left job) job))
  remove_may job = by (ad_at (Proc job) q) refl
    where
      by : (o : Option Attributes) → ad_at (Proc job) q ≡ o → MayAll p (moves_of_order p.pool.jobs (remove_plan (place_by (is_left job v.left) o) job))
      by None is = tt
      by (Some ad) is = remove_at job ad is (kind_of ad) refl (is_left job v.left) refl

  hold_may : (job : JobId) (reason : Reason) → MayAll p (pends p.pool.jobs (hold_plan (job_place q v.left job) job reason))
  hold_may job reason = by (ad_at (Proc job) q) refl
    where
      by : (o : Option Attributes) → ad_at (Proc job) q ≡ o → MayAll p (pends p.pool.jobs (hold_plan (place_by (is_left job v.left) o) job reason))
      by None is = tt
      by (Some ad) is = hold_at job ad is reason (kind_of ad) refl (is_left job v.left) (status_of ad)

  resume_may : (job : JobId) → MayAll p (pends p.pool.jobs (resume_plan (job_place q v.left job) job))
  resume_may job = by (ad_at (Proc job) q) refl
    where
      by : (o : Option Attributes) → ad_at (Proc job) q ≡ o → MayAll p (pends p.pool.jobs (resume_plan (place_by (is_left job v.left) o) job))
      by None is = tt
      by (Some ad) is = resume_at job ad is (kind_of ad) refl (is_left job v.left) (status_of ad)

  ordered_row : (o : Option JobPlan) → plan_of_row (order_row o) ≡ o
  ordered_row None = refl
  ordered_row (Some pl) = refl

  -- ---- mails
  pub mail_may : (m : Mail) (reading : ℕ) → IsHeard p m → MayAll p (moves_of_mail p.pool.jobs v q m reading)
  unfolding mail_row
  mail_may (mail.Update slot) reading heard = of_row row.Nothing reading tt
  mail_may (mail.Matched found) reading heard = of_row (mail_row v q (mail.Matched found) reading) reading (nothing_may (plan_of_row (mail_row v q (mail.Matched found) reading))
      (matched_quiet ((is_idle_place (job_place q v.left found.job) && not (engages found.job v.claims)) && is_none (place_of_claim found.claim.no v.claims)) found.claim found.job found.by_priority))
  mail_may (mail.Ask claim job ad by_priority) reading heard = of_row row.Nothing reading tt
  mail_may (mail.Granted claim job) reading heard = of_row (mail_row v q (mail.Granted claim job) reading) reading (nothing_may (plan_of_row (granted_row (stage_known v claim.no) claim.no)) (granted_quiet (stage_known v claim.no) claim.no))
  mail_may (mail.Denied claim run job why) reading heard = of_row (mail_row v q (mail.Denied claim run job why) reading) reading (nothing_may (plan_of_row (denied_row (stage_known v claim) (is_some run) why)) (denied_quiet (stage_known v claim) (is_some run) why))
  mail_may (mail.Activate run job ad until) reading heard = of_row row.Nothing reading tt
  mail_may (mail.Alive run until) reading heard = of_row row.Nothing reading tt
  mail_may (mail.Seen run until) reading heard = of_row (seen_row v run) reading (nothing_may (plan_of_row (seen_row v run)) (seen_quiet (place_of_run run v.runs)))
  mail_may (mail.Stop run) reading heard = of_row row.Nothing reading tt
  mail_may (mail.Release claim) reading heard = of_row row.Nothing reading tt
  mail_may (mail.Gone run kept) reading heard = of_row (gone_row v q run kept) reading (gone_may run kept heard)
  mail_may (mail.Ended run how) reading heard = of_row (ended_row v q run how reading) reading (ended_may run how reading heard)
  mail_may (mail.Remove job) reading heard =
      let pl = remove_plan (job_place q v.left job) job in
      subst (λ o. MayAll p (moves_of_order p.pool.jobs o)) (sym (row_plans v q (order_row pl) reading ∙ ordered_row pl)) (remove_may job)
  mail_may (mail.Hold job) reading heard =
      let pl = hold_plan (job_place q v.left job) job Rattle.schedd_plan.specs.declared.reason.Reason.TheVariants.ByCommand in
      of_row (order_row pl) reading (subst (λ o. MayAll p (pends p.pool.jobs o)) (sym (ordered_row pl)) (hold_may job Rattle.schedd_plan.specs.declared.reason.Reason.TheVariants.ByCommand))
  mail_may (mail.Resume job) reading heard =
      let pl = resume_plan (job_place q v.left job) job in
      of_row (order_row pl) reading (subst (λ o. MayAll p (pends p.pool.jobs o)) (sym (ordered_row pl)) (resume_may job))

  -- ---- ticks
  left_may : (job : JobId) → IsIn job v.left → MayAll p (pends p.pool.jobs (Some (let_go q job)))
  left_may job there =
      let under = under_ad q job (fit.under job there) in
      let s = its job under.ad under.ad_is kind.Under under.kind_is in
      let is = left_state (is_left job v.left) under.ad s.entry.state (shows_ad job under.ad under.ad_is kind.Under under.kind_is) under.kind_is (in_left job v.left there) in
      pend_may p q v part idle (let_go q job) s.entry (ap p.pool.jobs (freed_job job (let_go q job) (let_go_frees q job)) ∙ s.entry_is)
      (may_let_go p q v part job under.ad s.entry under.ad_is under.kind_is s.entry_is (subst (MayLetGo p) (sym is) tt))

  past_may : (place reading : ℕ) → reading ≤ p.pool.moment → RunAt v q place reading of_run.Past → MayAll p (pends p.pool.jobs (after_past v q place (slice_get v.runs place)).step.plan)
  past_may place reading now r =
      let u = under_at place r.run r.at in
      let past : is_past (Some u.end) reading ≡ true = ap (λ o. is_past o reading) (sym u.names.end_is) ∙ past_lease q r.run v.settings reading u.ad u.ad_is r.due in
      subst (λ o. MayAll p (pends p.pool.jobs (after_past v q place o).step.plan)) (sym r.at)
      (run_may r.run u (let_go q r.run.job) (let_go_frees q r.run.job) (may_free p q v part r.run u (inr (omega (arith, leb-true u.end reading past, now)))))

  later_most : (end : ℕ) (o : Option ℕ) (old : ℕ) → o ≡ Some old → old ≤ later end o
  later_most end None old is = cc
  later_most end (Some x) old is = let same : x ≡ old = cc in omega (arith, same)

  lengthen_may : (place reading : ℕ) → RunAt v q place reading of_run.Lengthen → MayAll p (pends p.pool.jobs (after_lengthen v q place (slice_get v.runs place) reading).step.plan)
  lengthen_may place reading r =
      let u = under_at place r.run r.at in
      let until = later (lease_end u.ad v.settings reading) (lease_until u.ad) in
      subst (λ o. MayAll p (pends p.pool.jobs (after_lengthen v q place o reading).step.plan)) (sym r.at)
      (subst (λ o. MayAll p (pends p.pool.jobs (lengthened_by o v place r.run reading).step.plan)) (sym u.ad_is)
      (pend_may p q v part idle (plan.Lengthen r.run.job until) u.entry u.entry_is
      (run_of r.run, u.end, stands_as p q v part r.run u, later_most (lease_end u.ad v.settings reading) (lease_until u.ad) u.end u.names.end_is)))

  grant_may : (place : ℕ) (job : JobId) (reading : ℕ) → IdleAd q job → MayAll p (pends p.pool.jobs (after_grant v q place (slice_get v.claims place) job reading).step.plan)
  grant_may place job reading i = by (slice_get v.claims place)
    where
      s : Shown q v.left p.pool.jobs job
      s = its job i.ad i.ad_is kind.Idle i.kind_is

      is : s.entry.state ≡ state.Idle
      is = idle_state (is_left job v.left) i.ad s.entry.state (shows_ad job i.ad i.ad_is kind.Idle i.kind_is) i.kind_is

      by : (o : Option KeptClaim) → MayAll p (pends p.pool.jobs (after_grant v q place o job reading).step.plan)
      by None = tt
      by (Some c) =
          subst (λ o. MayAll p (pends p.pool.jobs (granted_by o v (is_some (ad_at Header q)) place c job reading).step.plan)) (sym i.ad_is)
          (pend_may p q v part idle (plan.Grant job c.claim v.next_run (lease_end i.ad v.settings reading) (is_some (ad_at Header q))) s.entry s.entry_is
          (shown_is (p.pool.jobs job) s.entry (λ x. x ≡ state.Idle) s.entry_is is, sym part.next))

  give_up_may : (place : ℕ) → MayAll p (pends p.pool.jobs (after_give_up v place (slice_get v.claims place)).step.plan)
  give_up_may place = by (slice_get v.claims place)
    where
      by : (o : Option KeptClaim) → MayAll p (pends p.pool.jobs (after_give_up v place o).step.plan)
      by None = tt
      by (Some c) = tt

  line_may : (l : TickLine) (found : Option Key) (reading : ℕ) → reading ≤ p.pool.moment → LineTold v q reading l → IsSought v q l found → MayAll p (pends p.pool.jobs (after_line v q l found reading).step.plan)
  unfolding after_line
  line_may line.Nothing found reading now told sought = tt
  line_may (line.Left job) found reading now told sought = left_may job told
  line_may (line.Past place) found reading now told sought = past_may place reading now told
  line_may (line.Lengthen place) found reading now told sought = lengthen_may place reading told
  line_may (line.Regrant place job) found reading now told sought = grant_may place job reading (idle_at q job told)
  line_may (line.Seek place) None reading now told sought = give_up_may place
  line_may (line.Seek place) (Some Header) reading now told sought = give_up_may place
  line_may (line.Seek place) (Some (Proc job)) reading now told sought = grant_may place job reading (sought_idle v q place job sought)
  line_may (line.GiveUp place) found reading now told sought = give_up_may place

  pub tick_may : (reading : ℕ) (new : ScheddValue) (step : ScheddStep) → reading ≤ p.pool.moment → IsTicked v q reading new step → MayAll p (pends p.pool.jobs step.plan)
  tick_may reading new step now t =
      subst (λ s. MayAll p (pends p.pool.jobs s.plan)) (sym t.done) (line_may (tick_line v q reading) t.found reading now (line_told v q reading) t.sought)

  -- ---- looks at periodic expressions
  order_of_hold : (job : JobId) (reason : Reason) (pl : JobPlace) → moves_of_order p.pool.jobs (hold_plan pl job reason) ≡ pends p.pool.jobs (hold_plan pl job reason)
  order_of_hold job reason place.Nowhere = refl
  order_of_hold job reason place.Idle = refl
  order_of_hold job reason place.Held = refl
  order_of_hold job reason (place.Left status.Idle) = refl
  order_of_hold job reason (place.Left status.Running) = refl
  order_of_hold job reason (place.Left status.Removed) = refl
  order_of_hold job reason (place.Left status.Completed) = refl
  order_of_hold job reason (place.Left status.Held) = refl
  order_of_hold job reason (place.Left status.Other) = refl
  order_of_hold job reason (place.Under status.Idle) = refl
  order_of_hold job reason (place.Under status.Running) = refl
  order_of_hold job reason (place.Under status.Removed) = refl
  order_of_hold job reason (place.Under status.Completed) = refl
  order_of_hold job reason (place.Under status.Held) = refl
  order_of_hold job reason (place.Under status.Other) = refl

  order_of_marked : (job : JobId) (st : JobStatus) → moves_of_order p.pool.jobs (resume_marked st job) ≡ pends p.pool.jobs (resume_marked st job)
  order_of_marked job status.Idle = refl
  order_of_marked job status.Running = refl
  order_of_marked job status.Removed = refl
  order_of_marked job status.Completed = refl
  order_of_marked job status.Held = refl
  order_of_marked job status.Other = refl

  order_of_resume : (job : JobId) (pl : JobPlace) → moves_of_order p.pool.jobs (resume_plan pl job) ≡ pends p.pool.jobs (resume_plan pl job)
  order_of_resume job place.Nowhere = refl
  order_of_resume job place.Idle = refl
  order_of_resume job place.Held = refl
  order_of_resume job (place.Left st) = order_of_marked job st
  order_of_resume job (place.Under st) = order_of_marked job st

  pub check_may : (job : JobId) (reading : ℕ) → MayAll p (moves_of_order p.pool.jobs (after_check v q job reading).step.plan)
  unfolding after_check
  check_may job reading = by (ad_at (Proc job) q)
    where
      waits_plan : (o : Option JobPlan) (w : ScheddValue) → (waits_for o w).step.plan ≡ o
      waits_plan None w = refl
      waits_plan (Some pl) w = refl

      chosen : (hold remove release : Bool) → MayAll p (moves_of_order p.pool.jobs (cond hold (hold_plan (job_place q v.left job) job ByPolicy) (cond remove (remove_plan (job_place q v.left job) job) (cond release (resume_plan (job_place q v.left job) job) None))))
      chosen true remove release = subst (MayAll p) (sym (order_of_hold job ByPolicy (job_place q v.left job))) (hold_may job ByPolicy)
      chosen false true release = remove_may job
      chosen false false true = subst (MayAll p) (sym (order_of_resume job (job_place q v.left job))) (resume_may job)
      chosen false false false = tt

      by : (o : Option Attributes) → MayAll p (moves_of_order p.pool.jobs (after_check_by o v q job reading).step.plan)
      by None = tt
      by (Some ad) = subst (λ o. MayAll p (moves_of_order p.pool.jobs o)) (sym (waits_plan (policy_plan (job_place q v.left job) job ad reading) (with_look job reading v)))
          (chosen (can_be_held (job_place q v.left job) && is_asked_by ad reading PERIODIC_HOLD.now) (is_asked_by ad reading PERIODIC_REMOVE.now) (is_waiting (job_place q v.left job) && is_asked_by ad reading PERIODIC_RELEASE.now))
