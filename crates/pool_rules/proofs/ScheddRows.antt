-- What an event makes of a schedd: the jobs that were left, the next number and the claims stay but
-- for what the event names; what it waits for is what it plans; and it sends only Asks and Releases.
use Rattle.std.proofs.Common.{◌≡◌, ◌⊎◌, inl, inr, ℕ, Bool, true, false, cond, not, ◌&&◌, List, [], ◌∷◌, length, slice_get, Option, Some, None, IfSome, is_some, is_none, refl, sym, subst}
use Rattle.std.specs.Prelude.{nat_lt, remove}
use Rattle.ad_value.specs.declared.names.job.TheConstants.{PERIODIC_HOLD, PERIODIC_REMOVE, PERIODIC_RELEASE}
use Rattle.ad_tree.specs.Ad.{Attributes}
use Rattle.claim_id.specs.declared.numbers.ClaimId.{ClaimId}
use Rattle.claim_id.specs.declared.numbers.ClaimNo.{ClaimNo}
use Rattle.claim_id.specs.declared.numbers.JobId.{JobId}
use Rattle.claim_id.specs.declared.numbers.RunNo.{RunNo}
use Rattle.pool_mail.specs.declared.end.How.{How}
use Rattle.pool_mail.specs.declared.mail.Mail.{Mail}
use Rattle.pool_mail.specs.declared.mail.Mail.TheVariants as mail
use Rattle.pool_mail.specs.declared.matching.Match.{Match}
use Rattle.pool_mail.specs.declared.why.Why.{Why}
use Rattle.pool_view.specs.AbstractPool.{IsIn}
use Rattle.pool_view.specs.Protocol.{Protocol}
use Rattle.queue_tx.specs.declared.key.Key.{Key}
use Rattle.queue_tx.specs.declared.key.Key.TheVariants.{Header, Proc}
use Rattle.queue_tx.specs.Queues.{KeyedAds, ad_at}
use Rattle.schedd_plan.specs.declared.plan.JobPlan.{JobPlan}
use Rattle.schedd_plan.specs.declared.plan.JobPlan.TheVariants as plan
use Rattle.schedd_plan.specs.declared.reason.Reason.{Reason}
use Rattle.schedd_plan.specs.declared.reason.Reason.TheVariants.{ByCommand, ByPolicy}
use Rattle.schedd_plan.specs.declared.status.JobStatus.{JobStatus}
use Rattle.schedd_plan.specs.declared.status.JobStatus.TheVariants as status
use Rattle.schedd_plan.specs.declared.claims.KeptClaim.{KeptClaim}
use Rattle.schedd_plan.specs.declared.claims.Stage.{Stage}
use Rattle.schedd_plan.specs.declared.claims.Stage.TheVariants as stage
use Rattle.schedd_plan.specs.declared.mail.Fate.{Fate}
use Rattle.schedd_plan.specs.declared.mail.Fate.TheVariants as fate
use Rattle.schedd_plan.specs.declared.mail.MailRow.TheVariants as row
use Rattle.schedd_plan.specs.declared.places.JobPlace.{JobPlace}
use Rattle.schedd_plan.specs.declared.places.JobPlace.TheVariants as place
use Rattle.schedd_plan.specs.declared.runs.KeptRun.{KeptRun}
use Rattle.schedd_plan.specs.declared.tick.TickLine.{TickLine}
use Rattle.schedd_plan.specs.declared.tick.TickLine.TheVariants as line
use Rattle.schedd_plan.specs.EndTable.{ended_ad_plan, is_asked_by}
use Rattle.schedd_plan.specs.JobPlaces.{job_place, let_go}
use Rattle.schedd_plan.specs.KeptClaims.{place_of_claim, engages, staged, with_stage, named, with_job, claims_without}
use Rattle.schedd_plan.specs.KeptRuns.{place_of_run}
use Rattle.schedd_plan.specs.MailTable.{is_idle_place, granted_at, granted_row, is_spent_why, denied_claim, denied_row, order_row, fate_of_gone, is_leaving_in, fate_in, after_fate}
use Rattle.schedd_plan.specs.OrderTable.{remove_plan, hold_left, hold_under, hold_plan, resume_plan, resume_marked, can_be_held, is_waiting}
use Rattle.schedd_state.specs.declared.answer.ScheddStep.{ScheddStep}
use Rattle.schedd_core.specs.Checks.{after_check, after_check_by, policy_plan, with_look}
use Rattle.schedd_core.specs.Rows.{after_mail, after_row, asked_in, claim_asked, ended_at, ended_row, ended_with, gone_at, gone_row, known_job, mail_row, noted_in, run_at, seen_at, stage_known}
use Rattle.schedd_state.specs.Schedds.{ScheddValue, After, waits_for}
use Rattle.schedd_core.specs.Ticks.{after_give_up, after_grant, after_lengthen, after_line, after_past, granted_by, lengthened_by, IsTicked}
use Rattle.schedd_state.specs.Leaving.{left_at, left_claims}
use Rattle.schedd_state.specs.DueLines.{tick_line}
use Rattle.schedd_core.proofs.FitsAfter.{Frees}
use Rattle.schedd_core.proofs.Freed.{let_go_frees, end_frees}
use Rattle.schedd_core.proofs.Places.{in_appended, in_at, in_changed, in_removed}
use Rattle.pool_rules.specs.Linked.{AreBorneOut}
use Rattle.pool_rules.proofs.SlotRows.{none_borne, one_borne}

-- what holds of each claim of a list
abbrev pub AreOf : (ClaimId → Type 0) → List KeptClaim → Type 0
AreOf P claims = (c : KeptClaim) → IsIn c claims → P c.claim

-- and of the claim of a grant
abbrev pub OfPlan : (ClaimId → Type 0) → JobPlan → Type 0
OfPlan P (plan.Grant job claim number until header) = P claim
OfPlan P _ = Unit {0}

-- a mail names such a claim, where it is one that the schedd will ask for
abbrev pub OfMatch : (ClaimId → Type 0) → Mail → Type 0
OfMatch P (mail.Matched found) = P found.claim
OfMatch P _ = Unit {0}

pub record Tidy (P : ClaimId → Type 0) (v : ScheddValue) (a : After) : Type 0 where
  pub left : a.schedd.left ≡ v.left
  pub next : a.schedd.next_run ≡ v.next_run
  pub waiting : a.schedd.waiting ≡ a.step.plan
  pub claims : AreOf P a.schedd.claims
  pub planned : IfSome a.step.plan (OfPlan P)
  pub mails : (q : Protocol) → AreBorneOut q a.step.mails

module _ (P : ClaimId → Type 0) where
  -- ---- the claims
  of_changed : (claims : List KeptClaim) (i : ℕ) (c d : KeptClaim) → slice_get claims i ≡ Some c → d.claim ≡ c.claim → AreOf P claims → AreOf P (Rattle.std.specs.Prelude.slice_set claims i d)
  of_changed claims i c d is same of e there = by (in_changed claims i d e there)
    where
      by : (e ≡ d) ⊎ IsIn e claims → P e.claim
      by (inl here) = subst (λ x. P x.claim) (sym here) (subst P (sym same) (of c (in_at claims i c is)))
      by (inr was) = of e was

  of_staged : (i : ℕ) (s : Stage) (claims : List KeptClaim) → AreOf P claims → AreOf P (with_stage i s claims)
  of_staged i s claims of = by (slice_get claims i) refl
    where
      by : (o : Option KeptClaim) → slice_get claims i ≡ o → AreOf P (staged o i s claims)
      by None is = of
      by (Some c) is = of_changed claims i c (record c { stage = s }) is refl of

  of_named : (i : ℕ) (job : JobId) (claims : List KeptClaim) → AreOf P claims → AreOf P (with_job i job claims)
  of_named i job claims of = by (slice_get claims i) refl
    where
      by : (o : Option KeptClaim) → slice_get claims i ≡ o → AreOf P (named o i job claims)
      by None is = of
      by (Some c) is = of_changed claims i c (record c { job = job }) is refl of

  of_without : (i : ℕ) (claims : List KeptClaim) → AreOf P claims → AreOf P (claims_without i claims)
  of_without i claims of = by (nat_lt i (length claims))
    where
      by : (b : Bool) → AreOf P (cond b (remove claims i) claims)
      by true = λ d there. of d (in_removed claims i d there)
      by false = of

  of_fate : (f : Fate) (claim : ClaimNo) (claims : List KeptClaim) → AreOf P claims → AreOf P (after_fate f claim claims)
  unfolding after_fate
  of_fate f claim claims of = by (place_of_claim claim claims) f
    where
      stays : (i : ℕ) (b : Bool) → AreOf P (cond (not b) (with_stage i stage.Ready claims) claims)
      stays i true = of
      stays i false = of_staged i stage.Ready claims of

      by : (o : Option ℕ) (f : Fate) → AreOf P (fate_in o f claims)
      by None f = of
      by (Some i) fate.Goes = of_without i claims of
      by (Some i) fate.Ready = of_staged i stage.Ready claims of
      by (Some i) fate.Stays = stays i (is_leaving_in (slice_get claims i))

  of_left : (claim : ClaimNo) (claims : List KeptClaim) → AreOf P claims → AreOf P (left_claims claim claims)
  of_left claim claims of = by (place_of_claim claim claims)
    where
      by : (o : Option ℕ) → AreOf P (left_at o claims)
      by None = of
      by (Some i) = of_staged i stage.Leaving claims of

  -- ---- the plans that are no grants
  freed_of : (job : JobId) (pl : JobPlan) → Frees job pl → OfPlan P pl
  freed_of job (plan.PutIdle k) frees = tt
  freed_of job (plan.PutHeld k reason) frees = tt
  freed_of job (plan.Complete k completion) frees = tt
  freed_of job (plan.Remove k) frees = tt
  freed_of job (plan.MarkRemoved k) frees = tt
  freed_of job (plan.MarkHeld k reason) frees = tt
  freed_of job (plan.MarkRunning k) frees = tt
  freed_of job (plan.Lengthen k until) frees = tt
  freed_of job (plan.Grant k claim number until header) frees = absurd frees

  remove_of : (at : JobPlace) (job : JobId) → IfSome (remove_plan at job) (OfPlan P)
  remove_of place.Nowhere job = tt
  remove_of place.Idle job = tt
  remove_of place.Held job = tt
  remove_of (place.Left st) job = tt
  remove_of (place.Under st) job = tt

  hold_left_of : (st : JobStatus) (job : JobId) (reason : Reason) → IfSome (hold_left st job reason) (OfPlan P)
  hold_left_of status.Idle job reason = tt
  hold_left_of status.Running job reason = tt
  hold_left_of status.Removed job reason = tt
  hold_left_of status.Completed job reason = tt
  hold_left_of status.Held job reason = tt
  hold_left_of status.Other job reason = tt

  hold_under_of : (st : JobStatus) (job : JobId) (reason : Reason) → IfSome (hold_under st job reason) (OfPlan P)
  hold_under_of status.Idle job reason = tt
  hold_under_of status.Running job reason = tt
  hold_under_of status.Removed job reason = tt
  hold_under_of status.Completed job reason = tt
  hold_under_of status.Held job reason = tt
  hold_under_of status.Other job reason = tt

  hold_of : (at : JobPlace) (job : JobId) (reason : Reason) → IfSome (hold_plan at job reason) (OfPlan P)
  hold_of place.Nowhere job reason = tt
  hold_of place.Idle job reason = tt
  hold_of place.Held job reason = tt
  hold_of (place.Left st) job reason = hold_left_of st job reason
  hold_of (place.Under st) job reason = hold_under_of st job reason

  marked_of : (st : JobStatus) (job : JobId) → IfSome (resume_marked st job) (OfPlan P)
  marked_of status.Idle job = tt
  marked_of status.Running job = tt
  marked_of status.Removed job = tt
  marked_of status.Completed job = tt
  marked_of status.Held job = tt
  marked_of status.Other job = tt

  resume_of : (at : JobPlace) (job : JobId) → IfSome (resume_plan at job) (OfPlan P)
  resume_of place.Nowhere job = tt
  resume_of place.Idle job = tt
  resume_of place.Held job = tt
  resume_of (place.Left st) job = marked_of st job
  resume_of (place.Under st) job = marked_of st job

  module _ (q : KeyedAds) (v : ScheddValue) (idle : v.waiting ≡ None) (of : AreOf P v.claims) where
    -- nothing is planned
    nothing : Tidy P v (record { schedd = v; step = record { mails = []; plan = None } })
    nothing = record { left = refl; next = refl; waiting = idle; claims = of; planned = tt; mails = λ r. none_borne r }

    claimed : (claims : List KeptClaim) → AreOf P claims → Tidy P v (record { schedd = record v { claims = claims }; step = record { mails = []; plan = None } })
    claimed claims its = record { left = refl; next = refl; waiting = idle; claims = its; planned = tt; mails = λ r. none_borne r }

    -- ---- mails
    over_tidy : (i : ℕ) (r : KeptRun) (pl : JobPlan) (claim : ClaimNo) (f : Fate) (reading : ℕ) → Frees r.job pl → Tidy P v (after_row v q (row.Free i pl claim f) reading)
    unfolding after_row
    over_tidy i r pl claim f reading frees = record { left = refl; next = refl; waiting = refl; claims = of_fate f claim v.claims of; planned = freed_of r.job pl frees; mails = λ x. none_borne x }

    gone_tidy : (run : RunNo) (kept : Bool) (reading : ℕ) → Tidy P v (after_row v q (gone_row v q run kept) reading)
    unfolding after_row
    gone_tidy run kept reading = by (place_of_run run v.runs)
      where
        at : (i : ℕ) (o : Option KeptRun) → Tidy P v (after_row v q (gone_at (known_job i o) q run kept) reading)
        at i None = nothing
        at i (Some r) = over_tidy i r (let_go q r.job) run.claim (fate_of_gone kept) reading (let_go_frees q r.job)

        by : (o : Option ℕ) → Tidy P v (after_row v q (gone_at (run_at v.runs o) q run kept) reading)
        by None = nothing
        by (Some i) = at i (slice_get v.runs i)

    ended_tidy : (run : RunNo) (h : How) (reading : ℕ) → Tidy P v (after_row v q (ended_row v q run h reading) reading)
    unfolding after_row
    ended_tidy run h reading = by (place_of_run run v.runs)
      where
        with_ad : (i : ℕ) (r : KeptRun) (o : Option Attributes) → Tidy P v (after_row v q (ended_with o (i, r.job) run h reading) reading)
        with_ad i r None = nothing
        with_ad i r (Some ad) = over_tidy i r (ended_ad_plan r.job ad h reading) run.claim fate.Ready reading (end_frees r.job ad h reading)

        at : (i : ℕ) (o : Option KeptRun) → Tidy P v (after_row v q (ended_at (known_job i o) q run h reading) reading)
        at i None = nothing
        at i (Some r) = with_ad i r (ad_at (Proc r.job) q)

        by : (o : Option ℕ) → Tidy P v (after_row v q (ended_at (run_at v.runs o) q run h reading) reading)
        by None = nothing
        by (Some i) = at i (slice_get v.runs i)

    asked_tidy : (b : Bool) (found : Match) (reading : ℕ) → P found.claim → Tidy P v (after_row v q (cond b (row.Ask found.claim found.job found.by_priority) row.Nothing) reading)
    unfolding after_row
    asked_tidy false found reading its = nothing
    asked_tidy true found reading its = by (ad_at (Proc found.job) q)
      where
        at : (ad : Attributes) (c : KeptClaim) → (c ≡ claim_asked found.claim found.job ad reading) ⊎ IsIn c v.claims → P c.claim
        at ad c (inl same) = subst (λ x. P x.claim) (sym same) its
        at ad c (inr was) = of c was

        by : (o : Option Attributes) → Tidy P v (asked_in o v found.claim found.job found.by_priority reading)
        by None = nothing
        by (Some ad) = record {
          left = refl;
          next = refl;
          waiting = idle;
          claims = λ c there. at ad c (in_appended v.claims (claim_asked found.claim found.job ad reading) c there);
          planned = tt;
          mails = λ r. one_borne r _ [] tt (none_borne r);
        }

    released : (claim : ClaimNo) → Tidy P v (record { schedd = v; step = record { mails = mail.Release claim ∷ []; plan = None } })
    released claim = record { left = refl; next = refl; waiting = idle; claims = of; planned = tt; mails = λ r. one_borne r _ [] tt (none_borne r) }

    granted_tidy : (o : Option (ℕ × Stage)) (claim : ClaimNo) (reading : ℕ) → Tidy P v (after_row v q (granted_row o claim) reading)
    unfolding after_row
    granted_tidy None claim reading = released claim
    granted_tidy (Some known) claim reading = by known.1
      where
        by : (s : Stage) → Tidy P v (after_row v q (granted_at known.0 s) reading)
        by (stage.Asked at) = claimed (with_stage known.0 stage.Ready v.claims) (of_staged known.0 stage.Ready v.claims of)
        by stage.Ready = nothing
        by stage.Leaving = nothing

    denied_tidy : (o : Option (ℕ × Stage)) (of_run : Bool) (w : Why) (reading : ℕ) → Tidy P v (after_row v q (denied_row o of_run w) reading)
    unfolding after_row
    denied_tidy None of_run w reading = nothing
    denied_tidy (Some known) true w reading = by (is_spent_why w)
      where
        by : (b : Bool) → Tidy P v (after_row v q (cond b row.Nothing (row.Leave known.0)) reading)
        by true = nothing
        by false = claimed (with_stage known.0 stage.Leaving v.claims) (of_staged known.0 stage.Leaving v.claims of)
    denied_tidy (Some known) false w reading = by known.1
      where
        by : (s : Stage) → Tidy P v (after_row v q (denied_claim known.0 s) reading)
        by (stage.Asked at) = claimed (claims_without known.0 v.claims) (of_without known.0 v.claims of)
        by stage.Ready = nothing
        by stage.Leaving = nothing

    seen_tidy : (o : Option ℕ) (reading : ℕ) → Tidy P v (after_row v q (seen_at o) reading)
    unfolding after_row
    seen_tidy None reading = nothing
    seen_tidy (Some i) reading = by (slice_get v.runs i)
      where
        by : (o : Option KeptRun) → Tidy P v (record { schedd = noted_in o i reading v; step = record { mails = []; plan = None } })
        by None = nothing
        by (Some r) = record { left = refl; next = refl; waiting = idle; claims = of; planned = tt; mails = λ x. none_borne x }

    ordered_tidy : (o : Option JobPlan) (reading : ℕ) → IfSome o (OfPlan P) → Tidy P v (after_row v q (order_row o) reading)
    unfolding after_row
    ordered_tidy None reading its = nothing
    ordered_tidy (Some pl) reading its = record { left = refl; next = refl; waiting = refl; claims = of; planned = its; mails = λ x. none_borne x }

    pub mail_tidy : (m : Mail) (reading : ℕ) → OfMatch P m → Tidy P v (after_mail v q m reading)
    unfolding after_row mail_row
    mail_tidy (mail.Update slot) reading its = nothing
    mail_tidy (mail.Matched found) reading its = asked_tidy ((is_idle_place (job_place q v.left found.job) && not (engages found.job v.claims)) && is_none (place_of_claim found.claim.no v.claims)) found reading its
    mail_tidy (mail.Ask claim job ad by_priority) reading its = nothing
    mail_tidy (mail.Granted claim job) reading its = granted_tidy (stage_known v claim.no) claim.no reading
    mail_tidy (mail.Denied claim run job why) reading its = denied_tidy (stage_known v claim) (is_some run) why reading
    mail_tidy (mail.Activate run job ad until) reading its = nothing
    mail_tidy (mail.Alive run until) reading its = nothing
    mail_tidy (mail.Seen run until) reading its = seen_tidy (place_of_run run v.runs) reading
    mail_tidy (mail.Stop run) reading its = nothing
    mail_tidy (mail.Release claim) reading its = nothing
    mail_tidy (mail.Gone run kept) reading its = gone_tidy run kept reading
    mail_tidy (mail.Ended run how) reading its = ended_tidy run how reading
    mail_tidy (mail.Remove job) reading its = ordered_tidy (remove_plan (job_place q v.left job) job) reading (remove_of (job_place q v.left job) job)
    mail_tidy (mail.Hold job) reading its = ordered_tidy (hold_plan (job_place q v.left job) job ByCommand) reading (hold_of (job_place q v.left job) job ByCommand)
    mail_tidy (mail.Resume job) reading its = ordered_tidy (resume_plan (job_place q v.left job) job) reading (resume_of (job_place q v.left job) job)

    -- ---- ticks
    past_tidy : (i : ℕ) (o : Option KeptRun) → Tidy P v (after_past v q i o)
    past_tidy i None = nothing
    past_tidy i (Some r) = record { left = refl; next = refl; waiting = refl; claims = of_left r.claim.no v.claims of; planned = freed_of r.job (let_go q r.job) (let_go_frees q r.job); mails = λ x. none_borne x }

    lengthen_tidy : (i reading : ℕ) (o : Option KeptRun) → Tidy P v (after_lengthen v q i o reading)
    lengthen_tidy i reading None = nothing
    lengthen_tidy i reading (Some r) = by (ad_at (Proc r.job) q)
      where
        by : (o : Option Attributes) → Tidy P v (lengthened_by o v i r reading)
        by None = nothing
        by (Some ad) = record { left = refl; next = refl; waiting = refl; claims = of; planned = tt; mails = λ x. none_borne x }

    grant_tidy : (i reading : ℕ) (job : JobId) → Tidy P v (after_grant v q i (slice_get v.claims i) job reading)
    grant_tidy i reading job = by (slice_get v.claims i) refl
      where
        with_ad : (c : KeptClaim) → slice_get v.claims i ≡ Some c → (o : Option Attributes) → Tidy P v (granted_by o v (is_some (ad_at Header q)) i c job reading)
        with_ad c is None = nothing
        with_ad c is (Some ad) = record { left = refl; next = refl; waiting = refl; claims = of_named i job v.claims of; planned = of c (in_at v.claims i c is); mails = λ x. none_borne x }

        by : (o : Option KeptClaim) → slice_get v.claims i ≡ o → Tidy P v (after_grant v q i o job reading)
        by None is = nothing
        by (Some c) is = with_ad c is (ad_at (Proc job) q)

    give_up_tidy : (i : ℕ) → Tidy P v (after_give_up v i (slice_get v.claims i))
    give_up_tidy i = by (slice_get v.claims i)
      where
        by : (o : Option KeptClaim) → Tidy P v (after_give_up v i o)
        by None = nothing
        by (Some c) = record { left = refl; next = refl; waiting = idle; claims = of_without i v.claims of; planned = tt; mails = λ x. one_borne x _ [] tt (none_borne x) }

    line_tidy : (l : TickLine) (found : Option Key) (reading : ℕ) → Tidy P v (after_line v q l found reading)
    unfolding after_line
    line_tidy line.Nothing found reading = nothing
    line_tidy (line.Left job) found reading = record { left = refl; next = refl; waiting = refl; claims = of; planned = freed_of job (let_go q job) (let_go_frees q job); mails = λ x. none_borne x }
    line_tidy (line.Past i) found reading = past_tidy i (slice_get v.runs i)
    line_tidy (line.Lengthen i) found reading = lengthen_tidy i reading (slice_get v.runs i)
    line_tidy (line.Regrant i job) found reading = grant_tidy i reading job
    line_tidy (line.Seek i) None reading = give_up_tidy i
    line_tidy (line.Seek i) (Some Header) reading = give_up_tidy i
    line_tidy (line.Seek i) (Some (Proc job)) reading = grant_tidy i reading job
    line_tidy (line.GiveUp i) found reading = give_up_tidy i

    pub tick_tidy : (reading : ℕ) (new : ScheddValue) (step : ScheddStep) → IsTicked v q reading new step → Tidy P v (record { schedd = new; step = step })
    tick_tidy reading new step t =
        subst (λ s. Tidy P v (record { schedd = s; step = step })) (sym t.schedd)
        (subst (λ s. Tidy P v (record { schedd = (after_line v q (tick_line v q reading) t.found reading).schedd; step = s })) (sym t.done)
        (line_tidy (tick_line v q reading) t.found reading))

    -- ---- looks at periodic expressions
    pub check_tidy : (job : JobId) (reading : ℕ) → Tidy P v (after_check v q job reading)
    unfolding after_check
    check_tidy job reading = by (ad_at (Proc job) q)
      where
        waits : (o : Option JobPlan) → IfSome o (OfPlan P) → Tidy P v (waits_for o (with_look job reading v))
        waits None its = record { left = refl; next = refl; waiting = idle; claims = of; planned = tt; mails = λ x. none_borne x }
        waits (Some pl) its = record { left = refl; next = refl; waiting = refl; claims = of; planned = its; mails = λ x. none_borne x }

        chosen : (hold remove release : Bool) → IfSome (cond hold (hold_plan (job_place q v.left job) job ByPolicy) (cond remove (remove_plan (job_place q v.left job) job) (cond release (resume_plan (job_place q v.left job) job) None))) (OfPlan P)
        chosen true remove release = hold_of (job_place q v.left job) job ByPolicy
        chosen false true release = remove_of (job_place q v.left job) job
        chosen false false true = resume_of (job_place q v.left job) job
        chosen false false false = tt

        by : (o : Option Attributes) → Tidy P v (after_check_by o v q job reading)
        by None = nothing
        by (Some ad) = waits (policy_plan (job_place q v.left job) job ad reading)
            (chosen (can_be_held (job_place q v.left job) && is_asked_by ad reading PERIODIC_HOLD.now) (is_asked_by ad reading PERIODIC_REMOVE.now) (is_waiting (job_place q v.left job) && is_asked_by ad reading PERIODIC_RELEASE.now))
