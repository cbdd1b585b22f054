-- A schedd fits its queue after each event.
use Rattle.std.proofs.Common.{◌≡◌, ◌≢◌, ◌⊎◌, inl, inr, ℕ, Bool, true, false, cond, not, ◌&&◌, List, [], ◌∷◌, ◌++◌, length, slice_get, Option, Some, None, is_some, is_none, refl, ap, sym, ◌∙◌, subst, arith}
use Rattle.std.specs.Prelude.{Ok, MatchOption, nat_lt, slice_set, remove}
use Rattle.std.proofs.lemmas.Bool.{ltb-false}
use Rattle.std.proofs.lemmas.Option.{slice_get_within}
use Rattle.ad_value.specs.declared.names.job.TheConstants.{PERIODIC_HOLD, PERIODIC_REMOVE, PERIODIC_RELEASE}
use Rattle.ad_tree.specs.Ad.{Attributes}
use Rattle.claim_id.specs.declared.numbers.ClaimNo.{ClaimNo}
use Rattle.claim_id.specs.declared.numbers.JobId.{JobId}
use Rattle.claim_id.specs.declared.numbers.RunNo.{RunNo}
use Rattle.claim_id.specs.Texts.{IsClaim}
use Rattle.pool_mail.specs.declared.end.How.{How}
use Rattle.pool_mail.specs.declared.mail.Mail.{Mail}
use Rattle.pool_mail.specs.declared.mail.Mail.TheVariants as mail
use Rattle.pool_mail.specs.declared.why.Why.{Why}
use Rattle.pool_view.specs.AbstractPool.{IsIn}
use Rattle.pool_view.specs.Numbers.{same_job}
use Rattle.pool_view.proofs.Sameness.{same_job-true, same_job-same}
use Rattle.queue_tx.specs.declared.key.Key.{Key}
use Rattle.queue_tx.specs.declared.key.Key.TheVariants.{Header, Proc}
use Rattle.queue_tx.specs.declared.kind.JobKind.{JobKind}
use Rattle.queue_tx.specs.declared.kind.JobKind.TheVariants as kind
use Rattle.queue_tx.specs.Kinds.{kind_of}
use Rattle.queue_tx.specs.Queues.{KeyedAds, ad_at, queue_after}
use Rattle.schedd_plan.specs.declared.plan.JobPlan.{JobPlan}
use Rattle.schedd_plan.specs.declared.plan.JobPlan.TheVariants as plan
use Rattle.schedd_plan.specs.declared.reason.Reason.{Reason}
use Rattle.schedd_plan.specs.declared.reason.Reason.TheVariants.{ByCommand, ByPolicy}
use Rattle.schedd_plan.specs.declared.status.JobStatus.{JobStatus}
use Rattle.schedd_plan.specs.declared.status.JobStatus.TheVariants as status
use Rattle.schedd_plan.specs.Plans.{plan_ops}
use Rattle.schedd_plan.specs.JobAttributes.{lease_until, status_of}
use Rattle.schedd_plan.specs.declared.claims.KeptClaim.{KeptClaim}
use Rattle.schedd_plan.specs.declared.claims.Stage.{Stage}
use Rattle.schedd_plan.specs.declared.claims.Stage.TheVariants as stage
use Rattle.schedd_plan.specs.declared.mail.Fate.{Fate}
use Rattle.schedd_plan.specs.declared.mail.Fate.TheVariants as fate
use Rattle.schedd_plan.specs.declared.mail.MailRow.TheVariants as row
use Rattle.schedd_plan.specs.declared.runs.KeptRun.{KeptRun}
use Rattle.schedd_plan.specs.declared.tick.TickLine.{TickLine}
use Rattle.schedd_plan.specs.declared.tick.TickLine.TheVariants as line
use Rattle.schedd_plan.specs.EndTable.{ended_ad_plan, is_asked_by}
use Rattle.schedd_plan.specs.JobPlaces.{is_left, kind_place, place_by, job_place, let_go}
use Rattle.schedd_plan.specs.KeptClaims.{place_of_claim, engages, staged, with_stage, named, with_job, claims_without}
use Rattle.schedd_plan.specs.KeptRuns.{place_of_run, place_for, with_run, runs_without, enlivened, with_alive}
use Rattle.schedd_plan.specs.MailTable.{is_idle_place, granted_at, granted_row, is_spent_why, denied_claim, denied_row, order_row, fate_of_gone, is_leaving_in, fate_in, after_fate}
use Rattle.schedd_plan.specs.OrderTable.{remove_plan, hold_plan, resume_plan, resume_marked, can_be_held, is_waiting}
use Rattle.schedd_plan.specs.TickTable.{lease_end}
use Rattle.schedd_state.specs.declared.answer.ScheddStep.{ScheddStep}
use Rattle.schedd_core.specs.Checks.{policy_plan, after_check_by, after_check, with_look}
use Rattle.schedd_core.specs.Logging.{after_plan}
use Rattle.schedd_state.specs.Reopening.{is_under_kind, under_by, is_under_at}
use Rattle.schedd_core.specs.Rows.{stage_known, run_at, known_job, seen_at, gone_at, gone_row, ended_at, ended_with, ended_row, mail_row, noted_in, noted, asked_in, after_row, after_mail}
use Rattle.schedd_core.specs.ScheddParts.{IsUnderRun, FitsWith, Fits, IsThere, IsFitting, FitsOn, IsOfClaim}
use Rattle.schedd_state.specs.Schedds.{ScheddValue, After, waits_for}
use Rattle.schedd_state.specs.DueLines.{tick_line}
use Rattle.schedd_core.specs.Ticks.{IsSought, after_past, later, lengthened_by, after_lengthen, run_granted, granted_by, after_grant, after_give_up, after_line, IsTicked}
use Rattle.schedd_state.specs.Leaving.{left_at, left_claims}
use Rattle.schedd_core.proofs.FitsAfter.{Frees, Keeps, SameRun, fits_logged, fits_freed, fits_kept, fits_granted, run_is_under, run_not_left, under_apart}
use Rattle.schedd_core.proofs.Freed.{let_go_frees, let_go_fits, end_frees, freed_fits}
use Rattle.schedd_core.proofs.Lines.{LineTold, line_told, IdleAd, idle_at, sought_idle}
use Rattle.schedd_core.proofs.Places.{in_at, in_removed, removed_is_other, different_removed, stays_after_removal, in_inserted, inserted_is_in, stays_after_insertion, different_inserted, in_changed, different_changed, stays_after_change, in_appended}
use Rattle.schedd_core.proofs.PlanJobs.{left_after, is_there, there_under}
use Rattle.schedd_core.proofs.PlanMay.{in_left, left_in}

-- ---- claims go on to be claims
abbrev AreValid : List KeptClaim → Type 0
AreValid claims = (c : KeptClaim) → IsIn c claims → IsClaim c.claim

valid_staged : (place : ℕ) (s : Stage) (claims : List KeptClaim) → AreValid claims → AreValid (with_stage place s claims)
valid_staged place s claims valid = by (slice_get claims place) refl
  where
    by : (o : Option KeptClaim) → slice_get claims place ≡ o → AreValid (staged o place s claims)
    by None is = valid
    by (Some c) is = λ d there. at d (in_changed claims place (record c { stage = s }) d there)
      where
        at : (d : KeptClaim) → (d ≡ record c { stage = s }) ⊎ IsIn d claims → IsClaim d.claim
        at d (inl same) = subst (λ x. IsClaim x.claim) (sym same) (valid c (in_at claims place c is))
        at d (inr was) = valid d was

valid_named : (place : ℕ) (job : JobId) (claims : List KeptClaim) → AreValid claims → AreValid (with_job place job claims)
valid_named place job claims valid = by (slice_get claims place) refl
  where
    by : (o : Option KeptClaim) → slice_get claims place ≡ o → AreValid (named o place job claims)
    by None is = valid
    by (Some c) is = λ d there. at d (in_changed claims place (record c { job = job }) d there)
      where
        at : (d : KeptClaim) → (d ≡ record c { job = job }) ⊎ IsIn d claims → IsClaim d.claim
        at d (inl same) = subst (λ x. IsClaim x.claim) (sym same) (valid c (in_at claims place c is))
        at d (inr was) = valid d was

valid_without : (place : ℕ) (claims : List KeptClaim) → AreValid claims → AreValid (claims_without place claims)
valid_without place claims valid = by (nat_lt place (length claims))
  where
    by : (b : Bool) → AreValid (cond b (remove claims place) claims)
    by true = λ d there. valid d (in_removed claims place d there)
    by false = valid

valid_fate : (f : Fate) (claim : ClaimNo) (claims : List KeptClaim) → AreValid claims → AreValid (after_fate f claim claims)
unfolding after_fate
valid_fate f claim claims valid = by (place_of_claim claim claims) f
  where
    stays : (i : ℕ) (b : Bool) → AreValid (cond (not b) (with_stage i stage.Ready claims) claims)
    stays i true = valid
    stays i false = valid_staged i stage.Ready claims valid

    by : (o : Option ℕ) (f : Fate) → AreValid (fate_in o f claims)
    by None f = valid
    by (Some i) fate.Goes = valid_without i claims valid
    by (Some i) fate.Ready = valid_staged i stage.Ready claims valid
    by (Some i) fate.Stays = stays i (is_leaving_in (slice_get claims i))

valid_left : (claim : ClaimNo) (claims : List KeptClaim) → AreValid claims → AreValid (left_claims claim claims)
valid_left claim claims valid = by (place_of_claim claim claims)
  where
    by : (o : Option ℕ) → AreValid (left_at o claims)
    by None = valid
    by (Some i) = valid_staged i stage.Leaving claims valid

-- ---- without a plan
quiet : (q : KeyedAds) (a : After) → a.step.plan ≡ None → Fits q a.schedd → FitsOn q a
quiet q a none fits = subst (λ o. MatchOption o (Fits q a.schedd) (λ p. IsFitting q a.schedd.left p × ((new : KeyedAds) → queue_after q (plan_ops p) ≡ Ok new → Fits new (after_plan p a.schedd)))) (sym none) fits

module _ (q : KeyedAds) (v : ScheddValue) (fit : Fits q v) where
  with_claims2 : (claims : List KeptClaim) → AreValid claims → FitsWith q v.left v.runs claims
  with_claims2 claims valid = record { queue = fit.queue; each = fit.each; one = fit.one; all = fit.all; under = fit.under; valid = valid }

  -- a run was heard of
  with_alive2 : (place alive : ℕ) (found : Bool) (r : KeptRun) → slice_get v.runs place ≡ Some r → FitsWith q v.left (slice_set v.runs place (record r { alive = alive; found = found })) v.claims
  with_alive2 place alive found r is = record {
    queue = fit.queue;
    each = λ s there. each s (in_changed v.runs place (record r { alive = alive; found = found }) s there);
    one = different_changed v.runs place r (record r { alive = alive; found = found }) is refl fit.one;
    all = λ k under not_left.
        let t = fit.all k under not_left in
        let u = stays_after_change v.runs place r (record r { alive = alive; found = found }) t.0 is refl t.1 in
        (u.0, u.1, u.2 ∙ t.2);
    under = fit.under;
    valid = fit.valid;
  }
    where
      each : (s : KeptRun) → (s ≡ record r { alive = alive; found = found }) ⊎ IsIn s v.runs → IsUnderRun q v.left s
      each s (inl same) = subst (IsUnderRun q v.left) (sym same) (fit.each r (in_at v.runs place r is))
      each s (inr was) = fit.each s was

  noted_fits : (place reading : ℕ) → Fits q (noted place reading v)
  noted_fits place reading = by (slice_get v.runs place) refl
    where
      by : (o : Option KeptRun) → slice_get v.runs place ≡ o → Fits q (noted_in o place reading v)
      by None is = fit
      by (Some r) is = with_alive2 place reading r.found r is

  -- ---- a run that is over
  over_on : (place : ℕ) (r : KeptRun) (pl : JobPlan) (claims : List KeptClaim) → slice_get v.runs place ≡ Some r → Frees r.job pl → AreValid claims
      → IsFitting q v.left pl × ((new : KeyedAds) → queue_after q (plan_ops pl) ≡ Ok new → Fits new (after_plan pl (record v { runs = runs_without place v.runs; claims = claims; waiting = Some pl })))
  over_on place r pl claims is frees valid = (
    freed_fits q v.left r.job pl frees under not_left,
    λ new h. fits_logged new pl (record v { runs = runs_without place v.runs; claims = claims; waiting = Some pl })
        (subst (λ rs. FitsWith new (left_after pl v.left) rs claims) (sym gone)
        (fits_freed q v.left v.runs v.claims fit new pl h r.job (remove v.runs place) claims frees (there_under q r.job under)
        (λ s there. (in_removed v.runs place s there, apart s (removed_is_other v.runs place r s fit.one is there)))
        (λ s there far. stays_after_removal v.runs place r s is there (differs s far))
        (different_removed v.runs place fit.one) valid)),
  )
    where
      at : IsUnderRun q v.left r
      at = fit.each r (in_at v.runs place r is)

      under : is_under_at q r.job ≡ true
      under = run_is_under q v.left r at

      not_left : is_left r.job v.left ≡ false
      not_left = run_not_left q v.left r at

      gone : runs_without place v.runs ≡ remove v.runs place
      gone = by (nat_lt place (length v.runs)) refl
        where
          by : (b : Bool) → nat_lt place (length v.runs) ≡ b → cond b (remove v.runs place) v.runs ≡ remove v.runs place
          by true e = refl
          by false e = absurd (omega (arith, ltb-false place (length v.runs) e, slice_get_within v.runs place r is))

      apart : (s : KeptRun) → s.job ≢ r.job → same_job s.job r.job ≡ false
      apart s other = by (same_job s.job r.job) refl
        where
          by : (b : Bool) → same_job s.job r.job ≡ b → b ≡ false
          by true e = absurd (other (same_job-true s.job r.job e))
          by false e = refl

      differs : (s : KeptRun) → same_job s.job r.job ≡ false → s.job ≢ r.job
      differs s far same = let clash : true ≡ false = sym (same_job-same s.job) ∙ (ap (same_job s.job) same ∙ far) in cc

  -- ---- a plan that frees a job which is under no run
  free_on : (j : JobId) (pl : JobPlan) (w : ScheddValue) → w.left ≡ v.left → w.runs ≡ v.runs → w.claims ≡ v.claims → Frees j pl → IsFitting q v.left pl → IsThere q j
      → ((s : KeptRun) → IsIn s v.runs → same_job s.job j ≡ false)
      → IsFitting q w.left pl × ((new : KeyedAds) → queue_after q (plan_ops pl) ≡ Ok new → Fits new (after_plan pl w))
  free_on j pl w left runs claims frees fits there apart = (
    subst (λ l. IsFitting q l pl) (sym left) fits,
    λ new h. fits_logged new pl w
        (subst (λ l. FitsWith new (left_after pl l) w.runs w.claims) (sym left)
        (subst (λ rs. FitsWith new (left_after pl v.left) rs w.claims) (sym runs)
        (subst (λ cs. FitsWith new (left_after pl v.left) v.runs cs) (sym claims)
        (fits_freed q v.left v.runs v.claims fit new pl h j v.runs v.claims frees there (λ s h. (h, apart s h)) (λ s h far. h) fit.one fit.valid)))),
  )

  keep_on : (pl : JobPlan) (w : ScheddValue) → w.left ≡ v.left → w.runs ≡ v.runs → w.claims ≡ v.claims → Keeps pl → IsFitting q v.left pl
      → IsFitting q w.left pl × ((new : KeyedAds) → queue_after q (plan_ops pl) ≡ Ok new → Fits new (after_plan pl w))
  keep_on pl w left runs claims keeps fits = (
    subst (λ l. IsFitting q l pl) (sym left) fits,
    λ new h. fits_logged new pl w
        (subst (λ l. FitsWith new (left_after pl l) w.runs w.claims) (sym left)
        (subst (λ rs. FitsWith new (left_after pl v.left) rs w.claims) (sym runs)
        (subst (λ cs. FitsWith new (left_after pl v.left) v.runs cs) (sym claims)
        (fits_kept q v.left v.runs v.claims fit new pl h v.runs keeps fits (λ s h. (s, h, record { job = refl; claim = refl; number = refl })) (λ s h. (s, h, refl)) fit.one)))),
  )

  -- ---- orders
  abbrev Goes : Option JobPlan → ScheddValue → Type 0
  Goes o w = MatchOption o (Fits q w) (λ p. IsFitting q w.left p × ((new : KeyedAds) → queue_after q (plan_ops p) ≡ Ok new → Fits new (after_plan p w)))

  not_under_apart : (j : JobId) → is_under_at q j ≡ false → (s : KeptRun) → IsIn s v.runs → same_job s.job j ≡ false
  not_under_apart j free s there = under_apart q s.job j (run_is_under q v.left s (fit.each s there)) free

  left_apart_runs : (j : JobId) → is_left j v.left ≡ true → (s : KeptRun) → IsIn s v.runs → same_job s.job j ≡ false
  left_apart_runs j left s there = by (same_job s.job j) refl
    where
      by : (b : Bool) → same_job s.job j ≡ b → b ≡ false
      by true e =
          let same = same_job-true s.job j e in
          let clash : true ≡ false = sym left ∙ (ap (λ k. is_left k v.left) (sym same) ∙ run_not_left q v.left s (fit.each s there)) in cc
      by false e = refl

  -- the schedd that waits, or goes on
  record Like (w : ScheddValue) : Type 0 where
    pub left : w.left ≡ v.left
    pub runs : w.runs ≡ v.runs
    pub claims : w.claims ≡ v.claims

  like_fits : (w : ScheddValue) → Like w → Fits q w
  like_fits w l = subst (λ x. FitsWith q x w.runs w.claims) (sym l.left) (subst (λ x. FitsWith q v.left x w.claims) (sym l.runs) (subst (λ x. FitsWith q v.left v.runs x) (sym l.claims) fit))

  module _ (job : JobId) (ad : Attributes) (is : ad_at (Proc job) q ≡ Some ad) (w : ScheddValue) (l : Like w) where
    none_on : Goes None w
    none_on = like_fits w l

    there_at : (k : JobKind) → kind_of ad ≡ Some k → IsThere q job
    there_at k e = is_there q job ad is (ap is_some e)

    kind_at : (k : JobKind) → kind_of ad ≡ Some k → is_under_at q job ≡ is_under_kind (Some k)
    kind_at k e = ap under_by is ∙ ap is_under_kind e

    freed_on : (k : JobKind) (e : kind_of ad ≡ Some k) → is_under_kind (Some k) ≡ false → (pl : JobPlan) → Frees job pl → IsFitting q v.left pl → Goes (Some pl) w
    freed_on k e waiting pl frees fits = free_on job pl w l.left l.runs l.claims frees fits (there_at k e) (not_under_apart job (kind_at k e ∙ waiting))

    marked_on : kind_of ad ≡ Some kind.Under → (pl : JobPlan) → Keeps pl → IsFitting q v.left pl → Goes (Some pl) w
    marked_on e pl keeps fits = keep_on pl w l.left l.runs l.claims keeps fits

    remove_on : (k : Option JobKind) → kind_of ad ≡ k → (left : Bool) → is_left job v.left ≡ left → (st : JobStatus) → Goes (remove_plan (kind_place k left st) job) w
    remove_on None e left at st = none_on
    remove_on (Some kind.Idle) e left at st = freed_on kind.Idle e refl (plan.Remove job) refl (there_at kind.Idle e)
    remove_on (Some kind.Held) e left at st = freed_on kind.Held e refl (plan.Remove job) refl (there_at kind.Held e)
    remove_on (Some kind.Under) e true at st = free_on job (plan.Remove job) w l.left l.runs l.claims refl (there_at kind.Under e) (there_at kind.Under e) (left_apart_runs job at)
    remove_on (Some kind.Under) e false at st = marked_on e (plan.MarkRemoved job) tt (kind_at kind.Under e)

    hold_on : (reason : Reason) (k : Option JobKind) → kind_of ad ≡ k → (left : Bool) (st : JobStatus) → Goes (hold_plan (kind_place k left st) job reason) w
    hold_on reason None e left st = none_on
    hold_on reason (Some kind.Idle) e left st = freed_on kind.Idle e refl (plan.PutHeld job reason) refl (there_at kind.Idle e)
    hold_on reason (Some kind.Held) e left st = none_on
    hold_on reason (Some kind.Under) e true status.Idle = marked_on e (plan.MarkHeld job reason) tt (kind_at kind.Under e)
    hold_on reason (Some kind.Under) e true status.Running = marked_on e (plan.MarkHeld job reason) tt (kind_at kind.Under e)
    hold_on reason (Some kind.Under) e true status.Removed = none_on
    hold_on reason (Some kind.Under) e true status.Completed = none_on
    hold_on reason (Some kind.Under) e true status.Held = none_on
    hold_on reason (Some kind.Under) e true status.Other = none_on
    hold_on reason (Some kind.Under) e false status.Idle = none_on
    hold_on reason (Some kind.Under) e false status.Running = marked_on e (plan.MarkHeld job reason) tt (kind_at kind.Under e)
    hold_on reason (Some kind.Under) e false status.Removed = none_on
    hold_on reason (Some kind.Under) e false status.Completed = none_on
    hold_on reason (Some kind.Under) e false status.Held = none_on
    hold_on reason (Some kind.Under) e false status.Other = none_on

    resume_under : kind_of ad ≡ Some kind.Under → (st : JobStatus) → Goes (resume_marked st job) w
    resume_under e status.Idle = none_on
    resume_under e status.Running = none_on
    resume_under e status.Removed = none_on
    resume_under e status.Completed = none_on
    resume_under e status.Held = marked_on e (plan.MarkRunning job) tt (kind_at kind.Under e)
    resume_under e status.Other = none_on

    resume_on : (k : Option JobKind) → kind_of ad ≡ k → (left : Bool) (st : JobStatus) → Goes (resume_plan (kind_place k left st) job) w
    resume_on None e left st = none_on
    resume_on (Some kind.Idle) e left st = none_on
    resume_on (Some kind.Held) e left st = freed_on kind.Held e refl (plan.PutIdle job) refl (there_at kind.Held e)
    resume_on (Some kind.Under) e true st = resume_under e st
    resume_on (Some kind.Under) e false st = resume_under e st

  remove_goes : (job : JobId) (w : ScheddValue) → Like w → Goes (remove_plan (job_place q v.left job) job) w
  remove_goes job w l = by (ad_at (Proc job) q) refl
    where
      by : (o : Option Attributes) → ad_at (Proc job) q ≡ o → Goes (remove_plan (place_by (is_left job v.left) o) job) w
      by None is = like_fits w l
      by (Some ad) is = remove_on job ad is w l (kind_of ad) refl (is_left job v.left) refl (status_of ad)

  hold_goes : (job : JobId) (reason : Reason) (w : ScheddValue) → Like w → Goes (hold_plan (job_place q v.left job) job reason) w
  hold_goes job reason w l = by (ad_at (Proc job) q) refl
    where
      by : (o : Option Attributes) → ad_at (Proc job) q ≡ o → Goes (hold_plan (place_by (is_left job v.left) o) job reason) w
      by None is = like_fits w l
      by (Some ad) is = hold_on job ad is w l reason (kind_of ad) refl (is_left job v.left) (status_of ad)

  resume_goes : (job : JobId) (w : ScheddValue) → Like w → Goes (resume_plan (job_place q v.left job) job) w
  resume_goes job w l = by (ad_at (Proc job) q) refl
    where
      by : (o : Option Attributes) → ad_at (Proc job) q ≡ o → Goes (resume_plan (place_by (is_left job v.left) o) job) w
      by None is = like_fits w l
      by (Some ad) is = resume_on job ad is w l (kind_of ad) refl (is_left job v.left) (status_of ad)

  ordered_on : (o : Option JobPlan) (reading : ℕ) → ((w : ScheddValue) → Like w → Goes o w) → FitsOn q (after_row v q (order_row o) reading)
  unfolding after_row
  ordered_on None reading goes = fit
  ordered_on (Some pl) reading goes = goes (record v { waiting = Some pl }) (record { left = refl; runs = refl; claims = refl })

  -- ---- mails
  over_row : (place : ℕ) (r : KeptRun) (pl : JobPlan) (claim : ClaimNo) (f : Fate) (reading : ℕ) → slice_get v.runs place ≡ Some r → Frees r.job pl → FitsOn q (after_row v q (row.Free place pl claim f) reading)
  unfolding after_row
  over_row place r pl claim f reading is frees = over_on place r pl (after_fate f claim v.claims) is frees (valid_fate f claim v.claims fit.valid)

  gone_on : (run : RunNo) (kept : Bool) (reading : ℕ) → FitsOn q (after_row v q (gone_row v q run kept) reading)
  unfolding after_row
  gone_on run kept reading = by (place_of_run run v.runs)
    where
      at : (i : ℕ) (o : Option KeptRun) → slice_get v.runs i ≡ o → FitsOn q (after_row v q (gone_at (known_job i o) q run kept) reading)
      at i None e = fit
      at i (Some r) e = over_row i r (let_go q r.job) run.claim (fate_of_gone kept) reading e (let_go_frees q r.job)

      by : (o : Option ℕ) → FitsOn q (after_row v q (gone_at (run_at v.runs o) q run kept) reading)
      by None = fit
      by (Some i) = at i (slice_get v.runs i) refl

  ended_on : (run : RunNo) (h : How) (reading : ℕ) → FitsOn q (after_row v q (ended_row v q run h reading) reading)
  unfolding after_row
  ended_on run h reading = by (place_of_run run v.runs)
    where
      with_ad : (i : ℕ) (r : KeptRun) → slice_get v.runs i ≡ Some r → (o : Option Attributes) → FitsOn q (after_row v q (ended_with o (i, r.job) run h reading) reading)
      with_ad i r e None = fit
      with_ad i r e (Some ad) = over_row i r (ended_ad_plan r.job ad h reading) run.claim fate.Ready reading e (end_frees r.job ad h reading)

      at : (i : ℕ) (o : Option KeptRun) → slice_get v.runs i ≡ o → FitsOn q (after_row v q (ended_at (known_job i o) q run h reading) reading)
      at i None e = fit
      at i (Some r) e = with_ad i r e (ad_at (Proc r.job) q)

      by : (o : Option ℕ) → FitsOn q (after_row v q (ended_at (run_at v.runs o) q run h reading) reading)
      by None = fit
      by (Some i) = at i (slice_get v.runs i) refl

  asked_on : (b : Bool) (found : Rattle.pool_mail.specs.declared.matching.Match.Match) (reading : ℕ) → IsClaim found.claim → FitsOn q (after_row v q (cond b (row.Ask found.claim found.job found.by_priority) row.Nothing) reading)
  unfolding after_row
  asked_on false found reading valid = fit
  asked_on true found reading valid = by (ad_at (Proc found.job) q)
    where
      by : (o : Option Attributes) → FitsOn q (asked_in o v found.claim found.job found.by_priority reading)
      by None = fit
      by (Some ad) = with_claims2 (v.claims ++ (record { claim = found.claim; job = found.job; stage = stage.Asked reading; ad = ad }) ∷ [])
          (λ c there. at c (in_appended v.claims (record { claim = found.claim; job = found.job; stage = stage.Asked reading; ad = ad }) c there))
        where
          at : (c : KeptClaim) → (c ≡ record { claim = found.claim; job = found.job; stage = stage.Asked reading; ad = ad }) ⊎ IsIn c v.claims → IsClaim c.claim
          at c (inl same) = subst (λ x. IsClaim x.claim) (sym same) valid
          at c (inr was) = fit.valid c was

  granted_on : (o : Option (ℕ × Stage)) (claim : ClaimNo) (reading : ℕ) → FitsOn q (after_row v q (granted_row o claim) reading)
  unfolding after_row
  granted_on None claim reading = fit
  granted_on (Some known) claim reading = by known.1
    where
      by : (s : Stage) → FitsOn q (after_row v q (granted_at known.0 s) reading)
      by (stage.Asked at) = with_claims2 (with_stage known.0 stage.Ready v.claims) (valid_staged known.0 stage.Ready v.claims fit.valid)
      by stage.Ready = fit
      by stage.Leaving = fit

  denied_on : (o : Option (ℕ × Stage)) (of_run : Bool) (w : Why) (reading : ℕ) → FitsOn q (after_row v q (denied_row o of_run w) reading)
  unfolding after_row
  denied_on None of_run w reading = fit
  denied_on (Some known) true w reading = by (is_spent_why w)
    where
      by : (b : Bool) → FitsOn q (after_row v q (cond b row.Nothing (row.Leave known.0)) reading)
      by true = fit
      by false = with_claims2 (with_stage known.0 stage.Leaving v.claims) (valid_staged known.0 stage.Leaving v.claims fit.valid)
  denied_on (Some known) false w reading = by known.1
    where
      by : (s : Stage) → FitsOn q (after_row v q (denied_claim known.0 s) reading)
      by (stage.Asked at) = with_claims2 (claims_without known.0 v.claims) (valid_without known.0 v.claims fit.valid)
      by stage.Ready = fit
      by stage.Leaving = fit

  seen_on : (o : Option ℕ) (reading : ℕ) → FitsOn q (after_row v q (seen_at o) reading)
  unfolding after_row
  seen_on None reading = fit
  seen_on (Some i) reading = noted_fits i reading

  pub mail_fits : (m : Mail) (reading : ℕ) → IsOfClaim m → FitsOn q (after_mail v q m reading)
  unfolding after_row mail_row
  mail_fits (mail.Update slot) reading valid = fit
  mail_fits (mail.Matched found) reading valid = asked_on ((is_idle_place (job_place q v.left found.job) && not (engages found.job v.claims)) && is_none (place_of_claim found.claim.no v.claims)) found reading valid
  mail_fits (mail.Ask claim job ad by_priority) reading valid = fit
  mail_fits (mail.Granted claim job) reading valid = granted_on (stage_known v claim.no) claim.no reading
  mail_fits (mail.Denied claim run job why) reading valid = denied_on (stage_known v claim) (is_some run) why reading
  mail_fits (mail.Activate run job ad until) reading valid = fit
  mail_fits (mail.Alive run until) reading valid = fit
  mail_fits (mail.Seen run until) reading valid = seen_on (place_of_run run v.runs) reading
  mail_fits (mail.Stop run) reading valid = fit
  mail_fits (mail.Release claim) reading valid = fit
  mail_fits (mail.Gone run kept) reading valid = gone_on run kept reading
  mail_fits (mail.Ended run how) reading valid = ended_on run how reading
  mail_fits (mail.Remove job) reading valid = ordered_on (remove_plan (job_place q v.left job) job) reading (remove_goes job)
  mail_fits (mail.Hold job) reading valid = ordered_on (hold_plan (job_place q v.left job) job ByCommand) reading (hold_goes job ByCommand)
  mail_fits (mail.Resume job) reading valid = ordered_on (resume_plan (job_place q v.left job) job) reading (resume_goes job)

  -- ---- ticks
  left_on : (job : JobId) → IsIn job v.left → Goes (Some (let_go q job)) (record v { waiting = Some (let_go q job) })
  left_on job there =
      let at = there_under q job (fit.under job there) in
      free_on job (let_go q job) (record v { waiting = Some (let_go q job) }) refl refl refl (let_go_frees q job) (let_go_fits q v.left job at) at (left_apart_runs job (in_left job v.left there))

  past_on : (place : ℕ) → FitsOn q (after_past v q place (slice_get v.runs place))
  past_on place = by (slice_get v.runs place) refl
    where
      by : (o : Option KeptRun) → slice_get v.runs place ≡ o → FitsOn q (after_past v q place o)
      by None is = fit
      by (Some r) is = over_on place r (let_go q r.job) (left_claims r.claim.no v.claims) is (let_go_frees q r.job) (valid_left r.claim.no v.claims fit.valid)

  lengthen_on : (place reading : ℕ) → FitsOn q (after_lengthen v q place (slice_get v.runs place) reading)
  lengthen_on place reading = by (slice_get v.runs place) refl
    where
      with_ad : (r : KeptRun) → slice_get v.runs place ≡ Some r → (o : Option Attributes) → FitsOn q (lengthened_by o v place r reading)
      with_ad r is None = fit
      with_ad r is (Some ad) =
          let pl : JobPlan = plan.Lengthen r.job (later (lease_end ad v.settings reading) (lease_until ad)) in
          let w : ScheddValue = record v { runs = with_alive place reading false v.runs; waiting = Some pl } in
          let new_run : KeptRun = record r { alive = reading; found = false } in
          let under = run_is_under q v.left r (fit.each r (in_at v.runs place r is)) in (
            under,
            λ new h. fits_logged new pl w
                (subst (λ rs. FitsWith new v.left rs v.claims) (sym (ap (λ o. enlivened o place reading false v.runs) is))
                (fits_kept q v.left v.runs v.claims fit new pl h (slice_set v.runs place new_run) tt under
                (λ s there. from s r new_run refl refl refl (in_at v.runs place r is) (in_changed v.runs place new_run s there))
                (λ s there. stays_after_change v.runs place r new_run s is refl there)
                (different_changed v.runs place r new_run is refl fit.one))),
          )
        where
          from : (s r n : KeptRun) → n.job ≡ r.job → n.claim ≡ r.claim → n.number ≡ r.number → IsIn r v.runs → (s ≡ n) ⊎ IsIn s v.runs → (t : KeptRun) × IsIn t v.runs × SameRun s t
          from s r n job claim number there (inl same) = (r, there, record { job = ap (λ x. x.job) same ∙ job; claim = ap (λ x. x.claim) same ∙ claim; number = ap (λ x. x.number) same ∙ number })
          from s r n job claim number there (inr was) = (s, was, record { job = refl; claim = refl; number = refl })

      by : (o : Option KeptRun) → slice_get v.runs place ≡ o → FitsOn q (after_lengthen v q place o reading)
      by None is = fit
      by (Some r) is = with_ad r is (ad_at (Proc r.job) q)

  grant_on : (place : ℕ) (job : JobId) (reading : ℕ) → IdleAd q job → FitsOn q (after_grant v q place (slice_get v.claims place) job reading)
  grant_on place job reading i = by (slice_get v.claims place) refl
    where
      free : is_under_at q job ≡ false
      free = ap under_by i.ad_is ∙ ap is_under_kind i.kind_is

      not_left : is_left job v.left ≡ false
      not_left = at (is_left job v.left) refl
        where
          at : (b : Bool) → is_left job v.left ≡ b → b ≡ false
          at true e = let clash : true ≡ false = sym (fit.under job (left_in job v.left e)) ∙ free in cc
          at false e = refl

      apart : (s : KeptRun) → IsIn s v.runs → s.job ≢ job
      apart s there same = let clash : true ≡ false = sym (run_is_under q v.left s (fit.each s there)) ∙ (ap (is_under_at q) same ∙ free) in cc

      by : (o : Option KeptClaim) → slice_get v.claims place ≡ o → FitsOn q (after_grant v q place o job reading)
      by None is = fit
      by (Some c) is =
          let until : ℕ = lease_end i.ad v.settings reading in
          let header : Bool = is_some (ad_at Header q) in
          let pl : JobPlan = plan.Grant job c.claim v.next_run until header in
          let r : KeptRun = run_granted job c v.next_run reading in
          let w : ScheddValue = record v { runs = with_run r v.runs; claims = with_job place job v.claims; waiting = Some pl } in
          let valid = fit.valid c (in_at v.claims place c is) in
          let fits : IsFitting q v.left pl = (is_there q job i.ad i.ad_is (ap is_some i.kind_is), not_left, valid) in
          subst (λ o. FitsOn q (granted_by o v header place c job reading)) (sym i.ad_is) (
            fits,
            λ new h. fits_logged new pl w
                (fits_granted q v.left v.runs v.claims fit new job c.claim v.next_run until header r (with_run r v.runs) (with_job place job v.claims) h fits free refl refl refl
                (λ s there. in_inserted v.runs (place_for job v.runs) r s there)
                (λ s there. stays_after_insertion v.runs (place_for job v.runs) r s there)
                (inserted_is_in v.runs (place_for job v.runs) r)
                (different_inserted v.runs (place_for job v.runs) r apart fit.one)
                (valid_named place job v.claims fit.valid)),
          )

  give_up_on : (place : ℕ) → FitsOn q (after_give_up v place (slice_get v.claims place))
  give_up_on place = by (slice_get v.claims place)
    where
      by : (o : Option KeptClaim) → FitsOn q (after_give_up v place o)
      by None = fit
      by (Some c) = with_claims2 (claims_without place v.claims) (valid_without place v.claims fit.valid)

  line_fits : (l : TickLine) (found : Option Key) (reading : ℕ) → LineTold v q reading l → IsSought v q l found → FitsOn q (after_line v q l found reading)
  unfolding after_line
  line_fits line.Nothing found reading told sought = fit
  line_fits (line.Left job) found reading told sought = left_on job told
  line_fits (line.Past place) found reading told sought = past_on place
  line_fits (line.Lengthen place) found reading told sought = lengthen_on place reading
  line_fits (line.Regrant place job) found reading told sought = grant_on place job reading (idle_at q job told)
  line_fits (line.Seek place) None reading told sought = give_up_on place
  line_fits (line.Seek place) (Some Header) reading told sought = give_up_on place
  line_fits (line.Seek place) (Some (Proc job)) reading told sought = grant_on place job reading (sought_idle v q place job sought)
  line_fits (line.GiveUp place) found reading told sought = give_up_on place

  pub tick_fits : (reading : ℕ) (new : ScheddValue) (step : ScheddStep) → IsTicked v q reading new step → FitsOn q (record { schedd = new; step = step })
  tick_fits reading new step t =
      subst (λ s. FitsOn q (record { schedd = s; step = step })) (sym t.schedd)
      (subst (λ s. FitsOn q (record { schedd = (after_line v q (tick_line v q reading) t.found reading).schedd; step = s })) (sym t.done)
      (line_fits (tick_line v q reading) t.found reading (line_told v q reading) t.sought))

  -- ---- looks at periodic expressions
  pub check_fits : (job : JobId) (reading : ℕ) → FitsOn q (after_check v q job reading)
  unfolding after_check
  check_fits job reading = by (ad_at (Proc job) q)
    where
      looked : Like (with_look job reading v)
      looked = record { left = refl; runs = refl; claims = refl }

      waits_on : (o : Option JobPlan) → ((w : ScheddValue) → Like w → Goes o w) → FitsOn q (waits_for o (with_look job reading v))
      waits_on None goes = goes (with_look job reading v) looked
      waits_on (Some pl) goes = goes (record (with_look job reading v) { waiting = Some pl }) (record { left = refl; runs = refl; claims = refl })

      chosen : (hold remove release : Bool) (w : ScheddValue) → Like w → Goes (cond hold (hold_plan (job_place q v.left job) job ByPolicy) (cond remove (remove_plan (job_place q v.left job) job) (cond release (resume_plan (job_place q v.left job) job) None))) w
      chosen true remove release w l = hold_goes job ByPolicy w l
      chosen false true release w l = remove_goes job w l
      chosen false false true w l = resume_goes job w l
      chosen false false false w l = like_fits w l

      by : (o : Option Attributes) → FitsOn q (after_check_by o v q job reading)
      by None = fit
      by (Some ad) = waits_on (policy_plan (job_place q v.left job) job ad reading)
          (chosen (can_be_held (job_place q v.left job) && is_asked_by ad reading PERIODIC_HOLD.now) (is_asked_by ad reading PERIODIC_REMOVE.now) (is_waiting (job_place q v.left job) && is_asked_by ad reading PERIODIC_RELEASE.now))
