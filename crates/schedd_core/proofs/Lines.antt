-- What the rows of mails and the lines of a tick tell.
use Rattle.std.proofs.Common.{◌≡◌, ℕ, Bool, true, false, cond, slice_get, Option, Some, None, refl, ap, sym, ◌∙◌}
use Rattle.ad_tree.specs.Ad.{Attributes}
use Rattle.claim_id.specs.declared.numbers.JobId.{JobId}
use Rattle.pool_mail.specs.declared.settings.Settings.{Settings}
use Rattle.queue_tx.specs.declared.key.Key.TheVariants.{Proc}
use Rattle.queue_tx.specs.declared.kind.JobKind.{JobKind}
use Rattle.queue_tx.specs.declared.kind.JobKind.TheVariants as kind
use Rattle.queue_tx.specs.Jobs.{IsJobOf, kind_under}
use Rattle.queue_tx.specs.Kinds.{kind_of}
use Rattle.queue_tx.specs.Queues.{KeyedAds, ad_at}
use Rattle.schedd_plan.specs.declared.claims.KeptClaim.{KeptClaim}
use Rattle.schedd_plan.specs.declared.claims.Stage.{Stage}
use Rattle.schedd_plan.specs.declared.claims.Stage.TheVariants as stage
use Rattle.schedd_plan.specs.declared.runs.KeptRun.{KeptRun}
use Rattle.schedd_plan.specs.declared.tick.RunLine.{RunLine}
use Rattle.schedd_plan.specs.declared.tick.RunLine.TheVariants as of_run
use Rattle.schedd_plan.specs.declared.tick.TickLine.{TickLine}
use Rattle.schedd_plan.specs.declared.tick.TickLine.TheVariants as line
use Rattle.schedd_plan.specs.JobPlaces.{is_idle, is_idle_by, is_idle_at}
use Rattle.schedd_plan.specs.KeptRuns.{has_job_under}
use Rattle.schedd_plan.specs.TickTable.{is_past, is_quiet, line_of_run, run_line_by, run_line, due_run, asked_line, ready_line, leaving_line, staged_line, claim_line, due_claim, line_at_run, line_at_claim, is_after}
use Rattle.schedd_state.specs.Schedds.{ScheddValue}
use Rattle.schedd_state.specs.DueLines.{line_of_known, line_of_place, line_in_claim, line_of_claim, line_of_due_claim, line_of_claims, comes_first, line_of_jobs, tick_line}
use Rattle.schedd_core.specs.Ticks.{IsSought, IsSoughtBy}
use Rattle.pool_view.specs.AbstractPool.{IsIn}
use Rattle.schedd_core.proofs.Places.{in_at}

-- the run of a place, with what is due of it
pub record RunAt (v : ScheddValue) (q : KeyedAds) (place reading : ℕ) (what : RunLine) : Type 0 where
  pub run : KeptRun
  pub at : slice_get v.runs place ≡ Some run
  pub due : run_line run q v.settings reading ≡ what

-- what each line of a tick tells
abbrev pub LineTold : ScheddValue → KeyedAds → ℕ → TickLine → Type 0
LineTold v q reading line.Nothing = Unit {0}
LineTold v q reading (line.Left job) = IsIn job v.left
LineTold v q reading (line.Past place) = RunAt v q place reading of_run.Past
LineTold v q reading (line.Lengthen place) = RunAt v q place reading of_run.Lengthen
LineTold v q reading (line.Regrant place job) = is_idle_at q job ≡ true
LineTold v q reading (line.Seek place) = Unit {0}
LineTold v q reading (line.GiveUp place) = Unit {0}

module _ (v : ScheddValue) (q : KeyedAds) (reading : ℕ) where
  place_told : (place : ℕ) → LineTold v q reading (line_of_place v q place reading)
  place_told place = by (slice_get v.runs place) refl
    where
      at_line : (r : KeptRun) → slice_get v.runs place ≡ Some r → (l : RunLine) → run_line r q v.settings reading ≡ l → LineTold v q reading (line_at_run place l)
      at_line r is of_run.Past e = record { run = r; at = is; due = e }
      at_line r is of_run.Lengthen e = record { run = r; at = is; due = e }
      at_line r is of_run.Nothing e = tt

      by : (o : Option KeptRun) → slice_get v.runs place ≡ o → LineTold v q reading (line_of_known o q v.settings place reading)
      by None is = tt
      by (Some r) is = at_line r is (run_line r q v.settings reading) refl

  claim_told : (place : ℕ) → LineTold v q reading (line_of_claim v q place reading)
  unfolding claim_line
  claim_told place = by (slice_get v.claims place)
    where
      asked : (b : Bool) (job : JobId) → LineTold v q reading (line_at_claim place job (asked_line b))
      asked true job = tt
      asked false job = tt

      ready : (under idle : Bool) (job : JobId) → is_idle_at q job ≡ idle → LineTold v q reading (line_at_claim place job (ready_line under idle))
      ready true idle job is = tt
      ready false true job is = is
      ready false false job is = tt

      leaving : (under : Bool) (job : JobId) → LineTold v q reading (line_at_claim place job (leaving_line under))
      leaving true job = tt
      leaving false job = tt

      staged : (s : Stage) (under : Bool) (job : JobId) → LineTold v q reading (line_at_claim place job (staged_line s under (is_idle_at q job) v.settings reading))
      staged (stage.Asked at) under job = asked (is_after at v.settings.claim_lease reading) job
      staged stage.Ready under job = ready under (is_idle_at q job) job refl
      staged stage.Leaving under job = leaving under job

      by : (o : Option KeptClaim) → LineTold v q reading (line_in_claim o v q place reading)
      by None = tt
      by (Some c) = staged c.stage (has_job_under c.claim.no v.runs) c.job

  claims_told : LineTold v q reading (line_of_claims v q reading)
  claims_told = by (due_claim v.claims v.runs q v.settings reading)
    where
      by : (o : Option ℕ) → LineTold v q reading (line_of_due_claim o v q reading)
      by None = tt
      by (Some place) = claim_told place

  jobs_told : (first : Option JobId) (due : Option ℕ) → slice_get v.left 0 ≡ first → LineTold v q reading (line_of_jobs first due v q reading)
  jobs_told None None is = claims_told
  jobs_told (Some job) None is = in_at v.left 0 job is
  jobs_told None (Some place) is = place_told place
  jobs_told (Some job) (Some place) is = by (comes_first job (slice_get v.runs place))
    where
      by : (b : Bool) → LineTold v q reading (cond b (line.Left job) (line_of_place v q place reading))
      by true = in_at v.left 0 job is
      by false = place_told place

  pub line_told : LineTold v q reading (tick_line v q reading)
  unfolding tick_line
  line_told = jobs_told (slice_get v.left 0) (due_run v.runs q v.settings reading) refl

-- an idle job, by its ad
pub record IdleAd (q : KeyedAds) (job : JobId) : Type 0 where
  pub ad : Attributes
  pub ad_is : ad_at (Proc job) q ≡ Some ad
  pub kind_is : kind_of ad ≡ Some kind.Idle

idle_is : (k : Option JobKind) → is_idle k ≡ true → k ≡ Some kind.Idle
idle_is None h = cc
idle_is (Some kind.Idle) h = refl
idle_is (Some kind.Held) h = cc
idle_is (Some kind.Under) h = cc

pub idle_at : (q : KeyedAds) (job : JobId) → is_idle_at q job ≡ true → IdleAd q job
idle_at q job h = by (ad_at (Proc job) q) refl h
  where
    by : (o : Option Attributes) → ad_at (Proc job) q ≡ o → is_idle_by o ≡ true → IdleAd q job
    by None is h = cc
    by (Some ad) is h = record { ad = ad; ad_is = is; kind_is = idle_is (kind_of ad) h }

pub idle_key : (q : KeyedAds) (job : JobId) → IsJobOf kind.Idle q (Proc job) → IdleAd q job
idle_key q job h = by (ad_at (Proc job) q) refl h
  where
    by : (o : Option Attributes) → ad_at (Proc job) q ≡ o → kind_under (Proc job) o ≡ Some kind.Idle → IdleAd q job
    by None is h = cc
    by (Some ad) is h = record { ad = ad; ad_is = is; kind_is = h }

-- the job that a claim looked for is idle
pub sought_idle : (v : ScheddValue) (q : KeyedAds) (place : ℕ) (job : JobId) → IsSought v q (line.Seek place) (Some (Proc job)) → IdleAd q job
sought_idle v q place job sought = by (slice_get v.claims place) sought
  where
    by : (o : Option KeptClaim) → IsSoughtBy v.claims o q (Some (Proc job)) → IdleAd q job
    by None h = cc
    by (Some c) h = idle_key q job h.meant.0.0

-- ---- the lines of a run
pub record DueAd (q : KeyedAds) (r : KeptRun) : Type 0 where
  pub ad : Attributes
  pub ad_is : ad_at (Proc r.job) q ≡ Some ad

pub past_lease : (q : KeyedAds) (r : KeptRun) (set : Settings) (reading : ℕ) (ad : Attributes) → ad_at (Proc r.job) q ≡ Some ad → run_line r q set reading ≡ of_run.Past
    → is_past (Rattle.schedd_plan.specs.JobAttributes.lease_until ad) reading ≡ true
unfolding run_line
past_lease q r set reading ad is due = by (is_past (Rattle.schedd_plan.specs.JobAttributes.lease_until ad) reading) (is_quiet r set reading) (sym (ap (λ o. run_line_by o r set reading) is) ∙ due)
  where
    by : (past quiet : Bool) → line_of_run past quiet ≡ of_run.Past → past ≡ true
    by true quiet h = refl
    by false true h = cc
    by false false h = cc
