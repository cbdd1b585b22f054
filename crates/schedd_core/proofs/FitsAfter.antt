-- A schedd goes on to fit its queue once what it planned is logged.
use Rattle.std.proofs.Common.{◌≡◌, ◌⊎◌, inl, inr, ℕ, Bool, true, false, not, List, Option, Some, None, is_some, IsSome, IsSomeAnd, refl, ap, sym, ◌∙◌, subst}
use Rattle.std.specs.Prelude.{Ok}
use Rattle.ad_tree.specs.Ad.{Attributes}
use Rattle.claim_id.specs.declared.numbers.ClaimId.{ClaimId}
use Rattle.claim_id.specs.declared.numbers.JobId.{JobId}
use Rattle.claim_id.specs.Texts.{IsClaim}
use Rattle.pool_view.specs.AbstractPool.{IsIn}
use Rattle.pool_view.specs.Numbers.{same_job}
use Rattle.pool_view.proofs.Sameness.{same_job-true}
use Rattle.pool_view.proofs.Members.{in_filter, passes}
use Rattle.queue_tx.specs.declared.key.Key.TheVariants.{Proc}
use Rattle.queue_tx.specs.declared.kind.JobKind.{JobKind}
use Rattle.queue_tx.specs.declared.kind.JobKind.TheVariants as kind
use Rattle.queue_tx.specs.Kinds.{kind_of}
use Rattle.queue_tx.specs.Queues.{KeyedAds, ad_at, queue_after}
use Rattle.schedd_plan.specs.declared.plan.JobPlan.{JobPlan}
use Rattle.schedd_plan.specs.declared.plan.JobPlan.TheVariants as plan
use Rattle.schedd_plan.specs.Plans.{job_of, plan_ops}
use Rattle.schedd_plan.specs.declared.claims.KeptClaim.{KeptClaim}
use Rattle.schedd_plan.specs.declared.runs.KeptRun.{KeptRun}
use Rattle.schedd_plan.specs.JobPlaces.{is_left, taken_off}
use Rattle.schedd_core.specs.JobStates.{NamesRun}
use Rattle.schedd_core.specs.Logging.{after_plan}
use Rattle.schedd_state.specs.Reopening.{is_under_kind, under_by, is_under_at}
use Rattle.schedd_core.specs.ScheddParts.{IsUnderRun, AreOfDifferentJobs, FitsWith, Fits, IsThere, IsFitting}
use Rattle.schedd_state.specs.Schedds.{ScheddValue}
use Rattle.schedd_core.proofs.PlanAds.{with_status, marked_held, lengthened, granted, has_claim, under_kind, run_kind, idle_kind, held_kind, run_status, run_marked, run_lengthened, run_granted, claim_status, claim_marked, claim_lengthened}
use Rattle.schedd_core.proofs.PlanJobs.{plan_ad, ad_of_plan, ad_elsewhere, left_after, left_apart, UnderAd, under_ad}
use Rattle.schedd_core.proofs.QueueChanges.{ordered_after}

-- a plan that takes a job from its run, or out of the queue
abbrev pub Frees : JobId → JobPlan → Type 0
Frees k (plan.PutIdle job) = job ≡ k
Frees k (plan.PutHeld job reason) = job ≡ k
Frees k (plan.Complete job completion) = job ≡ k
Frees k (plan.Remove job) = job ≡ k
Frees k (plan.MarkRemoved job) = ⊥
Frees k (plan.MarkHeld job reason) = ⊥
Frees k (plan.MarkRunning job) = ⊥
Frees k (plan.Lengthen job until) = ⊥
Frees k (plan.Grant job claim number until header) = ⊥

-- a plan that leaves a job under its run
abbrev pub Keeps : JobPlan → Type 0
Keeps (plan.PutIdle job) = ⊥
Keeps (plan.PutHeld job reason) = ⊥
Keeps (plan.Complete job completion) = ⊥
Keeps (plan.Remove job) = ⊥
Keeps (plan.MarkRemoved job) = Unit {0}
Keeps (plan.MarkHeld job reason) = Unit {0}
Keeps (plan.MarkRunning job) = Unit {0}
Keeps (plan.Lengthen job until) = Unit {0}
Keeps (plan.Grant job claim number until header) = ⊥

pub freed_job : (k : JobId) (p : JobPlan) → Frees k p → job_of p ≡ k
freed_job k (plan.PutIdle job) f = f
freed_job k (plan.PutHeld job reason) f = f
freed_job k (plan.Complete job completion) f = f
freed_job k (plan.Remove job) f = f
freed_job k (plan.MarkRemoved job) f = absurd f
freed_job k (plan.MarkHeld job reason) f = absurd f
freed_job k (plan.MarkRunning job) f = absurd f
freed_job k (plan.Lengthen job until) f = absurd f
freed_job k (plan.Grant job claim number until header) f = absurd f

off : (k job : JobId) (left : List JobId) → IsIn k (taken_off job left) → IsIn k left × (same_job k job ≡ false)
off k job left h = (in_filter (λ other. not (same_job other job)) k left h, by (same_job k job) (passes (λ other. not (same_job other job)) k left h))
  where
    by : (b : Bool) → not b ≡ true → b ≡ false
    by true h = cc
    by false h = refl

freed_left : (j : JobId) (p : JobPlan) (k : JobId) (left : List JobId) → Frees j p → IsIn k (left_after p left) → IsIn k left × (same_job k (job_of p) ≡ false)
freed_left j (plan.PutIdle job) k left f h = off k job left h
freed_left j (plan.PutHeld job reason) k left f h = off k job left h
freed_left j (plan.Complete job completion) k left f h = off k job left h
freed_left j (plan.Remove job) k left f h = off k job left h
freed_left j (plan.MarkRemoved job) k left f h = absurd f
freed_left j (plan.MarkHeld job reason) k left f h = absurd f
freed_left j (plan.MarkRunning job) k left f h = absurd f
freed_left j (plan.Lengthen job until) k left f h = absurd f
freed_left j (plan.Grant job claim number until header) k left f h = absurd f

-- what Fits looks at in a schedd whose plan was logged
pub fits_logged : (new : KeyedAds) (p : JobPlan) (w : ScheddValue) → FitsWith new (left_after p w.left) w.runs w.claims → Fits new (after_plan p w)
unfolding after_plan
fits_logged new (plan.PutIdle job) w f = f
fits_logged new (plan.PutHeld job reason) w f = f
fits_logged new (plan.Complete job completion) w f = f
fits_logged new (plan.Remove job) w f = f
fits_logged new (plan.MarkRemoved job) w f = f
fits_logged new (plan.MarkHeld job reason) w f = f
fits_logged new (plan.MarkRunning job) w f = f
fits_logged new (plan.Lengthen job until) w f = f
fits_logged new (plan.Grant job claim number until header) w f = f

-- a job that was freed is under no claim
not_under : (k : JobKind) (o : Option JobKind) → o ≡ Some k → is_under_kind (Some k) ≡ false → is_under_kind o ≡ false
not_under k o is h = ap is_under_kind is ∙ h

pub freed_kind : (j : JobId) (p : JobPlan) (ad : Attributes) → Frees j p → Rattle.ad_tree.specs.Ad.AreDistinct ad → under_by (plan_ad p ad) ≡ false
unfolding plan_ad
freed_kind j (plan.PutIdle job) ad f d = ap is_under_kind (idle_kind ad d)
freed_kind j (plan.PutHeld job reason) ad f d = ap is_under_kind (held_kind reason ad d)
freed_kind j (plan.Complete job completion) ad f d = refl
freed_kind j (plan.Remove job) ad f d = refl
freed_kind j (plan.MarkRemoved job) ad f d = absurd f
freed_kind j (plan.MarkHeld job reason) ad f d = absurd f
freed_kind j (plan.MarkRunning job) ad f d = absurd f
freed_kind j (plan.Lengthen job until) ad f d = absurd f
freed_kind j (plan.Grant job claim number until header) ad f d = absurd f

-- a job that was kept under its run is under the same
record KeptAd (ad new : Attributes) : Type 0 where
  pub kind_is : kind_of new ≡ Some kind.Under
  pub run_is : (claim : ClaimId) (number end : ℕ) → NamesRun ad claim number end → (later : ℕ) × NamesRun new claim number later

kept_ad : (p : JobPlan) (ad : Attributes) → Keeps p → kind_of ad ≡ Some kind.Under → (new : Attributes) × (plan_ad p ad ≡ Some new) × KeptAd ad new
unfolding plan_ad
kept_ad (plan.PutIdle job) ad f u = absurd f
kept_ad (plan.PutHeld job reason) ad f u = absurd f
kept_ad (plan.Complete job completion) ad f u = absurd f
kept_ad (plan.Remove job) ad f u = absurd f
kept_ad (plan.MarkRemoved job) ad f u = (
  with_status 3 ad,
  refl,
  record {
    kind_is = under_kind (with_status 3 ad) (ap is_some (claim_status 3 ad) ∙ has_claim ad u);
    run_is = λ claim number end r. (end, run_status 3 ad claim number end r);
  },
)
kept_ad (plan.MarkHeld job reason) ad f u = (
  marked_held reason ad,
  refl,
  record {
    kind_is = under_kind (marked_held reason ad) (ap is_some (claim_marked reason ad) ∙ has_claim ad u);
    run_is = λ claim number end r. (end, run_marked reason ad claim number end r);
  },
)
kept_ad (plan.MarkRunning job) ad f u = (
  with_status 2 ad,
  refl,
  record {
    kind_is = under_kind (with_status 2 ad) (ap is_some (claim_status 2 ad) ∙ has_claim ad u);
    run_is = λ claim number end r. (end, run_status 2 ad claim number end r);
  },
)
kept_ad (plan.Lengthen job until) ad f u = (
  lengthened until ad,
  refl,
  record {
    kind_is = under_kind (lengthened until ad) (ap is_some (claim_lengthened until ad) ∙ has_claim ad u);
    run_is = λ claim number end r. (until, run_lengthened until ad claim number end r);
  },
)
kept_ad (plan.Grant job claim number until header) ad f u = absurd f

kept_left : (p : JobPlan) (left : List JobId) → Keeps p → left_after p left ≡ left
kept_left (plan.PutIdle job) left f = absurd f
kept_left (plan.PutHeld job reason) left f = absurd f
kept_left (plan.Complete job completion) left f = absurd f
kept_left (plan.Remove job) left f = absurd f
kept_left (plan.MarkRemoved job) left f = refl
kept_left (plan.MarkHeld job reason) left f = refl
kept_left (plan.MarkRunning job) left f = refl
kept_left (plan.Lengthen job until) left f = refl
kept_left (plan.Grant job claim number until header) left f = absurd f

kept_under : (q : KeyedAds) (left : List JobId) (p : JobPlan) → Keeps p → IsFitting q left p → is_under_at q (job_of p) ≡ true
kept_under q left (plan.PutIdle job) f fits = absurd f
kept_under q left (plan.PutHeld job reason) f fits = absurd f
kept_under q left (plan.Complete job completion) f fits = absurd f
kept_under q left (plan.Remove job) f fits = absurd f
kept_under q left (plan.MarkRemoved job) f fits = fits
kept_under q left (plan.MarkHeld job reason) f fits = fits
kept_under q left (plan.MarkRunning job) f fits = fits
kept_under q left (plan.Lengthen job until) f fits = fits
kept_under q left (plan.Grant job claim number until header) f fits = absurd f

-- two runs of one job under one number
pub record SameRun (s t : KeptRun) : Type 0 where
  pub job : s.job ≡ t.job
  pub claim : s.claim ≡ t.claim
  pub number : s.number ≡ t.number

pub ad_by : (q : KeyedAds) (job : JobId) → IsThere q job → (ad : Attributes) × (ad_at (Proc job) q ≡ Some ad) × IsSome (kind_of ad)
ad_by q job there = by (ad_at (Proc job) q) refl there
  where
    by : (o : Option Attributes) → ad_at (Proc job) q ≡ o → IsSomeAnd o (λ ad. IsSome (kind_of ad)) → (ad : Attributes) × (ad_at (Proc job) q ≡ Some ad) × IsSome (kind_of ad)
    by None is h = absurd h
    by (Some ad) is h = (ad, is, h)

-- what is under a run is not the job that isn't
pub under_apart : (q : KeyedAds) (j k : JobId) → is_under_at q j ≡ true → is_under_at q k ≡ false → same_job j k ≡ false
under_apart q j k under free = by (same_job j k) refl
  where
    by : (b : Bool) → same_job j k ≡ b → b ≡ false
    by true is = let same = same_job-true j k is in let clash : true ≡ false = sym under ∙ (ap (is_under_at q) same ∙ free) in cc
    by false is = refl

pub run_is_under : (q : KeyedAds) (left : List JobId) (r : KeptRun) → IsUnderRun q left r → is_under_at q r.job ≡ true
run_is_under q left r under = by (ad_at (Proc r.job) q) under
  where
    by : (o : Option Attributes) → IsSomeAnd o (λ ad. (is_left r.job left ≡ false) × ((end : ℕ) × NamesRun ad r.claim r.number end)) → under_by o ≡ true
    by None h = absurd h
    by (Some ad) h = ap is_under_kind (run_kind ad r.claim r.number h.1.0 h.1.1)

pub run_not_left : (q : KeyedAds) (left : List JobId) (r : KeptRun) → IsUnderRun q left r → is_left r.job left ≡ false
run_not_left q left r under = by (ad_at (Proc r.job) q) under
  where
    by : (o : Option Attributes) → IsSomeAnd o (λ ad. (is_left r.job left ≡ false) × ((end : ℕ) × NamesRun ad r.claim r.number end)) → is_left r.job left ≡ false
    by None h = absurd h
    by (Some ad) h = h.0

module _ (q : KeyedAds) (left : List JobId) (runs : List KeptRun) (claims : List KeptClaim) (fit : FitsWith q left runs claims) (new : KeyedAds) where
  module _ (p : JobPlan) (h : queue_after q (plan_ops p) ≡ Ok new) where
    run_elsewhere : (s : KeptRun) → same_job s.job (job_of p) ≡ false → IsUnderRun q left s → IsUnderRun new (left_after p left) s
    run_elsewhere s apart under =
        subst (λ b. IsSomeAnd (ad_at (Proc s.job) new) (λ ad. (b ≡ false) × ((end : ℕ) × NamesRun ad s.claim s.number end))) (sym (left_apart p s.job left apart))
        (subst (λ o. IsSomeAnd o (λ ad. (is_left s.job left ≡ false) × ((end : ℕ) × NamesRun ad s.claim s.number end))) (sym (ad_elsewhere q new p s.job fit.queue.keys h apart)) under)

    under_elsewhere : (k : JobId) → same_job k (job_of p) ≡ false → is_under_at new k ≡ is_under_at q k
    under_elsewhere k apart = ap under_by (ad_elsewhere q new p k fit.queue.keys h apart)

    -- ---- one that frees its job
    pub fits_freed : (j : JobId) (runs2 : List KeptRun) (claims2 : List KeptClaim) → Frees j p → IsThere q j
        → ((s : KeptRun) → IsIn s runs2 → IsIn s runs × (same_job s.job j ≡ false))
        → ((s : KeptRun) → IsIn s runs → same_job s.job j ≡ false → IsIn s runs2)
        → AreOfDifferentJobs runs2 → ((c : KeptClaim) → IsIn c claims2 → IsClaim c.claim)
        → FitsWith new (left_after p left) runs2 claims2
    fits_freed j runs2 claims2 frees there kept stays one valid = record {
      queue = ordered_after q new (plan_ops p) fit.queue h;
      each = λ s in2. let was = kept s in2 in run_elsewhere s (ap (same_job s.job) job_is ∙ was.1) (fit.each s was.0);
      one = one;
      all = λ k under not_left. all k (same_job k (job_of p)) refl under not_left;
      under = λ k in2. let was = freed_left j p k left frees in2 in under_elsewhere k was.1 ∙ fit.under k was.0;
      valid = valid;
    }
      where
        job_is : job_of p ≡ j
        job_is = freed_job j p frees

        not_under_now : is_under_at new (job_of p) ≡ false
        not_under_now =
            let ad = ad_by q (job_of p) (subst (IsThere q) (sym job_is) there) in
            ap under_by (ad_of_plan q new p ad.0 fit.queue.keys h ad.1) ∙ freed_kind j p ad.0 frees (fit.queue.names (Proc (job_of p)) ad.0 ad.1)

        all : (k : JobId) (b : Bool) → same_job k (job_of p) ≡ b → is_under_at new k ≡ true → is_left k (left_after p left) ≡ false → (r : KeptRun) × IsIn r runs2 × (r.job ≡ k)
        all k true is under not_left =
            let clash : true ≡ false = sym under ∙ (ap (is_under_at new) (same_job-true k (job_of p) is) ∙ not_under_now) in cc
        all k false is under not_left =
            let r = fit.all k (sym (under_elsewhere k is) ∙ under) (sym (left_apart p k left is) ∙ not_left) in
            let apart : same_job r.0.job j ≡ false = ap (λ x. same_job x j) r.2 ∙ (ap (same_job k) (sym job_is) ∙ is) in
            (r.0, stays r.0 r.1 apart, r.2)

    -- ---- one that keeps its job under its run
    pub fits_kept : (runs2 : List KeptRun) → Keeps p → IsFitting q left p
        → ((s : KeptRun) → IsIn s runs2 → (t : KeptRun) × IsIn t runs × SameRun s t)
        → ((s : KeptRun) → IsIn s runs → (t : KeptRun) × IsIn t runs2 × (t.job ≡ s.job))
        → AreOfDifferentJobs runs2 → FitsWith new (left_after p left) runs2 claims
    fits_kept runs2 keeps fits from to one = record {
      queue = ordered_after q new (plan_ops p) fit.queue h;
      each = λ s in2. let t = from s in2 in of_same s t.0 t.2 (on t.0 (fit.each t.0 t.1));
      one = one;
      all = λ k under not_left.
          let r = fit.all k (sym (under_same k) ∙ under) (ap (is_left k) (sym left_is) ∙ not_left) in
          let t = to r.0 r.1 in (t.0, t.1, t.2 ∙ r.2);
      under = λ k in2. under_same k ∙ fit.under k (subst (IsIn k) left_is in2);
      valid = fit.valid;
    }
      where
        left_is : left_after p left ≡ left
        left_is = kept_left p left keeps

        its_ad : UnderAd q (job_of p)
        its_ad = under_ad q (job_of p) (kept_under q left p keeps fits)

        new_ad : (ad : Attributes) × (plan_ad p its_ad.ad ≡ Some ad) × KeptAd its_ad.ad ad
        new_ad = kept_ad p its_ad.ad keeps its_ad.kind_is

        now_is : ad_at (Proc (job_of p)) new ≡ Some new_ad.0
        now_is = ad_of_plan q new p its_ad.ad fit.queue.keys h its_ad.ad_is ∙ new_ad.1

        under_same : (k : JobId) → is_under_at new k ≡ is_under_at q k
        under_same k = by (same_job k (job_of p)) refl
          where
            by : (b : Bool) → same_job k (job_of p) ≡ b → is_under_at new k ≡ is_under_at q k
            by true is =
                let same = same_job-true k (job_of p) is in
                ap (is_under_at new) same ∙ (ap under_by now_is ∙ (ap is_under_kind new_ad.2.kind_is ∙ sym (kept_under q left p keeps fits)) ∙ ap (is_under_at q) (sym same))
            by false is = under_elsewhere k is

        on : (t : KeptRun) → IsUnderRun q left t → IsUnderRun new (left_after p left) t
        on t under = by (same_job t.job (job_of p)) refl
          where
            P : JobId → Option Attributes → Type 0
            P k o = IsSomeAnd o (λ ad. (is_left k (left_after p left) ≡ false) × ((end : ℕ) × NamesRun ad t.claim t.number end))

            by : (b : Bool) → same_job t.job (job_of p) ≡ b → IsUnderRun new (left_after p left) t
            by false is = run_elsewhere t is under
            by true is =
                let same = same_job-true t.job (job_of p) is in
                let was : IsSomeAnd (Some its_ad.ad) (λ ad. (is_left t.job left ≡ false) × ((end : ℕ) × NamesRun ad t.claim t.number end)) =
                subst (λ o. IsSomeAnd o (λ ad. (is_left t.job left ≡ false) × ((end : ℕ) × NamesRun ad t.claim t.number end))) (ap (λ k. ad_at (Proc k) q) same ∙ its_ad.ad_is) under in
                subst (λ o. IsSomeAnd o (λ ad. (is_left t.job (left_after p left) ≡ false) × ((end : ℕ) × NamesRun ad t.claim t.number end))) (sym (ap (λ k. ad_at (Proc k) new) same ∙ now_is))
                (ap (is_left t.job) left_is ∙ was.0, new_ad.2.run_is t.claim t.number was.1.0 was.1.1)

        of_same : (s t : KeptRun) → SameRun s t → IsUnderRun new (left_after p left) t → IsUnderRun new (left_after p left) s
        of_same s t same under =
            subst (λ j. IsSomeAnd (ad_at (Proc j) new) (λ ad. (is_left j (left_after p left) ≡ false) × ((end : ℕ) × NamesRun ad s.claim s.number end))) (sym same.job)
            (subst (λ c. IsSomeAnd (ad_at (Proc t.job) new) (λ ad. (is_left t.job (left_after p left) ≡ false) × ((end : ℕ) × NamesRun ad c s.number end))) (sym same.claim)
            (subst (λ n. IsSomeAnd (ad_at (Proc t.job) new) (λ ad. (is_left t.job (left_after p left) ≡ false) × ((end : ℕ) × NamesRun ad t.claim n end))) (sym same.number) under))

  -- ---- one that grants
  pub fits_granted : (job : JobId) (claim : ClaimId) (number until : ℕ) (header : Bool) (r : KeptRun) (runs2 : List KeptRun) (claims2 : List KeptClaim)
      → queue_after q (plan_ops (plan.Grant job claim number until header)) ≡ Ok new
      → IsFitting q left (plan.Grant job claim number until header) → is_under_at q job ≡ false
      → r.job ≡ job → r.claim ≡ claim → r.number ≡ number
      → ((s : KeptRun) → IsIn s runs2 → (s ≡ r) ⊎ IsIn s runs) → ((s : KeptRun) → IsIn s runs → IsIn s runs2) → IsIn r runs2
      → AreOfDifferentJobs runs2 → ((c : KeptClaim) → IsIn c claims2 → IsClaim c.claim) → FitsWith new left runs2 claims2
  unfolding plan_ad
  fits_granted job claim number until header r runs2 claims2 h fits free job_is claim_is number_is from to its one valid = record {
    queue = ordered_after q new (plan_ops (plan.Grant job claim number until header)) fit.queue h;
    each = λ s in2. each s (from s in2);
    one = one;
    all = λ k under not_left. all k (same_job k job) refl under not_left;
    under = λ k in2. let was = fit.under k in2 in under_elsewhere (plan.Grant job claim number until header) h k (under_apart q k job was free) ∙ was;
    valid = valid;
  }
    where
      its_ad : (ad : Attributes) × (ad_at (Proc job) q ≡ Some ad) × IsSome (kind_of ad)
      its_ad = ad_by q job fits.0

      now_is : ad_at (Proc job) new ≡ Some (granted claim number until its_ad.0)
      now_is = ad_of_plan q new (plan.Grant job claim number until header) its_ad.0 fit.queue.keys h its_ad.1

      mine : IsUnderRun new left r
      mine =
          subst (λ j. IsSomeAnd (ad_at (Proc j) new) (λ ad. (is_left j left ≡ false) × ((end : ℕ) × NamesRun ad r.claim r.number end))) (sym job_is)
          (subst (λ o. IsSomeAnd o (λ ad. (is_left job left ≡ false) × ((end : ℕ) × NamesRun ad r.claim r.number end))) (sym now_is) (
            fits.1,
            (
              until,
              subst (λ c. NamesRun (granted claim number until its_ad.0) c r.number until) (sym claim_is)
                  (subst (λ n. NamesRun (granted claim number until its_ad.0) claim n until) (sym number_is) (run_granted its_ad.0 claim number until fits.2)),
            ),
          ))

      each : (s : KeptRun) → (s ≡ r) ⊎ IsIn s runs → IsUnderRun new left s
      each s (inl same) = subst (IsUnderRun new left) (sym same) mine
      each s (inr was) =
          run_elsewhere (plan.Grant job claim number until header) h s (under_apart q s.job job (run_is_under q left s (fit.each s was)) free) (fit.each s was)

      all : (k : JobId) (b : Bool) → same_job k job ≡ b → is_under_at new k ≡ true → is_left k left ≡ false → (t : KeptRun) × IsIn t runs2 × (t.job ≡ k)
      all k true is under not_left = (r, its, job_is ∙ sym (same_job-true k job is))
      all k false is under not_left =
          let t = fit.all k (sym (under_elsewhere (plan.Grant job claim number until header) h k is) ∙ under) not_left in
          (t.0, to t.0 t.1, t.2)
