-- Jobs that an earlier boot left are under no run.
use Rattle.std.proofs.Common.{◌≡◌, ◌⊎◌, inl, inr, ℕ, true, false, List, [], ◌∷◌, ◌++◌, Option, Some, None, refl, ap, sym, ◌∙◌, subst}
use Rattle.ad_tree.specs.Ad.{Attributes}
use Rattle.claim_id.specs.declared.numbers.ClaimId.{ClaimId}
use Rattle.claim_id.specs.declared.numbers.JobId.{JobId}
use Rattle.claim_id.specs.declared.numbers.RunNo.{RunNo}
use Rattle.pool_view.specs.AbstractPool.{IsIn}
use Rattle.queue_tx.specs.declared.key.Key.TheVariants.{Proc}
use Rattle.queue_tx.specs.Queues.{KeyedAds, ad_at}
use Rattle.schedd_plan.specs.declared.claims.KeptClaim.{KeptClaim}
use Rattle.schedd_plan.specs.declared.runs.KeptRun.{KeptRun}
use Rattle.schedd_plan.specs.JobPlaces.{is_left}
use Rattle.schedd_core.specs.Logging.{run_of_job, reopened, IsReopened}
use Rattle.schedd_state.specs.Reopening.{IsReader, one_claim, claims_behind, found_claims, found_runs, still_left}
use Rattle.schedd_core.specs.ScheddParts.{Fits}
use Rattle.schedd_state.specs.Schedds.{ScheddValue}
use Rattle.schedd_core.proofs.BackFits.{in_both, reopened_fits}
use Rattle.schedd_core.proofs.FitsAfter.{run_not_left}
use Rattle.schedd_core.proofs.LoggedMails.{run_found}
use Rattle.schedd_core.proofs.PlanMay.{in_left}

pub left_has_no_run : (q : KeyedAds) (v : ScheddValue) (job : JobId) → Fits q v → IsIn job v.left → run_of_job v.runs job ≡ None
left_has_no_run q v job fit there = by (run_of_job v.runs job) refl
  where
    by : (o : Option RunNo) → run_of_job v.runs job ≡ o → run_of_job v.runs job ≡ None
    by None e = e
    by (Some run) e =
        let f = run_found v.runs job run e in
        let clash : true ≡ false = sym (in_left job v.left there) ∙ (ap (λ j. is_left j v.left) (sym f.job_is) ∙ run_not_left q v.left f.kept (fit.each f.kept f.there)) in cc

-- the claims of runs are of their jobs
module _ (q : KeyedAds) (P : JobId → Type 0) where
  claims_of : (rs : List KeptRun) (claims : List KeptClaim) → ((c : KeptClaim) → IsIn c claims → P c.job) → ((r : KeptRun) → IsIn r rs → P r.job) → (c : KeptClaim) → IsIn c (claims_behind q rs claims) → P c.job
  claims_of [] claims old new = old
  claims_of (r ∷ rs) claims old new = claims_of rs (claims ++ one_claim (ad_at (Proc r.job) q) r) (λ c there. by c (in_both c claims (one_claim (ad_at (Proc r.job) q) r) there)) (λ s there. new s (inr there))
    where
      last : (c : KeptClaim) (o : Option Attributes) → IsIn c (one_claim o r) → P c.job
      last c None h = absurd h
      last c (Some ad) (inl same) = subst (λ x. P x.job) (sym same) (new r (inl refl))
      last c (Some ad) (inr h) = absurd h

      by : (c : KeptClaim) → IsIn c claims ⊎ IsIn c (one_claim (ad_at (Proc r.job) q) r) → P c.job
      by c (inl there) = old c there
      by c (inr there) = last c (ad_at (Proc r.job) q) there

pub back_without_left : (read : List ℕ → Option ClaimId) → IsReader read → (q : KeyedAds) (v back : ScheddValue) (reading : ℕ) (claim : KeptClaim) → Fits q v → IsReopened v q reading back → IsIn claim back.claims → is_left claim.job back.left ≡ false
unfolding reopened
back_without_left read reads q v back reading claim fit r there =
    let is = r.schedd read reads in
    let left = still_left q v.left in
    let runs = found_runs read q left reading r.jobs in
    let fits = subst (Fits q) is (reopened_fits read reads q reading v back fit r) in
    let at : IsIn claim (found_claims q runs) = subst (λ w. IsIn claim w.claims) is there in
    ap (λ w. is_left claim.job w.left) is ∙ claims_of q (λ job. is_left job left ≡ false) runs [] (λ c h. absurd h) (λ s h. run_not_left q left s (fits.each s h)) claim at
