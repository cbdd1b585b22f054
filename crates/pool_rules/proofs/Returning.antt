-- A schedd that comes back keeps the links: with its unfinished transaction, and without it.
use Rattle.std.proofs.Common.{◌≡◌, ◌⊎◌, inl, inr, ℕ, List, [], ◌∷◌, ◌++◌, Option, Some, None, refl, sym, ◌∙◌, ap, subst}
use Rattle.std.specs.Prelude.{Ok}
use Rattle.ad_tree.specs.Ad.{Attributes}
use Rattle.claim_id.specs.declared.numbers.ClaimId.{ClaimId}
use Rattle.claim_id.specs.declared.numbers.JobId.{JobId}
use Rattle.pool_view.specs.AbstractPool.{IsIn, SameMembers}
use Rattle.pool_view.specs.declared.job.Entry.{Entry}
use Rattle.pool_view.specs.Facts.{Facts}
use Rattle.pool_view.specs.Protocol.{JobRun, Protocol}
use Rattle.pool_view.specs.ProtocolMove.{ProtocolMove, Commit, Drop, MayAll, protocol_after}
use Rattle.queue_tx.specs.declared.key.Key.TheVariants.{Proc}
use Rattle.queue_tx.specs.Operations.{Operation}
use Rattle.queue_tx.specs.Queues.{KeyedAds, ad_at, queue_after}
use Rattle.schedd_plan.specs.declared.plan.JobPlan.{JobPlan}
use Rattle.schedd_plan.specs.Plans.{plan_ops}
use Rattle.schedd_plan.specs.declared.claims.KeptClaim.{KeptClaim}
use Rattle.schedd_plan.specs.declared.runs.KeptRun.{KeptRun}
use Rattle.schedd_plan.specs.KeptRuns.{run_of}
use Rattle.schedd_core.specs.JobStates.{ShowsJobs}
use Rattle.schedd_core.specs.Logging.{IsReopened, after_plan, reopened}
use Rattle.schedd_state.specs.Reopening.{IsReader, claims_behind, found_runs, one_claim, still_left}
use Rattle.schedd_core.specs.ScheddParts.{Fits, IsPart}
use Rattle.schedd_state.specs.Schedds.{ScheddValue}
use Rattle.schedd_core.proofs.BackFits.{reopened_fits}
use Rattle.schedd_core.proofs.KeptPlans.{kept_as_logged, reopened_part}
use Rattle.schedd_core.proofs.LoggedMay.{part_committed}
use Rattle.schedd_core.proofs.PlanMay.{stands_as, under_run}
use Rattle.pool_rules.specs.Linked.{IsPlaced, IsFinishedAs, AwaitsJobs, AwaitsPlan, Awaits, IsLinked, StayLinked}
use Rattle.pool_rules.specs.PoolParts.{Awaited, NewJobs, Planned, PoolParts}
use Rattle.pool_rules.specs.ScheddEvents.{Finishes, parts_with_return}
use Rattle.pool_rules.proofs.Going.{GoesOn, all_good, goes_on}
use Rattle.pool_rules.proofs.Kept.{in_both}
use Rattle.pool_rules.proofs.ScheddKept.{KeepsSaid, nothing_more, schedd_event}
use Rattle.pool_rules.proofs.LinkedLogged.{finished_then, grants_placed, none_waits, said_then}
use Rattle.pool_rules.proofs.Submitting.{finished_new, fits_new, part_then, placed_new, said_new}

-- ---- the claims that it finds are those of the runs that it finds
claims_of : (q : KeyedAds) (P : ClaimId → Type 0) (rs : List KeptRun) (claims : List KeptClaim) → ((c : KeptClaim) → IsIn c claims → P c.claim) → ((r : KeptRun) → IsIn r rs → P r.claim) → (c : KeptClaim) → IsIn c (claims_behind q rs claims) → P c.claim
claims_of q P [] claims old new = old
claims_of q P (r ∷ rs) claims old new = claims_of q P rs (claims ++ one_claim (ad_at (Proc r.job) q) r) (λ c there. by c (in_both c claims (one_claim (ad_at (Proc r.job) q) r) there)) (λ s there. new s (inr there))
  where
    last : (c : KeptClaim) (o : Option Attributes) → IsIn c (one_claim o r) → P c.claim
    last c None h = absurd h
    last c (Some ad) (inl same) = subst (λ x. P x.claim) (sym same) (new r (inl refl))
    last c (Some ad) (inr h) = absurd h

    by : (c : KeptClaim) → IsIn c claims ⊎ IsIn c (one_claim (ad_at (Proc r.job) q) r) → P c.claim
    by c (inl there) = old c there
    by c (inr there) = last c (ad_at (Proc r.job) q) there

back_claims : (read : List ℕ → Option ClaimId) → IsReader read → (q : KeyedAds) (v back : ScheddValue) (reading : ℕ) → IsReopened v q reading back → (P : ClaimId → Type 0) → ((r : KeptRun) → IsIn r back.runs → P r.claim) → (c : KeptClaim) → IsIn c back.claims → P c.claim
unfolding reopened
back_claims read reads q v back reading r P runs c there =
    let is = r.schedd read reads in
    claims_of q P (found_runs read q (still_left q v.left) reading r.jobs) [] (λ d h. absurd h) (λ s h. runs s (subst (IsIn s) (sym (ap (λ w. w.runs) is)) h)) c
    (subst (IsIn c) (ap (λ w. w.claims) is) there)

back_waits : (read : List ℕ → Option ClaimId) → IsReader read → (q : KeyedAds) (v back : ScheddValue) (reading : ℕ) → IsReopened v q reading back → back.waiting ≡ None
unfolding reopened
back_waits read reads q v back reading r = ap (λ w. w.waiting) (r.schedd read reads)

-- ---- it comes back with a queue
module _ (read : List ℕ → Option ClaimId) (reads : IsReader read) where
  -- what it wants of the protocol then
  back_event : (p : Protocol) (a : PoolParts) (m : ProtocolMove) (v back : ScheddValue) (new : KeyedAds) (fin : JobId → Option Entry) (reading : ℕ) → IsLinked p a → MayAll p (m ∷ []) → Rattle.pool_rules.proofs.ScheddKept.IsOffSlots m → (protocol_after p m).pending ≡ None
      → KeepsSaid p.pool (protocol_after p m).pool → IsPart (protocol_after p m) new v → v.waiting ≡ None → Fits new v → IsReopened v new reading back
      → ((job : JobId) → IsFinishedAs (ad_at (Proc job) new) (fin job) ((protocol_after p m).pool.jobs job)) → ((g : JobRun) → IsIn g (protocol_after p m).grants → IsPlaced p g.run.claim)
      → StayLinked p (m ∷ []) (parts_with_return back new fin a)
  back_event p a m v back new fin reading linked may off none said part idle fits reopen finished granted = schedd_event p a (parts_with_return back new fin a) (m ∷ []) linked may (off, tt) refl (record {
    moment = said.moment ∙ linked.moment;
    acked = subst (λ xs. SameMembers xs a.acked) (sym said.acked) linked.acked;
    ordered = subst (λ xs. SameMembers xs a.ordered) (sym said.ordered) linked.ordered;
    reports = subst (λ xs. SameMembers xs a.reports) (sym said.reports) linked.reports;
    schedd = then_part;
    finished = finished;
    sent = [];
    mails = nothing_more a.mails;
    borne = λ k there. absurd there;
    claims = back_claims read reads new v back reading reopen (λ claim. IsPlaced q claim.no) run_placed;
    granted = λ g there. on.placed g.run.claim.slot (granted g there);
    awaited = record { change = none; waiting = back_waits read reads new v back reading reopen; fits = then_fits };
  })
    where
      q : Protocol
      q = protocol_after p m

      on : GoesOn p q
      on = goes_on p (m ∷ []) may linked.facts linked.safe

      facts : Facts q
      facts = (all_good p (m ∷ []) may linked.facts linked.safe).0

      then_part : IsPart q new back
      then_part = reopened_part read reads q new v back reading part idle reopen

      then_fits : Fits new back
      then_fits = reopened_fits read reads new reading v back fits reopen

      run_placed : (r : KeptRun) → IsIn r back.runs → IsPlaced q r.claim.no
      run_placed r there =
          let u = under_run q new back then_part r (then_fits.each r there) in
          on.placed r.claim.no.slot (granted _ (facts.numbers.of_jobs r.job (run_of r) u.end (stands_as q new back then_part r u)))

  -- with its plan
  pub plan_kept : (p : Protocol) (a : PoolParts) (pl : JobPlan) (new : KeyedAds) (fin : JobId → Option Entry) (back : ScheddValue) (reading : ℕ) → IsLinked p a → AwaitsPlan p a pl → queue_after a.queue (plan_ops pl) ≡ Ok new → Finishes pl a.queue a.finished fin
      → IsReopened a.schedd new reading back → StayLinked p (Commit ∷ []) (parts_with_return back new fin a)
  plan_kept p a pl new fin back reading linked w h f reopen =
      back_event p a Commit (after_plan pl a.schedd) back new fin reading linked (tt, tt) tt refl (said_then p a linked)
      (part_committed p a.queue new a.schedd pl linked.schedd w.lost.fits.queue w.fitting h linked.facts w.change)
      (none_waits pl a.schedd) (w.fits new h) (kept_as_logged a.queue new a.schedd pl w.lost.fits.queue w.fitting h back reading w.waiting reopen)
      (finished_then p a pl new fin linked w h f) (grants_placed p a pl linked w)

  -- with its submission
  pub jobs_kept : (p : Protocol) (a : PoolParts) (ids : List JobId) (tx : List Operation) (new : KeyedAds) (back : ScheddValue) (reading : ℕ) → IsLinked p a → AwaitsJobs p a ids tx → queue_after a.queue tx ≡ Ok new
      → IsReopened a.schedd new reading back → StayLinked p (Commit ∷ []) (parts_with_return back new a.finished a)
  jobs_kept p a ids tx new back reading linked w h reopen =
      back_event p a Commit a.schedd back new a.finished reading linked (tt, tt) tt refl (said_new p a ids tx new linked w h)
      (part_then p a ids tx new linked w h) w.idle (fits_new p a ids tx new linked w h) reopen
      (finished_new p a ids tx new linked w h) (placed_new p a ids tx new linked w h)

  -- without
  pub nothing_kept : (p : Protocol) (a : PoolParts) (back : ScheddValue) (reading : ℕ) → IsLinked p a → IsReopened a.schedd a.queue reading back → StayLinked p (Drop ∷ []) (parts_with_return back a.queue a.finished a)
  nothing_kept p a back reading linked reopen = by a.awaited linked.awaited
    where
      lost : (v : ScheddValue) → v.waiting ≡ None → Fits a.queue v → v.left ≡ a.schedd.left → v.next_run ≡ a.schedd.next_run → IsReopened v a.queue reading back → StayLinked p (Drop ∷ []) (parts_with_return back a.queue a.finished a)
      lost v idle fits left next r =
          back_event p a Drop v back a.queue a.finished reading linked (tt, tt) tt refl (record { moment = refl; acked = refl; ordered = refl; reports = refl })
          (record { jobs = subst (λ l. ShowsJobs a.queue l p.pool.jobs) (sym left) linked.schedd.jobs; next = linked.schedd.next ∙ sym next; marked = linked.schedd.marked })
          idle fits r linked.finished linked.granted

      by : (o : Option Awaited) → Awaits p a o → StayLinked p (Drop ∷ []) (parts_with_return back a.queue a.finished a)
      by None w = lost a.schedd w.waiting w.fits refl refl reopen
      by (Some (NewJobs ids tx)) w = lost a.schedd w.idle w.fits refl refl reopen
      by (Some (Planned pl)) w = lost w.unplanned w.lost.idle w.lost.fits w.lost.left w.lost.next (w.lost.back reading back reopen)
