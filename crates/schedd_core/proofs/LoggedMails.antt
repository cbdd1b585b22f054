-- What is sent once a plan is logged.
use Rattle.std.proofs.Common.{◌≡◌, inl, inr, ℕ, ◌≤◌, Bool, true, false, List, [], ◌∷◌, slice_get, Option, Some, None, IsSome, IsSomeAnd, refl, ap, sym, ◌∙◌, subst, arith}
use Rattle.std.specs.Prelude.{Ok}
use Rattle.ad_tree.specs.Ad.{Attributes}
use Rattle.claim_id.specs.declared.numbers.ClaimId.{ClaimId}
use Rattle.claim_id.specs.declared.numbers.JobId.{JobId}
use Rattle.claim_id.specs.declared.numbers.RunNo.{RunNo}
use Rattle.pool_mail.specs.Ads.{request_ad}
use Rattle.pool_mail.specs.declared.mail.Mail.{Mail}
use Rattle.pool_view.specs.Facts.{Facts}
use Rattle.pool_view.specs.Protocol.{Lease, Protocol}
use Rattle.pool_view.specs.ProtocolMove.{Commit, MayAll, protocol_after, protocol_after_all}
use Rattle.pool_view.specs.AbstractPool.{IsIn}
use Rattle.pool_view.specs.Ads.{core_of}
use Rattle.pool_view.proofs.Cores.{core_of_request}
use Rattle.pool_view.proofs.Sameness.{same_job-true}
use Rattle.queue_tx.specs.declared.key.Key.TheVariants.{Proc}
use Rattle.queue_tx.specs.Queues.{KeyedAds, ad_at, queue_after}
use Rattle.schedd_plan.specs.declared.plan.JobPlan.{JobPlan}
use Rattle.schedd_plan.specs.declared.plan.JobPlan.TheVariants as plan
use Rattle.schedd_plan.specs.Plans.{job_of, plan_ops}
use Rattle.schedd_plan.specs.JobAttributes.{lease_until, status_by, status_of}
use Rattle.schedd_plan.specs.declared.runs.KeptRun.{KeptRun}
use Rattle.schedd_plan.specs.JobPlaces.{is_left}
use Rattle.schedd_plan.specs.KeptRuns.{run_of, is_of_job, place_of_job}
use Rattle.schedd_core.specs.JobStates.{NamesRun}
use Rattle.schedd_core.specs.Logging.{run_in, run_at_place, run_of_job, stops, is_marked, is_stopped_by, is_stopped, alives, activates, numbered, mails_of_plan, after_plan}
use Rattle.schedd_core.specs.PlanChanges.{change_of, lease_moves, told_leases, moves_of_logged}
use Rattle.schedd_core.specs.ScheddParts.{IsPart, IsOrdered, Fits, IsUnderRun, IsFitting, IsRunIn, IsGrantOf, IsAllowed, IsLeased}
use Rattle.schedd_state.specs.Schedds.{ScheddValue}
use Rattle.schedd_core.proofs.FitsAfter.{ad_by}
use Rattle.schedd_core.proofs.LoggedMay.{left_is, runs_are, part_committed}
use Rattle.schedd_core.proofs.Places.{in_at, passes_at}
use Rattle.schedd_core.proofs.PlanAds.{with_status, marked_held, lengthened, granted, status_set, status_marked, run_granted, lease_lengthened}
use Rattle.schedd_core.proofs.PlanJobs.{plan_ad, ad_of_plan, plan_there, left_after}
use Rattle.schedd_core.proofs.PlanMay.{UnderRun, under_run, stands_as}

-- ---- the run of a job, in the list of runs
pub record RunOf (runs : List KeptRun) (job : JobId) (run : RunNo) : Type 0 where
  pub kept : KeptRun
  pub there : IsIn kept runs
  pub job_is : kept.job ≡ job
  pub run_is : run_of kept ≡ run

pub run_found : (runs : List KeptRun) (job : JobId) (run : RunNo) → run_of_job runs job ≡ Some run → RunOf runs job run
run_found runs job run is = by (place_of_job job runs) refl is
  where
    some_is : (a b : RunNo) → Some a ≡ Some b → a ≡ b
    some_is a b e = cc

    at : (i : ℕ) → place_of_job job runs ≡ Some i → (o : Option KeptRun) → slice_get runs i ≡ o → run_in o ≡ Some run → RunOf runs job run
    at i found None e h = cc
    at i found (Some r) e h = record {
      kept = r;
      there = in_at runs i r e;
      job_is = same_job-true r.job job (passes_at (is_of_job job) runs i r found e);
      run_is = some_is (run_of r) run h;
    }

    by : (o : Option ℕ) → place_of_job job runs ≡ o → run_at_place runs o ≡ Some run → RunOf runs job run
    by None found h = cc
    by (Some i) found h = at i found (slice_get runs i) refl h

run_in_queue : (q : KeyedAds) (left : List JobId) (r : KeptRun) → IsUnderRun q left r → (end : ℕ) × IsRunIn q r.job (run_of r) end
run_in_queue q left r under = by (ad_at (Proc r.job) q) refl under
  where
    by : (o : Option Attributes) → ad_at (Proc r.job) q ≡ o → IsSomeAnd o (λ ad. (is_left r.job left ≡ false) × ((end : ℕ) × NamesRun ad r.claim r.number end)) → (end : ℕ) × IsRunIn q r.job (run_of r) end
    by None is h = absurd h
    by (Some ad) is h = (h.1.0, subst (λ o. IsSomeAnd o (λ ad. (claim : ClaimId) × (claim.no ≡ r.claim.no) × NamesRun ad claim r.number h.1.0)) (sym is) (r.claim, refl, h.1.1))

module _ (q new : KeyedAds) (v : ScheddValue) (pl : JobPlan) (o : IsOrdered q) (fits : IsFitting q v.left pl) (h : queue_after q (plan_ops pl) ≡ Ok new) (fit : Fits new (after_plan pl v)) where
  its_ad : (ad : Attributes) × (ad_at (Proc (job_of pl)) q ≡ Some ad) × IsSome (Rattle.queue_tx.specs.Kinds.kind_of ad)
  its_ad = ad_by q (job_of pl) (plan_there q v.left pl fits)

  now_is : ad_at (Proc (job_of pl)) new ≡ plan_ad pl its_ad.0
  now_is = ad_of_plan q new pl its_ad.0 o.keys h its_ad.1

  under_now : (r : KeptRun) → IsIn r v.runs → IsUnderRun new (after_plan pl v).left r
  under_now r there = fit.each r (subst (IsIn r) (sym (runs_are pl v)) there)

  run_now : (run : RunNo) → RunOf v.runs (job_of pl) run → (end : ℕ) × IsRunIn new (job_of pl) run end
  run_now run f =
      let at = run_in_queue new (after_plan pl v).left f.kept (under_now f.kept f.there) in
      (at.0, subst (λ x. IsRunIn new (job_of pl) x at.0) f.run_is (subst (λ j. IsRunIn new j (run_of f.kept) at.0) f.job_is at.1))

  -- the lease in the queue is the one that was logged
  lease_of : (run : RunNo) (end until : ℕ) → ad_at (Proc (job_of pl)) new ≡ Some (lengthened until its_ad.0) → IsRunIn new (job_of pl) run end → end ≡ until
  lease_of run end until is at = by (subst (λ o. IsSomeAnd o (λ ad. (claim : ClaimId) × (claim.no ≡ run.claim) × NamesRun ad claim run.number end)) is at)
    where
      some_is : (a b : ℕ) → Some a ≡ Some b → a ≡ b
      some_is a b e = cc

      by : ((claim : ClaimId) × (claim.no ≡ run.claim) × NamesRun (lengthened until its_ad.0) claim run.number end) → end ≡ until
      by names = some_is end until (sym names.2.end_is ∙ lease_lengthened until its_ad.0)

  granted_run : (job : JobId) (claim : ClaimId) (number until : ℕ) (header : Bool) → pl ≡ plan.Grant job claim number until header → IsRunIn new job (numbered claim number) until
  unfolding plan_ad
  granted_run job claim number until header is =
      let at : ad_at (Proc job) new ≡ Some (granted claim number until its_ad.0) =
      ap (λ p. ad_at (Proc (job_of p)) new) (sym is) ∙ (now_is ∙ ap (λ p. plan_ad p its_ad.0) is) in
      let valid = (subst (IsFitting q v.left) is fits).2 in
      subst (λ o. IsSomeAnd o (λ ad. (c : ClaimId) × (c.no ≡ claim.no) × NamesRun ad c number until)) (sym at) (claim, refl, run_granted its_ad.0 claim number until valid)

  -- ---- each mail
  stops_allowed : (job : JobId) → job_of pl ≡ job → is_stopped new job ≡ true → (m : Mail) → IsIn m (stops (run_of_job v.runs job)) → IsAllowed new pl m
  stops_allowed job is marked m there = by (run_of_job v.runs job) refl there
    where
      by : (found : Option RunNo) → run_of_job v.runs job ≡ found → IsIn m (stops found) → IsAllowed new pl m
      by None e there = absurd there
      by (Some run) e (inl same) = subst (IsAllowed new pl) (sym same) (ap (is_stopped new) is ∙ marked, run_now run (run_found v.runs (job_of pl) run (ap (run_of_job v.runs) is ∙ e)))
      by (Some run) e (inr there) = absurd there

  alives_allowed : (job : JobId) (until : ℕ) → pl ≡ plan.Lengthen job until → (m : Mail) → IsIn m (alives (run_of_job v.runs job) (is_stopped new job) until) → IsAllowed new pl m
  unfolding plan_ad
  alives_allowed job until is m there = by (run_of_job v.runs job) refl (is_stopped new job) refl there
    where
      job_is : job_of pl ≡ job
      job_is = ap job_of is

      at : (run : RunNo) → run_of_job v.runs job ≡ Some run → (end : ℕ) × IsRunIn new (job_of pl) run end
      at run e = run_now run (run_found v.runs (job_of pl) run (ap (run_of_job v.runs) job_is ∙ e))

      lengthened_now : ad_at (Proc (job_of pl)) new ≡ Some (lengthened until its_ad.0)
      lengthened_now = now_is ∙ ap (λ p. plan_ad p its_ad.0) is

      by : (found : Option RunNo) → run_of_job v.runs job ≡ found → (stopped : Bool) → is_stopped new job ≡ stopped → IsIn m (alives found stopped until) → IsAllowed new pl m
      by None e stopped s there = absurd there
      by (Some run) e stopped s (inl same) =
          let a = at run e in
          subst (IsAllowed new pl) (sym same) (subst (IsRunIn new (job_of pl) run) (lease_of run a.0 until lengthened_now a.1) a.1)
      by (Some run) e true s (inr (inl same)) = subst (IsAllowed new pl) (sym same) (ap (is_stopped new) job_is ∙ s, at run e)
      by (Some run) e true s (inr (inr there)) = absurd there
      by (Some run) e false s (inr there) = absurd there

  activates_allowed : (job : JobId) (claim : ClaimId) (number until : ℕ) (header : Bool) → pl ≡ plan.Grant job claim number until header → (m : Mail) → IsIn m (activates (ad_at (Proc job) new) (numbered claim number) job until) → IsAllowed new pl m
  activates_allowed job claim number until header is m there = by (ad_at (Proc job) new) refl there
    where
      by : (a : Option Attributes) → ad_at (Proc job) new ≡ a → IsIn m (activates a (numbered claim number) job until) → IsAllowed new pl m
      by None e there = absurd there
      by (Some ad) e (inl same) = subst (IsAllowed new pl) (sym same) (
        subst (λ p. IsGrantOf p (numbered claim number) job until) (sym is) (refl, refl, refl),
        granted_run job claim number until header is,
        subst (λ a. IsSomeAnd a (λ logged. request_ad ad ≡ request_ad logged)) (sym e) refl,
      )
      by (Some ad) e (inr there) = absurd there

  stopped_by : (job : JobId) (ad : Attributes) → ad_at (Proc job) new ≡ Some ad → is_marked (status_of ad) ≡ true → is_stopped new job ≡ true
  stopped_by job ad is marked = ap is_stopped_by is ∙ marked

  pub mails_allowed : (kind : JobPlan) → pl ≡ kind → (m : Mail) → IsIn m (mails_of_plan v new kind) → IsAllowed new pl m
  unfolding mails_of_plan plan_ad
  mails_allowed (plan.PutIdle job) is m there = absurd there
  mails_allowed (plan.PutHeld job reason) is m there = absurd there
  mails_allowed (plan.Complete job completion) is m there = absurd there
  mails_allowed (plan.Remove job) is m there = absurd there
  mails_allowed (plan.MarkRemoved job) is m there = stops_allowed job (ap job_of is) (stopped_by job (with_status 3 its_ad.0) (ap (λ p. ad_at (Proc (job_of p)) new) (sym is) ∙ (now_is ∙ ap (λ p. plan_ad p its_ad.0) is)) (ap (λ s. is_marked (status_by s)) (status_set 3 its_ad.0))) m there
  mails_allowed (plan.MarkHeld job reason) is m there = stops_allowed job (ap job_of is) (stopped_by job (marked_held reason its_ad.0) (ap (λ p. ad_at (Proc (job_of p)) new) (sym is) ∙ (now_is ∙ ap (λ p. plan_ad p its_ad.0) is)) (ap (λ s. is_marked (status_by s)) (status_marked reason its_ad.0))) m there
  mails_allowed (plan.MarkRunning job) is m there = absurd there
  mails_allowed (plan.Lengthen job until) is m there = alives_allowed job until is m there
  mails_allowed (plan.Grant job claim number until header) is m there = activates_allowed job claim number until header is m there

-- ---- leases that are sent
lease_part : (p : Protocol) (q : KeyedAds) (v : ScheddValue) (run : Option RunNo) (ad : Option Attributes) (job : JobId) (until : ℕ) → IsPart p q v → IsPart (protocol_after_all p (lease_moves run ad job until)) q v
lease_part p q v None ad job until part = part
lease_part p q v (Some run) None job until part = part
lease_part p q v (Some run) (Some ad) job until part = record { jobs = part.jobs; next = part.next; marked = part.marked }

lease_may : (p : Protocol) (q : KeyedAds) (v : ScheddValue) (part : IsPart p q v) (r : KeptRun) (u : UnderRun p q v part r) (until : ℕ) → until ≤ u.end → MayAll p (lease_moves (Some (run_of r)) (ad_at (Proc r.job) q) r.job until)
lease_may p q v part r u until within =
    subst (λ a. MayAll p (lease_moves (Some (run_of r)) a r.job until)) (sym u.ad_is)
    (((u.end, stands_as p q v part r u, within), core (p.pool.jobs r.job) u.entry_is), tt)
  where
    core : (o : Option Rattle.pool_view.specs.declared.job.Entry.Entry) → o ≡ Some u.entry → IsSomeAnd o (λ e. e.core ≡ core_of u.ad)
    core o is = subst (λ o. IsSomeAnd o (λ e. e.core ≡ core_of u.ad)) (sym is) u.core

lease_there : (p : Protocol) (run : RunNo) (a : Option Attributes) (ad : Attributes) (job : JobId) (until : ℕ) → a ≡ Some ad
    → IsIn (record { run = run; job = job; core = core_of ad; until = until }) (protocol_after_all p (lease_moves (Some run) a job until)).leases
lease_there p run a ad job until is =
    subst (λ a. IsIn (record { run = run; job = job; core = core_of ad; until = until }) (protocol_after_all p (lease_moves (Some run) a job until)).leases) (sym is) (inl refl)

-- ---- the moves of a plan that is logged
module _ (p : Protocol) (q new : KeyedAds) (v : ScheddValue) (pl : JobPlan) (part : IsPart p q v) (o : IsOrdered q) (fits : IsFitting q v.left pl) (h : queue_after q (plan_ops pl) ≡ Ok new)
    (fit : Fits new (after_plan pl v)) (facts : Facts p) (pending : p.pending ≡ Some (change_of p.pool.jobs pl)) where
  then_part : IsPart (protocol_after p Commit) new (after_plan pl v)
  then_part = part_committed p q new v pl part o fits h facts pending

  -- a run of the queue that came of it
  run_then : (r : KeptRun) → IsUnderRun new (after_plan pl v).left r → UnderRun (protocol_after p Commit) new (after_plan pl v) then_part r
  run_then r under = under_run (protocol_after p Commit) new (after_plan pl v) then_part r under

  ends_with : (r : KeptRun) (u : UnderRun (protocol_after p Commit) new (after_plan pl v) then_part r) (ad : Attributes) (until : ℕ) → ad_at (Proc r.job) new ≡ Some ad → lease_until ad ≡ Some until → until ≤ u.end
  ends_with r u ad until is ends =
      let same : u.ad ≡ ad = some_ad u.ad ad (sym u.ad_is ∙ is) in
      let end : u.end ≡ until = some_end u.end until (sym u.names.end_is ∙ (ap lease_until same ∙ ends)) in
      omega (arith, end)
    where
      some_ad : (a b : Attributes) → Some a ≡ Some b → a ≡ b
      some_ad a b e = cc

      some_end : (a b : ℕ) → Some a ≡ Some b → a ≡ b
      some_end a b e = cc

  granted_under : (job : JobId) (claim : ClaimId) (number until : ℕ) (header : Bool) → pl ≡ plan.Grant job claim number until header
      → IsUnderRun new (after_plan pl v).left (record { job = job; claim = claim; number = number; alive = 0; found = false })
  unfolding plan_ad
  granted_under job claim number until header is =
      let its = ad_by q (job_of pl) (plan_there q v.left pl fits) in
      let at : ad_at (Proc job) new ≡ Some (granted claim number until its.0) =
      ap (λ x. ad_at (Proc (job_of x)) new) (sym is) ∙ (ad_of_plan q new pl its.0 o.keys h its.1 ∙ ap (λ x. plan_ad x its.0) is) in
      let fitting = subst (IsFitting q v.left) is fits in
      let not_left : is_left job (after_plan pl v).left ≡ false = ap (is_left job) (left_is pl v ∙ ap (λ x. left_after x v.left) is) ∙ fitting.1 in
      subst (λ a. IsSomeAnd a (λ ad. (is_left job (after_plan pl v).left ≡ false) × ((end : ℕ) × NamesRun ad claim number end))) (sym at) (not_left, (until, run_granted its.0 claim number until fitting.2))

  -- what the leases of the plan want, and what they leave
  record Sends (moves : Rattle.std.specs.Prelude.List Rattle.pool_view.specs.ProtocolMove.ProtocolMove) : Type 0 where
    pub may : MayAll (protocol_after p Commit) moves
    pub leaves : IsPart (protocol_after_all (protocol_after p Commit) moves) new (after_plan pl v)

  sends_for : (r : KeptRun) (run : RunNo) (job : JobId) (until : ℕ) (ad : Attributes) → run_of r ≡ run → r.job ≡ job → IsUnderRun new (after_plan pl v).left r → ad_at (Proc job) new ≡ Some ad → lease_until ad ≡ Some until
      → Sends (lease_moves (Some run) (ad_at (Proc job) new) job until)
  sends_for r run job until ad run_is job_is under is ends =
      let u = run_then r under in
      let within = ends_with r u ad until (ap (λ j. ad_at (Proc j) new) job_is ∙ is) ends in
      record {
        may = subst (λ x. MayAll (protocol_after p Commit) (lease_moves (Some x) (ad_at (Proc job) new) job until)) run_is
            (subst (λ j. MayAll (protocol_after p Commit) (lease_moves (Some (run_of r)) (ad_at (Proc j) new) j until)) job_is
            (lease_may (protocol_after p Commit) new (after_plan pl v) then_part r u until within));
        leaves = lease_part (protocol_after p Commit) new (after_plan pl v) (Some run) (ad_at (Proc job) new) job until then_part;
      }

  sends_none : Sends []
  sends_none = record { may = tt; leaves = then_part }

  lengthened_sends : (job : JobId) (until : ℕ) → pl ≡ plan.Lengthen job until → Sends (lease_moves (run_of_job v.runs job) (ad_at (Proc job) new) job until)
  unfolding plan_ad
  lengthened_sends job until is = by (run_of_job v.runs job) refl
    where
      its : (ad : Attributes) × (ad_at (Proc (job_of pl)) q ≡ Some ad) × IsSome (Rattle.queue_tx.specs.Kinds.kind_of ad)
      its = ad_by q (job_of pl) (plan_there q v.left pl fits)

      now : ad_at (Proc job) new ≡ Some (lengthened until its.0)
      now = ap (λ x. ad_at (Proc (job_of x)) new) (sym is) ∙ (ad_of_plan q new pl its.0 o.keys h its.1 ∙ ap (λ x. plan_ad x its.0) is)

      by : (found : Option RunNo) → run_of_job v.runs job ≡ found → Sends (lease_moves found (ad_at (Proc job) new) job until)
      by None e = record { may = tt; leaves = then_part }
      by (Some run) e =
          let f = run_found v.runs job run e in
          sends_for f.kept run job until (lengthened until its.0) f.run_is f.job_is (fit.each f.kept (subst (IsIn f.kept) (sym (runs_are pl v)) f.there)) now (lease_lengthened until its.0)

  granted_sends : (job : JobId) (claim : ClaimId) (number until : ℕ) (header : Bool) → pl ≡ plan.Grant job claim number until header → Sends (lease_moves (Some (numbered claim number)) (ad_at (Proc job) new) job until)
  unfolding plan_ad
  granted_sends job claim number until header is =
      let its = ad_by q (job_of pl) (plan_there q v.left pl fits) in
      let now : ad_at (Proc job) new ≡ Some (granted claim number until its.0) =
      ap (λ x. ad_at (Proc (job_of x)) new) (sym is) ∙ (ad_of_plan q new pl its.0 o.keys h its.1 ∙ ap (λ x. plan_ad x its.0) is) in
      let fitting = subst (IsFitting q v.left) is fits in
      let names = run_granted its.0 claim number until fitting.2 in
      sends_for (record { job = job; claim = claim; number = number; alive = 0; found = false }) (numbered claim number) job until (granted claim number until its.0) refl refl (granted_under job claim number until header is) now names.end_is

  plan_sends : (x : JobPlan) → pl ≡ x → Sends (told_leases v new x)
  unfolding told_leases
  plan_sends (plan.PutIdle job) is = sends_none
  plan_sends (plan.PutHeld job reason) is = sends_none
  plan_sends (plan.Complete job completion) is = sends_none
  plan_sends (plan.Remove job) is = sends_none
  plan_sends (plan.MarkRemoved job) is = sends_none
  plan_sends (plan.MarkHeld job reason) is = sends_none
  plan_sends (plan.MarkRunning job) is = sends_none
  plan_sends (plan.Lengthen job until) is = lengthened_sends job until is
  plan_sends (plan.Grant job claim number until header) is = granted_sends job claim number until header is

  pub logged_may : MayAll p (moves_of_logged v new pl)
  logged_may = (tt, (plan_sends pl refl).may)

  pub logged_part : IsPart (protocol_after_all p (moves_of_logged v new pl)) new (after_plan pl v)
  logged_part = (plan_sends pl refl).leaves

  -- ---- what was sent has its lease
  told_by : (run : RunNo) (job : JobId) (until : ℕ) (ad : Attributes) (a : Option Attributes) → a ≡ Some ad → (m : Mail)
      → (l : Lease) × IsIn l (protocol_after_all (protocol_after p Commit) (lease_moves (Some run) a job until)).leases × (l.run ≡ run) × (l.job ≡ job) × (l.core ≡ core_of ad) × (until ≤ l.until)
  told_by run job until ad a is m = (record { run = run; job = job; core = core_of ad; until = until }, lease_there (protocol_after p Commit) run a ad job until is, refl, refl, refl, omega arith)

  pub mails_leased : (x : JobPlan) → pl ≡ x → (m : Mail) → IsIn m (mails_of_plan v new x) → IsLeased (protocol_after_all p (Commit ∷ told_leases v new x)) m
  unfolding mails_of_plan told_leases plan_ad
  mails_leased (plan.PutIdle job) is m there = absurd there
  mails_leased (plan.PutHeld job reason) is m there = absurd there
  mails_leased (plan.Complete job completion) is m there = absurd there
  mails_leased (plan.Remove job) is m there = absurd there
  mails_leased (plan.MarkRemoved job) is m there = by (run_of_job v.runs job) there
    where
      by : (found : Option RunNo) → IsIn m (stops found) → IsLeased (protocol_after_all p (Commit ∷ [])) m
      by None there = absurd there
      by (Some run) (inl same) = subst (IsLeased (protocol_after_all p (Commit ∷ []))) (sym same) tt
      by (Some run) (inr there) = absurd there
  mails_leased (plan.MarkHeld job reason) is m there = by (run_of_job v.runs job) there
    where
      by : (found : Option RunNo) → IsIn m (stops found) → IsLeased (protocol_after_all p (Commit ∷ [])) m
      by None there = absurd there
      by (Some run) (inl same) = subst (IsLeased (protocol_after_all p (Commit ∷ []))) (sym same) tt
      by (Some run) (inr there) = absurd there
  mails_leased (plan.MarkRunning job) is m there = absurd there
  mails_leased (plan.Lengthen job until) is m there = by (run_of_job v.runs job) (is_stopped new job) there
    where
      its : (ad : Attributes) × (ad_at (Proc (job_of pl)) q ≡ Some ad) × IsSome (Rattle.queue_tx.specs.Kinds.kind_of ad)
      its = ad_by q (job_of pl) (plan_there q v.left pl fits)

      now : ad_at (Proc job) new ≡ Some (lengthened until its.0)
      now = ap (λ x. ad_at (Proc (job_of x)) new) (sym is) ∙ (ad_of_plan q new pl its.0 o.keys h its.1 ∙ ap (λ x. plan_ad x its.0) is)

      by : (found : Option RunNo) (stopped : Bool) → IsIn m (alives found stopped until) → IsLeased (protocol_after_all p (Commit ∷ lease_moves found (ad_at (Proc job) new) job until)) m
      by None stopped there = absurd there
      by (Some run) stopped (inl same) =
          let t = told_by run job until (lengthened until its.0) (ad_at (Proc job) new) now m in
          subst (IsLeased (protocol_after_all p (Commit ∷ lease_moves (Some run) (ad_at (Proc job) new) job until))) (sym same) (t.0, t.1, t.2, t.5)
      by (Some run) true (inr (inl same)) = subst (IsLeased (protocol_after_all p (Commit ∷ lease_moves (Some run) (ad_at (Proc job) new) job until))) (sym same) tt
      by (Some run) true (inr (inr there)) = absurd there
      by (Some run) false (inr there) = absurd there
  mails_leased (plan.Grant job claim number until header) is m there = by (ad_at (Proc job) new) refl there
    where
      by : (a : Option Attributes) → ad_at (Proc job) new ≡ a → IsIn m (activates a (numbered claim number) job until) → IsLeased (protocol_after_all p (Commit ∷ lease_moves (Some (numbered claim number)) (ad_at (Proc job) new) job until)) m
      by None e there = absurd there
      by (Some ad) e (inl same) =
          let t = told_by (numbered claim number) job until ad (ad_at (Proc job) new) e m in
          subst (IsLeased (protocol_after_all p (Commit ∷ lease_moves (Some (numbered claim number)) (ad_at (Proc job) new) job until))) (sym same) (t.0, t.1, t.2, t.3, t.4 ∙ sym (core_of_request ad), t.5)
      by (Some ad) e (inr there) = absurd there
