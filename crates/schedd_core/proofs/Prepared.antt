-- What is prepared is all that comes of an event.
use Rattle.std.proofs.Common.{◌≡◌, ℕ, Bool, false, List, [], ◌∷◌, Result, Ok, Err, IfOk, Option, Some, None, slice_get, refl, sym, ap, ◌∙◌, subst}
use Rattle.std.specs.Prelude.{is_some, option_map}
use Rattle.ad_tree.specs.Ad.{Attributes}
use Rattle.ad_value.specs.declared.memory.Memory.{Memory}
use Rattle.claim_id.specs.declared.numbers.JobId.{JobId}
use Rattle.pool_mail.specs.declared.mail.Mail.{Mail}
use Rattle.pool_mail.specs.declared.settings.Settings.{Settings}
use Rattle.queue_tx.specs.declared.key.Key.{Key}
use Rattle.queue_tx.specs.declared.key.Key.TheVariants.{Header, Proc}
use Rattle.queue_tx.specs.Queues.{KeyedAds, ad_at}
use Rattle.schedd_plan.specs.declared.claims.KeptClaim.{KeptClaim}
use Rattle.schedd_plan.specs.declared.plan.JobPlan.{JobPlan}
use Rattle.schedd_plan.specs.declared.plan.JobPlan.TheVariants as plan
use Rattle.schedd_plan.specs.declared.runs.KeptRun.{KeptRun}
use Rattle.schedd_plan.specs.declared.tick.TickLine.{TickLine}
use Rattle.schedd_plan.specs.declared.tick.TickLine.TheVariants as line
use Rattle.schedd_plan.specs.JobAttributes.{lease_until}
use Rattle.schedd_plan.specs.JobPlaces.{let_go}
use Rattle.schedd_plan.specs.KeptClaims.{with_job}
use Rattle.schedd_plan.specs.KeptRuns.{runs_without, with_run, with_alive}
use Rattle.schedd_plan.specs.TickTable.{lease_end}
use Rattle.schedd_state.specs.declared.answer.ScheddStep.{ScheddStep}
use Rattle.schedd_state.specs.declared.prepared.PreparedSchedd.{PreparedSchedd}
use Rattle.schedd_state.specs.DueLines.{tick_line}
use Rattle.schedd_state.specs.Leaving.{left_claims}
use Rattle.schedd_state.specs.PreparedSchedds.{HasClaimRoom, schedd_after}
use Rattle.schedd_state.specs.Schedds.{ScheddValue, After, becomes, nothing_done, plans, says, waits}
use Rattle.schedd_core.specs.Prepared.{IsPrepared, sends}
use Rattle.schedd_core.specs.Ticks.{IsSought, IsTicked, after_grant, after_lengthen, after_line, after_past, after_seek, granted_by, later, lengthened_by, run_granted}

pub is_some_map : {A B : Type 0} (f : A → B) (o : Option A) → is_some o ≡ is_some (option_map f o)
is_some_map f None = refl
is_some_map f (Some x) = refl

-- nothing is sent or is to be logged
pub quiet_so : (v w : ScheddValue) (p : PreparedSchedd) (a : After)
    → schedd_after p v ≡ w → p.step ≡ nothing_done → HasClaimRoom p v → becomes w ≡ a → IsPrepared v p a
quiet_so v w p a becoming quiet room is =
    subst (λ (x : After). IsPrepared v p x) is (record { schedd = becoming; step = quiet; room = room })

-- a plan is to be logged
pub waits_so : (v w : ScheddValue) (p : PreparedSchedd) (wanted : JobPlan) (a : After)
    → schedd_after p v ≡ record w { waiting = Some wanted } → p.step ≡ plans wanted → HasClaimRoom p v → waits wanted w ≡ a → IsPrepared v p a
waits_so v w p wanted a becoming planned room is =
    subst (λ (x : After). IsPrepared v p x) is (record { schedd = becoming; step = planned; room = room })

-- a mail is sent
pub sends_so : (v w : ScheddValue) (m : Mail) (a : After) (r : Result PreparedSchedd Memory)
    → IfOk r (λ p. schedd_after p v ≡ w) → IfOk r (λ p. p.step ≡ says (m ∷ [])) → IfOk r (λ p. HasClaimRoom p v) → sends m w ≡ a
    → IfOk r (λ p. IsPrepared v p a)
sends_so v w m a (Ok p) becoming said room is =
    subst (λ (x : After). IsPrepared v p x) is (record { schedd = becoming; step = said; room = room })
sends_so v w m a (Err e) becoming said room is = tt

-- ---- its parts
pub schedd_of : (v : ScheddValue) (a b : After) (r : Result PreparedSchedd Memory)
    → IfOk r (λ p. IsPrepared v p a) → a ≡ b → IfOk r (λ p. schedd_after p v ≡ b.schedd)
schedd_of v a b (Ok p) prepared is = prepared.schedd ∙ ap (λ (x : After). x.schedd) is
schedd_of v a b (Err e) prepared is = tt

pub step_of : (v : ScheddValue) (a b : After) (r : Result PreparedSchedd Memory)
    → IfOk r (λ p. IsPrepared v p a) → a ≡ b → IfOk r (λ p. p.step ≡ b.step)
step_of v a b (Ok p) prepared is = prepared.step ∙ ap (λ (x : After). x.step) is
step_of v a b (Err e) prepared is = tt

pub room_of : (v : ScheddValue) (a : After) (r : Result PreparedSchedd Memory)
    → IfOk r (λ p. IsPrepared v p a) → IfOk r (λ p. HasClaimRoom p v)
room_of v a (Ok p) prepared = prepared.room
room_of v a (Err e) prepared = tt

-- ---- the lines of a tick
pub sought_so : (v : ScheddValue) (q : KeyedAds) (l : TickLine) (place : ℕ) (found o : Option Key) (reading : ℕ) (r : Result PreparedSchedd Memory)
    → l ≡ line.Seek place → found ≡ o → IfOk r (λ p. IsPrepared v p (after_seek v q place o reading))
    → IfOk r (λ p. IsPrepared v p (after_line v q l found reading))
unfolding after_line
sought_so v q l place found o reading r seeks finds prepared =
    subst (λ (x : TickLine). IfOk r (λ p. IsPrepared v p (after_line v q x found reading))) (sym seeks)
    (subst (λ (x : Option Key). IfOk r (λ p. IsPrepared v p (after_seek v q place x reading))) (sym finds) prepared)

pub past_so : (v : ScheddValue) (q : KeyedAds) (place : ℕ) (r : KeptRun) (wanted : JobPlan) (p : PreparedSchedd)
    → schedd_after p v ≡ record v { runs = runs_without place v.runs; claims = left_claims r.claim.no v.claims; waiting = Some wanted }
    → p.step ≡ plans wanted → HasClaimRoom p v → wanted ≡ let_go q r.job → Some r ≡ slice_get v.runs place
    → IsPrepared v p (after_past v q place (slice_get v.runs place))
past_so v q place r wanted p becoming planned room freed there =
    let w : ScheddValue = record v { runs = runs_without place v.runs; claims = left_claims r.claim.no v.claims } in
    waits_so v w p wanted (after_past v q place (slice_get v.runs place)) becoming planned room
    (ap (λ (x : JobPlan). waits x w) freed ∙ ap (λ (o : Option KeptRun). after_past v q place o) there)

pub no_ad_lengthened : (v : ScheddValue) (q : KeyedAds) (place : ℕ) (r : KeptRun) (reading : ℕ)
    → None ≡ ad_at (Proc r.job) q → Some r ≡ slice_get v.runs place
    → becomes v ≡ after_lengthen v q place (slice_get v.runs place) reading
no_ad_lengthened v q place r reading no_ad there =
    ap (λ (o : Option Attributes). lengthened_by o v place r reading) no_ad ∙ ap (λ (o : Option KeptRun). after_lengthen v q place o reading) there

pub lengthened_so : (v : ScheddValue) (q : KeyedAds) (place : ℕ) (r : KeptRun) (ad : Attributes) (set : Settings) (reading end until : ℕ) (other : Option ℕ) (p : PreparedSchedd)
    → schedd_after p v ≡ record v { runs = with_alive place reading false v.runs; waiting = Some (plan.Lengthen r.job until) }
    → p.step ≡ plans (plan.Lengthen r.job until) → HasClaimRoom p v
    → until ≡ later end other → end ≡ lease_end ad set reading → set ≡ v.settings → other ≡ lease_until ad
    → Some ad ≡ ad_at (Proc r.job) q → Some r ≡ slice_get v.runs place
    → IsPrepared v p (after_lengthen v q place (slice_get v.runs place) reading)
lengthened_so v q place r ad set reading end until other p becoming planned room is_later ends settings others has_ad there =
    let w : ScheddValue = record v { runs = with_alive place reading false v.runs } in
    let lasts : until ≡ later (lease_end ad v.settings reading) (lease_until ad) =
    is_later ∙ ap (λ n. later n other) (ends ∙ ap (λ (s : Settings). lease_end ad s reading) settings) ∙ ap (λ (o : Option ℕ). later (lease_end ad v.settings reading) o) others in
    waits_so v w p (plan.Lengthen r.job until) (after_lengthen v q place (slice_get v.runs place) reading) becoming planned room
    (ap (λ n. waits (plan.Lengthen r.job n) w) lasts
    ∙ ap (λ (o : Option Attributes). lengthened_by o v place r reading) has_ad
    ∙ ap (λ (o : Option KeptRun). after_lengthen v q place o reading) there)

pub no_ad_granted : (v : ScheddValue) (q : KeyedAds) (place : ℕ) (c : KeptClaim) (job : JobId) (reading : ℕ)
    → None ≡ ad_at (Proc job) q → Some c ≡ slice_get v.claims place
    → becomes v ≡ after_grant v q place (slice_get v.claims place) job reading
no_ad_granted v q place c job reading no_ad there =
    ap (λ (o : Option Attributes). granted_by o v (is_some (ad_at Header q)) place c job reading) no_ad
    ∙ ap (λ (o : Option KeptClaim). after_grant v q place o job reading) there

pub granted_so : (v : ScheddValue) (q : KeyedAds) (place : ℕ) (c : KeptClaim) (job : JobId) (ad : Attributes) (set : Settings) (reading number until : ℕ) (header : Bool) (runs : List KeptRun) (p : PreparedSchedd)
    → schedd_after p v ≡ record v { claims = with_job place job v.claims; runs = runs; waiting = Some (plan.Grant job c.claim number until header) }
    → p.step ≡ plans (plan.Grant job c.claim number until header) → HasClaimRoom p v
    → runs ≡ with_run (run_granted job c number reading) v.runs → number ≡ v.next_run
    → until ≡ lease_end ad set reading → set ≡ v.settings → header ≡ is_some (ad_at Header q)
    → Some ad ≡ ad_at (Proc job) q → Some c ≡ slice_get v.claims place
    → IsPrepared v p (after_grant v q place (slice_get v.claims place) job reading)
granted_so v q place c job ad set reading number until header runs p becoming planned room more next ends settings has_header has_ad there =
    let w : List KeptRun → ScheddValue = λ (rs : List KeptRun). record v { claims = with_job place job v.claims; runs = rs } in
    let with_number : ℕ → After = λ n. waits (plan.Grant job c.claim n until header) (w (with_run (run_granted job c n reading) v.runs)) in
    let granted : ℕ → Bool → After = λ u h. waits (plan.Grant job c.claim v.next_run u h) (w (with_run (run_granted job c v.next_run reading) v.runs)) in
    waits_so v (w runs) p (plan.Grant job c.claim number until header) (after_grant v q place (slice_get v.claims place) job reading) becoming planned room
    (ap (λ (rs : List KeptRun). waits (plan.Grant job c.claim number until header) (w rs)) more
    ∙ ap with_number next
    ∙ ap (λ u. granted u header) (ends ∙ ap (λ (s : Settings). lease_end ad s reading) settings)
    ∙ ap (λ h. granted (lease_end ad v.settings reading) h) has_header
    ∙ ap (λ (o : Option Attributes). granted_by o v (is_some (ad_at Header q)) place c job reading) has_ad
    ∙ ap (λ (o : Option KeptClaim). after_grant v q place o job reading) there)

pub ticked_so : (v : ScheddValue) (q : KeyedAds) (reading : ℕ) (line : TickLine) (found : Option Key) (p : PreparedSchedd)
    → line ≡ tick_line v q reading → IsSought v q line found → IsPrepared v p (after_line v q line found reading)
    → IsTicked v q reading (schedd_after p v) p.step
ticked_so v q reading line found p is sought prepared = record {
  found = found;
  sought = subst (λ (l : TickLine). IsSought v q l found) is sought;
  schedd = prepared.schedd ∙ ap (λ (l : TickLine). (after_line v q l found reading).schedd) is;
  done = prepared.step ∙ ap (λ (l : TickLine). (after_line v q l found reading).step) is;
}

-- what was prepared has happened
pub tick_taken : (v : ScheddValue) (q : KeyedAds) (reading : ℕ) (p : PreparedSchedd) (new : ScheddValue) (step : ScheddStep)
    → new ≡ schedd_after p v → step ≡ p.step → IsTicked v q reading (schedd_after p v) p.step → IsTicked v q reading new step
tick_taken v q reading p new step is done ticked = record { found = ticked.found; sought = ticked.sought; schedd = is ∙ ticked.schedd; done = done ∙ ticked.done }
