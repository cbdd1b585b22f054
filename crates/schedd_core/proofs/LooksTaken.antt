-- What comes of a look at the periodic expressions of a job that there is.
use Rattle.std.proofs.Common.{◌≡◌, ℕ, Option, Some, None, refl, ap, sym, ◌∙◌}
use Rattle.std.specs.BTreeMap.{insert_entry}
use Rattle.ad_tree.specs.Ad.{Attributes}
use Rattle.claim_id.specs.declared.numbers.JobId.{JobId}
use Rattle.queue_tx.specs.declared.key.Key.{Key}
use Rattle.queue_tx.specs.declared.key.Key.TheVariants.{Proc}
use Rattle.queue_tx.specs.Keys.{key_cmp}
use Rattle.queue_tx.specs.Queues.{KeyedAds, ad_at}
use Rattle.schedd_plan.specs.declared.places.JobPlace.{JobPlace}
use Rattle.schedd_plan.specs.declared.plan.JobPlan.{JobPlan}
use Rattle.schedd_plan.specs.JobPlaces.{job_place}
use Rattle.schedd_state.specs.declared.answer.ScheddStep.{ScheddStep}
use Rattle.schedd_state.specs.Schedds.{ScheddValue, becomes, nothing_done, plans, waits_for}
use Rattle.schedd_core.specs.Checks.{after_check, after_check_by, policy_plan}

pub step_same : (o : Option JobPlan) (v w : ScheddValue) → (waits_for o v).step ≡ (waits_for o w).step
step_same None v w = refl
step_same (Some p) v w = refl

pub none_looked_at : (v : ScheddValue) (q : KeyedAds) (job : JobId) (reading : ℕ) → None ≡ ad_at (Proc job) q → becomes v ≡ after_check v q job reading
unfolding after_check
none_looked_at v q job reading no_ad = ap (λ (o : Option Attributes). after_check_by o v q job reading) no_ad

pub looked_at : (v : ScheddValue) (q : KeyedAds) (job : JobId) (ad : Attributes) (place : JobPlace) (reading : ℕ) (planned : Option JobPlan) (look : Key × ℕ)
    → planned ≡ policy_plan place job ad reading → place ≡ job_place q v.left job → look ≡ (Proc job, reading) → Some ad ≡ ad_at (Proc job) q
    → waits_for planned (record v { checked = insert_entry key_cmp v.checked look.0 look.1 }) ≡ after_check v q job reading
unfolding after_check
looked_at v q job ad place reading planned look plans placed looks there =
    let w : Key × ℕ → ScheddValue = λ (l : Key × ℕ). record v { checked = insert_entry key_cmp v.checked l.0 l.1 } in
    ap (λ (o : Option JobPlan). waits_for o (w look)) plans
    ∙ ap (λ (p : JobPlace). waits_for (policy_plan p job ad reading) (w look)) placed
    ∙ ap (λ (l : Key × ℕ). waits_for (policy_plan (job_place q v.left job) job ad reading) (w l)) looks
    ∙ ap (λ (o : Option Attributes). after_check_by o v q job reading) there

-- ---- nothing is planned, or a plan is to be logged
pub none_waits : (o waiting : Option JobPlan) (v : ScheddValue) → o ≡ None → waiting ≡ v.waiting → record v { waiting = waiting } ≡ (waits_for o v).schedd
none_waits o waiting v none same = ap (λ (w : Option JobPlan). record v { waiting = w }) same ∙ ap (λ (x : Option JobPlan). (waits_for x v).schedd) (sym none)

pub none_done : (o : Option JobPlan) (v : ScheddValue) (step : ScheddStep) → o ≡ None → step ≡ nothing_done → step ≡ (waits_for o v).step
none_done o v step none quiet = quiet ∙ ap (λ (x : Option JobPlan). (waits_for x v).step) (sym none)

pub plan_waits : (o : Option JobPlan) (p : JobPlan) (v : ScheddValue) → o ≡ Some p → record v { waiting = Some p } ≡ (waits_for o v).schedd
plan_waits o p v is = ap (λ (x : Option JobPlan). (waits_for x v).schedd) (sym is)

pub plan_done : (o : Option JobPlan) (p : JobPlan) (v : ScheddValue) (step : ScheddStep) → o ≡ Some p → step ≡ plans p → step ≡ (waits_for o v).step
plan_done o p v step is planned = planned ∙ ap (λ (x : Option JobPlan). (waits_for x v).step) (sym is)
