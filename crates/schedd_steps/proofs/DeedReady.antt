-- What is known of a deed that is ready, by what was prepared for it.
use Rattle.std.proofs.Common.{◌≡◌, ◌∙◌, ◌+◌, ℕ, List, Option, Some, Result, Ok, Err, IfOk, ap, sym, subst}
use Rattle.pool_parts.specs.declared.pending.Pending.{Pending}
use Rattle.pool_parts.specs.declared.pending.Unfinished.TheVariants.{Plan}
use Rattle.pool_parts.specs.Sizes.{mails_count}
use Rattle.pool_rules.specs.Answers.{pending_by, pending_tx}
use Rattle.pool_tables.specs.declared.refusal.StepError.{StepError}
use Rattle.queue_tx.specs.Operations.{Operation}
use Rattle.schedd_plan.specs.declared.plan.JobPlan.{JobPlan}
use Rattle.schedd_plan.specs.Plans.{plan_ops}
use Rattle.schedd_state.specs.PreparedSchedds.{HasClaimRoom}
use Rattle.schedd_state.specs.Schedds.{ScheddValue}
use Rattle.schedd_state.specs.declared.prepared.PreparedSchedd.{PreparedSchedd}
use Rattle.schedd_steps.specs.declared.schedd.ScheddDeed.{ScheddDeed}

module _ (p new : PreparedSchedd) where
  pub claims_for : (v : ScheddValue) → new ≡ p → HasClaimRoom p v → HasClaimRoom new v
  claims_for v same room = subst (λ (x : PreparedSchedd). HasClaimRoom x v) (sym same) room

  pub begun_for : (number : ℕ) (begun : Option Pending) → new ≡ p → begun ≡ pending_by number p.step.plan → begun ≡ pending_by number new.step.plan
  begun_for number begun same is = is ∙ ap (λ (x : PreparedSchedd). pending_by number x.step.plan) (sym same)

  pub bytes_for : (had bytes : ℕ) → new ≡ p → bytes ≡ had + mails_count p.step.mails → bytes ≡ had + mails_count new.step.mails
  bytes_for had bytes same is = is ∙ ap (λ (x : PreparedSchedd). had + mails_count x.step.mails) (sym same)

-- where it is ready
module _ (p : PreparedSchedd) where
  pub claims_if : (v : ScheddValue) (r : Result ScheddDeed StepError) → IfOk r (λ d. d.prepared ≡ p) → HasClaimRoom p v → IfOk r (λ d. HasClaimRoom d.prepared v)
  claims_if v (Ok d) same room = claims_for p d.prepared v same room
  claims_if v (Err e) same room = tt

  pub begun_if : (number : ℕ) (r : Result ScheddDeed StepError) → IfOk r (λ d. d.prepared ≡ p) → IfOk r (λ d. d.begun ≡ pending_by number p.step.plan) → IfOk r (λ d. d.begun ≡ pending_by number d.prepared.step.plan)
  begun_if number (Ok d) same is = begun_for p d.prepared number d.begun same is
  begun_if number (Err e) same is = tt

  pub bytes_if : (had : ℕ) (r : Result ScheddDeed StepError) → IfOk r (λ d. d.prepared ≡ p) → IfOk r (λ d. d.bytes ≡ had + mails_count p.step.mails) → IfOk r (λ d. d.bytes ≡ had + mails_count d.prepared.step.mails)
  bytes_if had (Ok d) same is = bytes_for p d.prepared had d.bytes same is
  bytes_if had (Err e) same is = tt

-- a plan is to be logged
pub plan_begun : (number : ℕ) (p : JobPlan) (o : Option JobPlan) (tx : List Operation) (begun : Pending) → o ≡ Some p → tx ≡ plan_ops p → begun ≡ pending_tx number tx (Plan p) → Some begun ≡ pending_by number o
plan_begun number p o tx begun is ops begins =
    ap (λ (b : Pending). Some b) begins ∙ ap (λ (t : List Operation). Some (pending_tx number t (Plan p))) ops ∙ ap (λ (x : Option JobPlan). pending_by number x) (sym is)
