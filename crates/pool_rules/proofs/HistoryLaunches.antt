-- What is launched was matched: only a mail that a startd receives launches.
use Rattle.std.proofs.Common.{◌≡◌, ℕ, max, List, [], ◌∷◌, Option, Some, None, IsSomeAnd, slice_get, refl, sym, ◌∙◌, ap, subst}
use Rattle.std.proofs.lemmas.Option.{none-some}
use Rattle.claim_id.specs.declared.numbers.ClaimId.{ClaimId}
use Rattle.claim_id.specs.declared.numbers.RunNo.{RunNo}
use Rattle.pool_parts.specs.declared.answer.Answer.{Answer}
use Rattle.pool_parts.specs.declared.answer.Answer.TheVariants as answer
use Rattle.pool_parts.specs.declared.answer.Stepped.{Stepped}
use Rattle.pool_parts.specs.declared.event.Event.{Event}
use Rattle.pool_parts.specs.declared.event.Event.TheVariants as event
use Rattle.pool_rules.specs.Launched.{IsPermitOf}
use Rattle.pool_rules.specs.Shown.{ShowsPool}
use Rattle.pool_rules.specs.Answers.{answer_of_startd, answer_with, pending_by}
use Rattle.pool_rules.specs.Happens.{Happens, counts_brought, counts_event}
use Rattle.pool_rules.specs.Parts.{parts_of}
use Rattle.pool_outer.specs.declared.gate.Daemon.TheVariants.{Schedd, Startd, Matchmaker}
use Rattle.pool_view.specs.Protocol.{Protocol}
use Rattle.pool_rules.specs.Refusals.{IsEventRefusal}
use Rattle.pool_state.specs.declared.opening.Opening.{Opening}
use Rattle.pool_state.specs.declared.state.PoolState.{PoolState}
use Rattle.pool_view.specs.AbstractPool.{AbstractPool}
use Rattle.schedd_state.specs.Reopening.{IsReader}
use Rattle.schedd_plan.specs.declared.plan.JobPlan.{JobPlan}
use Rattle.startd_core.proofs.PermitRows.{end_permits}
use Rattle.startd_core.specs.Permits.{permit_in}
use Rattle.startd_core.specs.Startds.{kill_answer}
use Rattle.startd_core.specs.declared.answer.Permit.{Permit}
use Rattle.startd_core.specs.declared.answer.StartdAnswer.{StartdAnswer}
use Rattle.startd_core.specs.declared.answer.StartdAnswer.TheVariants as startd
use Rattle.pool_rules.specs.Histories.{Accepts, IsEvent, HasView, LaunchesRun, Step}
use Rattle.pool_rules.specs.Kept.{IsKept}
use Rattle.pool_rules.proofs.HistoryKept.{history_kept}
use Rattle.pool_rules.proofs.HistoryTraces.{happens_traces}
use Rattle.pool_rules.proofs.PoolEvents.{event_free, receive_free_on}
use Rattle.pool_rules.proofs.PoolFrames.{aside_kept}
use Rattle.pool_rules.proofs.StartdLaunching.{launched_is_matched}

-- ---- what answers ask to be launched
abbrev permit_of : Answer → Option Permit
permit_of answer.Done = None
permit_of (answer.Append number tx) = None
permit_of (answer.Launch permit) = Some permit
permit_of (answer.Kill runs) = None

of_plan : (number : ℕ) (o : Option JobPlan) → permit_of (answer_with (pending_by number o)) ≡ None
of_plan number None = refl
of_plan number (Some p) = refl

of_startd : (a : StartdAnswer) → permit_of (answer_of_startd a) ≡ permit_in a
of_startd startd.Done = refl
of_startd (startd.Launch permit) = refl
of_startd (startd.Kill runs) = refl

of_kills : (runs : List RunNo) → permit_of (answer_of_startd (kill_answer runs)) ≡ None
of_kills [] = refl
of_kills (run ∷ runs) = refl

-- nothing is launched where the answer is one that launches nothing
silent : (r q : Stepped) → r ≡ q → permit_of q.answer ≡ None → permit_of r.answer ≡ None
silent r q is none = ap (λ (x : Stepped). permit_of x.answer) is ∙ none

in_some : {A : Type 0} (o : Option A) (P : A → Type 0) (R : Type 0) → ((x : A) → P x → R) → IsSomeAnd o P → R
in_some None P R each h = absurd h
in_some (Some x) P R each h = each x h

-- ---- each event
module _ (read : List ℕ → Option ClaimId) (reads : IsReader read) (p : Protocol) (s : PoolState) (k : IsKept p s) where
  brought : (e : Event) → IsKept p (counts_brought e s)
  brought e = aside_kept p s (counts_brought e s).counts s.events s.closed k

  launches : (e : Event) (t : PoolState) (r : Stepped) (w : AbstractPool) (permit : Permit) → IsEventRefusal e s None → Happens e (counts_brought e s) t r → t.latest ≡ s.latest → HasView (counts_event e s t) w → r.answer ≡ answer.Launch permit → IsPermitOf w permit
  unfolding Happens
  launches (event.Receive (Startd machine) boot index reading judged mismatch) t r w permit free h same shows launched =
      launched_is_matched p (counts_brought (event.Receive (Startd machine) boot index reading judged mismatch) s) t r machine boot index reading judged mismatch w permit
      (brought (event.Receive (Startd machine) boot index reading judged mismatch)) (receive_free_on s _ (Startd machine) boot index reading judged mismatch free) h
      (subst (λ n. ShowsPool (record (parts_of t) { moment = max n reading }) w) (sym same) shows) launched
  launches (event.Submit boot jobs reading) t r w permit free h same shows launched = absurd (none-some permit (sym (silent r _ h.answer refl) ∙ ap permit_of launched))
  launches (event.Order v job reading) t r w permit free h same shows launched = absurd (none-some permit (sym (silent r _ h.1 refl) ∙ ap permit_of launched))
  launches (event.Receive Schedd boot index reading judged mismatch) t r w permit free h same shows launched =
      absurd (none-some permit (sym (in_some (slice_get s.mails.sent index) _ (permit_of r.answer ≡ None) (λ sent is. silent r _ is.answer (of_plan s.next_tx _)) h) ∙ ap permit_of launched))
  launches (event.Receive Matchmaker boot index reading judged mismatch) t r w permit free h same shows launched =
      absurd (none-some permit (sym (in_some (slice_get s.mails.sent index) _ (permit_of r.answer ≡ None) (λ sent is. silent r _ is.1 refl) h) ∙ ap permit_of launched))
  launches (event.Tick Schedd boot reading) t r w permit free h same shows launched = absurd (none-some permit (sym (silent r _ h.answer (of_plan s.next_tx _)) ∙ ap permit_of launched))
  launches (event.Tick (Startd machine) boot reading) t r w permit free h same shows launched =
      absurd (none-some permit (sym (in_some (slice_get s.machines machine) _ (permit_of r.answer ≡ None) (λ v is. silent r _ is.answer (of_kills _)) h) ∙ ap permit_of launched))
  launches (event.Tick Matchmaker boot reading) t r w permit free h same shows launched = absurd (none-some permit (sym (silent r _ h.1 refl) ∙ ap permit_of launched))
  launches (event.Check boot job reading) t r w permit free h same shows launched = absurd (none-some permit (sym (silent r _ h.answer (of_plan s.next_tx _)) ∙ ap permit_of launched))
  launches (event.Logged boot receipt) t r w permit free h same shows launched =
      absurd (none-some permit (sym (in_some s.pending _ (permit_of r.answer ≡ None) (λ p is. silent r _ is.answer refl) h) ∙ ap permit_of launched))
  launches (event.Ended machine boot receipt reading) t r w permit free h same shows launched =
      absurd (none-some permit (sym (in_some (slice_get s.machines machine) _ (permit_of r.answer ≡ None) (λ v is. silent r _ is.answer (of_startd _ ∙ end_permits v receipt.item reading)) h) ∙ ap permit_of launched))
  launches (event.Crash who) t r w permit free h same shows launched = absurd (none-some permit (sym (silent r _ h.1 refl) ∙ ap permit_of launched))
  launches (event.Reopen Schedd kept ended reading) t r w permit free h same shows launched = absurd (none-some permit (sym (silent r _ h.comes.1 refl) ∙ ap permit_of launched))
  launches (event.Reopen (Startd machine) kept ended reading) t r w permit free h same shows launched =
      absurd (none-some permit (sym (in_some (slice_get s.machines machine) _ (permit_of r.answer ≡ None) (λ v is. silent r _ is.answer refl) h.comes) ∙ ap permit_of launched))
  launches (event.Reopen Matchmaker kept ended reading) t r w permit free h same shows launched = absurd (none-some permit (sym (silent r _ h.comes.1 refl) ∙ ap permit_of launched))
  launches (event.Matches list judged reading) t r w permit free h same shows launched = absurd (none-some permit (sym (silent r _ h.answer refl) ∙ ap permit_of launched))
  launches (event.Close length reading mismatch) t r w permit free h same shows launched = absurd (none-some permit (sym (silent r _ h.1 refl) ∙ ap permit_of launched))

  -- an event that is accepted
  pub accepted_launches : (e : Event) (r : Stepped) (new : PoolState) → Accepts s e r new → LaunchesRun r.answer new
  accepted_launches e r new accepts w permit shows launched =
      let reacts = accepts.reacts in
      launches e reacts.then_pool r w permit (event_free e s accepts.accepted) reacts.happens
      (happens_traces read reads e (counts_brought e s) reacts.then_pool r reacts.happens).latest
      (subst (λ x. HasView x w) reacts.pool shows) launched

-- ---- in a history
pub launched_matched : (read : List ℕ → Option ClaimId) → IsReader read → (o : Opening) (list : List Step) (s : PoolState) (e : Event) (r : Stepped) (new : PoolState) (v w : AbstractPool) (permit : Permit)
    → IsEvent o list s e r new v w → r.answer ≡ answer.Launch permit → IsPermitOf w permit
launched_matched read reads o list s e r new v w permit h launched =
    let k = history_kept read reads o list s h.history in
    accepted_launches read reads k.0 s k.1 e r new h.accepts w permit h.after launched
