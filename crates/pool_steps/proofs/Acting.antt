-- What startds do to a pool, by what is ready.
use Rattle.std.proofs.Common.{◌≡◌, ℕ, List, [], Option, Some, None, IsSomeAnd, ap, refl, ◌∙◌}
use Rattle.ad_eval.specs.Judgement.{Judgement}
use Rattle.pool_parts.specs.declared.answer.Stepped.{Stepped}
use Rattle.pool_state.specs.declared.state.PoolState.{PoolState}
use Rattle.pool_view.specs.declared.run.EndReport.{EndReport}
use Rattle.pool_tables.specs.declared.sent.Sent.{Sent}
use Rattle.startd_core.specs.declared.answer.StartdStep.{StartdStep}
use Rattle.startd_core.specs.Startds.{After, StartdValue, after_mail}
use Rattle.startd_core.specs.PreparedStartds.{startd_after}
use Rattle.pool_steps.specs.declared.startds.StartdDeed.{StartdDeed}
use Rattle.pool_rules.specs.Deeds.{receives, startd_acts, startd_answer}
use Rattle.pool_steps.specs.Ready.{IsStartdDeed}
use Rattle.pool_rules.specs.Startds.{IsReceivedStep, IsStartdStep}

pub startd_alike : (machine : ℕ) (v w : StartdValue) (s t : StartdStep) (xs ys : List EndReport) (pool : PoolState) → v ≡ w → s ≡ t → xs ≡ ys → startd_acts machine v s xs pool ≡ startd_acts machine w t ys pool
startd_alike machine v w s t xs ys pool a b d =
    ap (λ (x : StartdValue). startd_acts machine x s xs pool) a ∙ ap (λ (x : StartdStep). startd_acts machine w x xs pool) b ∙ ap (λ (x : List EndReport). startd_acts machine w t x pool) d

-- what is ready is done by the startd that is there
pub done_by : (machine : ℕ) (event : StartdValue → After) (ends : StartdValue → List EndReport) (d : StartdDeed) (o : Option StartdValue) (old new : PoolState) (r : Stepped)
    → IsSomeAnd o (λ v. IsStartdDeed (event v) (ends v) d v)
    → ((v : StartdValue) → o ≡ Some v → new ≡ startd_acts machine (startd_after d.prepared v) d.prepared.step d.reports old)
    → r ≡ startd_answer d.prepared.step
    → IsSomeAnd o (λ v. IsStartdStep machine (event v) (ends v) old new r)
done_by machine event ends d (Some v) old new r ready pool answer = record {
  pool = pool v refl ∙ startd_alike machine (startd_after d.prepared v) (event v).startd d.prepared.step (event v).step d.reports (ends v) old ready.startd ready.step ready.ends;
  answer = answer ∙ ap startd_answer ready.step;
}
done_by machine event ends d None old new r ready pool answer = ready

-- and receives a mail with it
received_by : (machine index : ℕ) (event : StartdValue → After) (d : StartdDeed) (o : Option StartdValue) (old mid new : PoolState) (r : Stepped)
    → IsSomeAnd o (λ v. IsStartdDeed (event v) [] d v)
    → ((v : StartdValue) → o ≡ Some v → mid ≡ startd_acts machine (startd_after d.prepared v) d.prepared.step d.reports old)
    → new ≡ receives index mid
    → r ≡ startd_answer d.prepared.step
    → IsSomeAnd o (λ v. IsReceivedStep machine index (event v) old new r)
received_by machine index event d (Some v) old mid new r ready pool received answer = record {
  pool = received ∙ ap (receives index) (pool v refl ∙ startd_alike machine (startd_after d.prepared v) (event v).startd d.prepared.step (event v).step d.reports [] old ready.startd ready.step ready.ends);
  answer = answer ∙ ap startd_answer ready.step;
}
received_by machine index event d None old mid new r ready pool received answer = ready

pub received_from : (machine index : ℕ) (judged : Option Judgement) (reading : ℕ) (d : StartdDeed) (m : Option Sent) (o : Option StartdValue) (old mid new : PoolState) (r : Stepped)
    → IsSomeAnd m (λ s. IsSomeAnd o (λ v. IsStartdDeed (after_mail v s.mail judged reading) [] d v))
    → ((v : StartdValue) → o ≡ Some v → mid ≡ startd_acts machine (startd_after d.prepared v) d.prepared.step d.reports old)
    → new ≡ receives index mid
    → r ≡ startd_answer d.prepared.step
    → IsSomeAnd m (λ s. IsSomeAnd o (λ v. IsReceivedStep machine index (after_mail v s.mail judged reading) old new r))
received_from machine index judged reading d (Some s) o old mid new r ready pool received answer =
    received_by machine index (λ v. after_mail v s.mail judged reading) d o old mid new r ready pool received answer
received_from machine index judged reading d None o old mid new r ready pool received answer = ready
