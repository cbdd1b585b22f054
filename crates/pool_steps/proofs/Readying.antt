-- What is ready of a startd that is there, by what its deed was made of.
use Rattle.std.proofs.Common.{◌≡◌, ℕ, ◌+◌, ◌<◌, List, length, slice_get, Option, Some, IsSomeAnd, Result, Ok, Err, IfOk, OnOk, ap, sym, subst, ◌∙◌}
use Rattle.std.specs.Prelude.{unwrap_or}
use Rattle.std.proofs.lemmas.Option.{slice_get_within}
use Rattle.pool_parts.specs.Answers.{kept_of}
use Rattle.pool_parts.specs.Sizes.{mails_count}
use Rattle.pool_parts.specs.declared.size.TheConstants.{MAX_BYTES}
use Rattle.pool_rules.specs.Answers.{answer_of_startd}
use Rattle.pool_steps.specs.Ready.{IsStartdDeed}
use Rattle.pool_steps.specs.declared.startds.StartdDeed.{StartdDeed}
use Rattle.pool_tables.specs.declared.refusal.StepError.{StepError}
use Rattle.pool_tables.specs.declared.refusal.StepError.TheVariants as error
use Rattle.pool_view.specs.declared.run.EndReport.{EndReport}
use Rattle.startd_core.specs.PreparedStartds.{startd_after}
use Rattle.startd_core.specs.Sound.{IsSound}
use Rattle.startd_core.specs.Startds.{After, StartdValue}
use Rattle.startd_core.specs.declared.answer.StartdStep.{StartdStep}
use Rattle.startd_core.specs.declared.prepared.PreparedStartd.{PreparedStartd}

pub record IsReady (machine count : ℕ) (startds : List StartdValue) (event : StartdValue → After) (ends : StartdValue → List EndReport) (r : Result StartdDeed StepError) : Type 0 where
  pub ready : IfOk r (λ d. IsSomeAnd (slice_get startds machine) (λ v. IsStartdDeed (event v) (ends v) d v))
  pub within : OnOk r (machine < length startds)
  pub sound : IfOk r (λ d. (v : StartdValue) → slice_get startds machine ≡ Some v → IsSound (startd_after d.prepared v))
  pub kept : IfOk r (λ d. d.kept ≡ kept_of (answer_of_startd d.prepared.step.answer))
  pub bytes : IfOk r (λ d. d.bytes ≡ count + mails_count d.prepared.step.mails)
  pub large : r ≡ Err error.Bytes → IsSomeAnd (slice_get startds machine) (λ v. MAX_BYTES < count + mails_count (event v).step.mails)

-- what was prepared is what the event makes of the startd
pub record IsPrepared (a : After) (v : StartdValue) (p : PreparedStartd) : Type 0 where
  pub startd : startd_after p v ≡ a.startd
  pub step : p.step ≡ a.step
  pub sound : IsSound (startd_after p v)

above : (count : ℕ) (event : StartdValue → After) (v : StartdValue) (o : Option StartdValue) (s : StartdStep) → o ≡ Some v → s ≡ (event v).step → MAX_BYTES < count + mails_count s.mails
    → IsSomeAnd o (λ v. MAX_BYTES < count + mails_count (event v).step.mails)
above count event v o s there step large =
    subst (λ (o : Option StartdValue). IsSomeAnd o (λ v. MAX_BYTES < count + mails_count (event v).step.mails)) (sym there)
    (subst (λ (s : StartdStep). MAX_BYTES < count + mails_count s.mails) step large)

pub ready_by : (machine count : ℕ) (startds : List StartdValue) (event : StartdValue → After) (ends : StartdValue → List EndReport) (v : StartdValue) (p : PreparedStartd) (r : Result StartdDeed StepError)
    → slice_get startds machine ≡ Some v
    → IsPrepared (event v) v p
    → IfOk r (λ d. d.prepared ≡ p)
    → IfOk r (λ d. d.kept ≡ kept_of (answer_of_startd p.step.answer))
    → IfOk r (λ d. d.reports ≡ ends v)
    → IfOk r (λ d. d.bytes ≡ count + mails_count p.step.mails)
    → (r ≡ Err error.Bytes → MAX_BYTES < count + mails_count p.step.mails)
    → IsReady machine count startds event ends r
ready_by machine count startds event ends v p (Ok d) there is made kept reports bytes large = record {
  ready = subst (λ (o : Option StartdValue). IsSomeAnd o (λ v. IsStartdDeed (event v) (ends v) d v)) (sym there) (record {
    startd = ap (λ (q : PreparedStartd). startd_after q v) made ∙ is.startd;
    step = ap (λ (q : PreparedStartd). q.step) made ∙ is.step;
    ends = reports;
  });
  within = slice_get_within startds machine v there;
  sound = λ w at.
      subst (λ (x : StartdValue). IsSound (startd_after d.prepared x)) (ap (λ (o : Option StartdValue). unwrap_or o v) (sym there ∙ at))
      (subst (λ (q : PreparedStartd). IsSound (startd_after q v)) (sym made) is.sound);
  kept = kept ∙ ap (λ (q : PreparedStartd). kept_of (answer_of_startd q.step.answer)) (sym made);
  bytes = bytes ∙ ap (λ (q : PreparedStartd). count + mails_count q.step.mails) (sym made);
  large = λ is_large. above count event v (slice_get startds machine) p.step there is.step (large is_large);
}
ready_by machine count startds event ends v p (Err e) there is made kept reports bytes large = record {
  ready = tt;
  within = tt;
  sound = tt;
  kept = tt;
  bytes = tt;
  large = λ is_large. above count event v (slice_get startds machine) p.step there is.step (large is_large);
}
