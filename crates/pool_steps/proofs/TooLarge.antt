-- What an event would make of a pool where that has too many bytes of ads.
use Rattle.std.proofs.Common.{◌≡◌, ℕ, ◌+◌, ◌<◌, List, [], Option, Some, None, IsSomeAnd, refl}
use Rattle.ad_eval.specs.Judgement.{Judgement}
use Rattle.claim_id.specs.declared.numbers.JobId.{JobId}
use Rattle.claim_id.specs.declared.order.Verb.{Verb}
use Rattle.pool_parts.specs.declared.answer.Answer.TheVariants as answer
use Rattle.pool_parts.specs.Sizes.{mails_count}
use Rattle.pool_parts.specs.declared.size.TheConstants.{MAX_BYTES}
use Rattle.pool_rules.specs.Answers.{answered}
use Rattle.pool_rules.specs.Deeds.{at_rest, receives, startd_acts, startd_answer}
use Rattle.pool_rules.specs.Happens.{IsDone}
use Rattle.pool_rules.specs.Limits.{IsTooLarge}
use Rattle.pool_rules.specs.Masters.{gives}
use Rattle.pool_rules.specs.Startds.{IsReceivedStep, IsStartdStep}
use Rattle.pool_state.specs.declared.state.PoolState.{PoolState}
use Rattle.pool_tables.specs.declared.sent.Sent.{Sent}
use Rattle.pool_view.specs.declared.run.EndReport.{EndReport}
use Rattle.startd_core.specs.Startds.{After, StartdValue, after_mail}

-- ---- startds
pub startd_too_large : (machine : ℕ) (event : StartdValue → After) (ends : StartdValue → List EndReport) (o : Option StartdValue) (s : PoolState)
    → IsSomeAnd o (λ v. MAX_BYTES < s.counts.bytes + mails_count (event v).step.mails)
    → IsTooLarge (λ new r. IsSomeAnd o (λ v. IsStartdStep machine (event v) (ends v) (at_rest s) new r))
startd_too_large machine event ends (Some v) s above = record {
  new = startd_acts machine (event v).startd (event v).step (ends v) (at_rest s);
  answer = startd_answer (event v).step;
  makes = record { pool = refl; answer = refl };
  above = above;
}
startd_too_large machine event ends None s above = absurd above

pub startd_receipt_too_large : (machine index : ℕ) (judged : Option Judgement) (reading : ℕ) (m : Option Sent) (o : Option StartdValue) (s : PoolState)
    → IsSomeAnd m (λ sent. IsSomeAnd o (λ v. MAX_BYTES < s.counts.bytes + mails_count (after_mail v sent.mail judged reading).step.mails))
    → IsTooLarge (λ new r. IsSomeAnd m (λ sent. IsSomeAnd o (λ v. IsReceivedStep machine index (after_mail v sent.mail judged reading) (at_rest s) new r)))
startd_receipt_too_large machine index judged reading (Some sent) (Some v) s above =
    let a = after_mail v sent.mail judged reading in
    record {
      new = receives index (startd_acts machine a.startd a.step [] (at_rest s));
      answer = startd_answer a.step;
      makes = record { pool = refl; answer = refl };
      above = above;
    }
startd_receipt_too_large machine index judged reading (Some sent) None s above = absurd above
startd_receipt_too_large machine index judged reading None o s above = absurd above

-- ---- what changes no bytes
pub done_too_large : (new : PoolState) → MAX_BYTES < new.counts.bytes → IsTooLarge (λ n r. (n ≡ new) × IsDone r)
done_too_large new above = record { new = new; answer = answered answer.Done; makes = (refl, refl); above = above }

pub gives_too_large : (o : Option ℕ) (v : Verb) (job : JobId) (s : PoolState) → MAX_BYTES < s.counts.bytes → IsTooLarge (λ new r. (new ≡ gives o v job (at_rest s)) × IsDone r)
gives_too_large None v job s above = done_too_large (gives None v job (at_rest s)) above
gives_too_large (Some place) v job s above = done_too_large (gives (Some place) v job (at_rest s)) above
