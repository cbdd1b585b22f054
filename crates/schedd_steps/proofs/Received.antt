-- What the mail that the schedd receives makes of a pool.
use Rattle.std.proofs.Common.{◌≡◌, ◌∙◌, ℕ, Bool, List, Option, Some, None, IsSomeAnd, ap}
use Rattle.claim_id.specs.declared.numbers.JobId.{JobId}
use Rattle.pool_parts.specs.declared.answer.Stepped.{Stepped}
use Rattle.pool_rules.specs.Deeds.{at_rest, ordered_by, receives, schedd_acts, schedd_answer}
use Rattle.pool_rules.specs.Schedds.{ScheddReceives}
use Rattle.pool_state.specs.declared.state.PoolState.{PoolState}
use Rattle.pool_tables.specs.MailLists.{MailsValue, after_receipt}
use Rattle.pool_tables.specs.declared.sent.Sent.{Sent}
use Rattle.schedd_core.specs.Rows.{after_mail}
use Rattle.schedd_state.specs.PreparedSchedds.{schedd_after}
use Rattle.schedd_state.specs.Schedds.{ScheddValue}
use Rattle.schedd_state.specs.declared.answer.ScheddStep.{ScheddStep}
use Rattle.schedd_steps.specs.Ready.{IsReceiptDeed}
use Rattle.schedd_steps.specs.declared.schedd.ScheddDeed.{ScheddDeed}

-- so it acted, and the mail was received
pub received_so : (index : ℕ) (known : Bool) (reading : ℕ) (m : Option Sent) (s t : PoolState) (d : ScheddDeed) (mails : MailsValue) (r : Stepped)
    → IsSomeAnd m (λ x. IsReceiptDeed s x.mail known reading d) → at_rest t ≡ schedd_acts (schedd_after d.prepared s.schedd) d.prepared.step d.ordered s
    → mails ≡ after_receipt index t.mails → r ≡ schedd_answer s d.prepared.step
    → IsSomeAnd m (λ x. ScheddReceives (at_rest s) index x.mail known reading (at_rest (record t { mails = mails })) r)
received_so index known reading (Some x) s t d mails r ready acts is answers =
    let a = after_mail s.schedd s.queue x.mail reading in
    let pool : at_rest t ≡ schedd_acts a.schedd a.step (ordered_by x.mail known) s =
    acts
    ∙ ap (λ (v : ScheddValue). schedd_acts v d.prepared.step d.ordered s) ready.schedd
    ∙ ap (λ (n : ScheddStep). schedd_acts a.schedd n d.ordered s) ready.step
    ∙ ap (λ (jobs : List JobId). schedd_acts a.schedd a.step jobs s) ready.ordered in
    record {
      pool = ap (λ (l : MailsValue). at_rest (record t { mails = l })) is ∙ ap (λ (p : PoolState). receives index p) pool;
      answer = answers ∙ ap (λ (n : ScheddStep). schedd_answer s n) ready.step;
    }
received_so index known reading None s t d mails r ready acts is answers = ready
