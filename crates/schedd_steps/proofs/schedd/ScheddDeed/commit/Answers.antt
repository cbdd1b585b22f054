use Rattle.std.proofs.Common.{◌≡◌, ℕ, Option, List, ◌++◌, ap, ◌∙◌}
use Rattle.claim_id.specs.declared.numbers.JobId.{JobId}
use Rattle.schedd_state.specs.PreparedSchedds.{schedd_after}
use Rattle.pool_mail.specs.declared.mail.Mail.{Mail}
use Rattle.pool_parts.specs.declared.pending.Pending.{Pending}
use Rattle.pool_tables.specs.MailLists.{MailsValue}
use Rattle.schedd_state.specs.declared.answer.ScheddStep.{ScheddStep}
use Rattle.schedd_state.specs.Schedds.{ScheddValue}
use Rattle.pool_rules.specs.Answers.{pending_by, answer_with, answered}
use Rattle.pool_rules.specs.Deeds.{posts, rested}
use Rattle.pool_steps.proofs.Posting.{posted_all}
use Rattle.schedd_steps.proofs.schedd.ScheddDeed.commit.Goals as goal

pub returns-clause-pool : goal.returns-clause-pool
returns-clause-pool c =
    let old = c.args.state.now in
    let step = c.args.self.prepared.step in
    let bytes = c.args.self.bytes in
    let mails = c.into_parts-mails.result.0 in
    let are : mails ≡ step.mails = ap (λ p. p.0) c.into_parts-mails.ensures ∙ ap (λ (s : ScheddStep). s.mails) c.commit-step.ensures.step in
    let sent : rested c.put_all.new.self ≡ posts step.mails old.mails =
    ap rested c.put_all.ensures ∙ posted_all mails old.mails ∙ ap (λ (ms : List Mail). posts ms old.mails) are in
    let begun = c.put_begun.ensures.pending ∙ c.requires.begun in
    let v = schedd_after c.args.self.prepared old.schedd in
    let pending = pending_by old.next_tx step.plan in
    ap (λ (m : MailsValue). record old { schedd = c.commit-step.new.self; mails = m; counts = record old.counts { bytes = bytes }; pending = c.put_begun.new.pending; ordered = c.join.new.list }) sent
    ∙ ap (λ (x : ScheddValue). record old { schedd = x; mails = posts step.mails old.mails; counts = record old.counts { bytes = bytes }; pending = c.put_begun.new.pending; ordered = c.join.new.list }) c.commit-step.ensures.schedd
    ∙ ap (λ (x : Option Pending). record old { schedd = v; mails = posts step.mails old.mails; counts = record old.counts { bytes = bytes }; pending = x; ordered = c.join.new.list }) begun
    ∙ ap (λ (x : List JobId). record old { schedd = v; mails = posts step.mails old.mails; counts = record old.counts { bytes = bytes }; pending = pending; ordered = x }) c.join.ensures
    ∙ ap (λ (x : ℕ). record old { schedd = v; mails = posts step.mails old.mails; counts = record old.counts { bytes = x }; pending = pending; ordered = old.ordered ++ c.args.self.ordered }) c.requires.bytes

pub returns-clause-answer : goal.returns-clause-answer
returns-clause-answer c = c.put_begun.ensures.answer ∙ ap (λ (o : Option Pending). answered (answer_with o)) c.requires.begun
