use Rattle.std.proofs.Common.{◌≡◌, ℕ, List, ◌++◌, ap, ◌∙◌}
use Rattle.startd_core.specs.PreparedStartds.{startd_after}
use Rattle.pool_mail.specs.declared.mail.Mail.{Mail}
use Rattle.pool_tables.specs.MailLists.{MailsValue}
use Rattle.pool_view.specs.declared.run.EndReport.{EndReport}
use Rattle.startd_core.specs.declared.answer.StartdStep.{StartdStep}
use Rattle.startd_core.specs.Startds.{StartdValue}
use Rattle.std.specs.Prelude.{slice_set}
use Rattle.pool_rules.specs.Deeds.{posts, rested}
use Rattle.pool_steps.proofs.Posting.{posted_all}
use Rattle.pool_steps.proofs.startds.StartdDeed.commit.Goals as goal

pub returns-clause-pool : goal.returns-clause-pool
returns-clause-pool c = λ v there.
    let old = c.args.state.now in
    let step = c.args.self.prepared.step in
    let bytes = c.args.self.bytes in
    let mails = c.into_parts-mails.result.0 in
    let are : mails ≡ step.mails = ap (λ p. p.0) c.into_parts-mails.ensures ∙ ap (λ (s : StartdStep). s.mails) c.commit-step.ensures.step in
    let sent : rested c.put_all.new.self ≡ posts step.mails old.mails =
    ap rested c.put_all.ensures ∙ posted_all mails old.mails ∙ ap (λ (ms : List Mail). posts ms old.mails) are in
    let vs = slice_set old.machines c.args.machine (startd_after c.args.self.prepared v) in
    ap (λ (m : MailsValue). record old { machines = c.commit-step.new.self; mails = m; counts = record old.counts { bytes = bytes }; reports = c.join.new.list }) sent
    ∙ ap (λ (x : List StartdValue). record old { machines = x; mails = posts step.mails old.mails; counts = record old.counts { bytes = bytes }; reports = c.join.new.list }) (c.commit-step.ensures.machines v there)
    ∙ ap (λ (x : List EndReport). record old { machines = vs; mails = posts step.mails old.mails; counts = record old.counts { bytes = bytes }; reports = x }) c.join.ensures
    ∙ ap (λ (x : ℕ). record old { machines = vs; mails = posts step.mails old.mails; counts = record old.counts { bytes = x }; reports = old.reports ++ c.args.self.reports }) c.requires.bytes

pub returns-clause-mails : goal.returns-clause-mails
returns-clause-mails c =
    let old = c.args.state.now in
    let step = c.args.self.prepared.step in
    let mails = c.into_parts-mails.result.0 in
    let are : mails ≡ step.mails = ap (λ p. p.0) c.into_parts-mails.ensures ∙ ap (λ (s : StartdStep). s.mails) c.commit-step.ensures.step in
    ap rested c.put_all.ensures ∙ posted_all mails old.mails ∙ ap (λ (ms : List Mail). posts ms old.mails) are
