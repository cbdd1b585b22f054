use Rattle.std.proofs.Common.{ap, ◌∙◌}
use Rattle.startd_core.specs.PreparedStartds.{startd_after}
use Rattle.pool_tables.specs.MailLists.{MailsValue}
use Rattle.pool_rules.specs.Deeds.{posts, startd_acts}
use Rattle.pool_steps.proofs.startds.take_deed.Goals as goal

pub returns-clause-pool : goal.returns-clause-pool
returns-clause-pool c = λ v there.
    let old = c.args.state.now in
    let d = c.args.deed in
    c.commit.ensures.pool v there ∙ ap (λ (m : MailsValue). startd_acts c.args.machine (startd_after d.prepared v) d.prepared.step d.reports (record old { mails = m })) c.in_ok-room.ensures.same

pub returns-clause-mails : goal.returns-clause-mails
returns-clause-mails c = c.commit.ensures.mails ∙ ap (λ (m : MailsValue). posts c.args.deed.prepared.step.mails m) c.in_ok-room.ensures.same
