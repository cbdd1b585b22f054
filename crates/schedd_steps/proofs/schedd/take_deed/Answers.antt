use Rattle.std.proofs.Common.{ap, ◌∙◌}
use Rattle.schedd_state.specs.PreparedSchedds.{schedd_after}
use Rattle.pool_tables.specs.MailLists.{MailsValue}
use Rattle.pool_rules.specs.Deeds.{schedd_acts}
use Rattle.schedd_steps.proofs.schedd.take_deed.Goals as goal

pub returns-clause-pool : goal.returns-clause-pool
returns-clause-pool c =
    let old = c.args.state.now in
    let d = c.args.deed in
    c.commit.ensures.pool ∙ ap (λ (m : MailsValue). schedd_acts (schedd_after d.prepared old.schedd) d.prepared.step d.ordered (record old { mails = m })) c.in_ok-room.ensures.same
