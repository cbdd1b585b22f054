use Rattle.std.proofs.Common.{rules, slice_get, ap}
use Rattle.std.specs.Option.{option_copied}
use Rattle.pool_tables.specs.MailLists.{MailsValue}
use Rattle.pool_rules.specs.Deeds.{at_rest, rested}
use Rattle.pool_steps.proofs.Acting.{received_from}
use Rattle.pool_steps.proofs.Posting.{receivable}
use Rattle.pool_steps.proofs.TooLarge.{startd_receipt_too_large}
use Rattle.pool_steps.proofs.startds.receive_by_startd.Goals as goal

pub returns-clause-received : goal.returns-clause-received
returns-clause-received c =
    let old = c.args.state.now in
    let mid = c.take_deed.new.state in
    received_from c.args.machine c.args.index (option_copied c.args.judged) c.args.reading c.in_ok-deed.deed (slice_get old.mails.sent c.args.index) (slice_get old.machines c.args.machine) (at_rest old) (at_rest mid) _ c.in_ok-stepped.stepped
    c.in_ok-deed.ensures.ready c.in_ok-stepped.ensures.pool (ap (λ (m : MailsValue). record mid { mails = rested m }) c.receive.ensures) c.in_ok-stepped.ensures.answer

pub returns-in_err-deed-clause-large : goal.returns-in_err-deed-clause-large
returns-in_err-deed-clause-large c = λ is.
    let old = c.args.state.now in
    startd_receipt_too_large c.args.machine c.args.index (option_copied c.args.judged) c.args.reading (slice_get old.mails.sent c.args.index) (slice_get old.machines c.args.machine) old (search (rules, is))

pub receive-requires : goal.receive-requires
receive-requires c =
    receivable c.args.state.now.mails.sent c.in_ok-deed.deed.prepared.step.mails c.take_deed.new.state.mails.sent c.args.index (ap (λ (m : MailsValue). m.sent) c.in_ok-stepped.ensures.mails) c.requires
