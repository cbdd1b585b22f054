use Rattle.std.proofs.Common.{ap}
use Rattle.schedd_plan.specs.declared.mail.MailRow.{MailRow}
use Rattle.schedd_core.specs.Rows.{after_row}
use Rattle.schedd_core.proofs.Prepared.{room_of, schedd_of, step_of}
use Rattle.schedd_core.proofs.mails.prepare_receive.Goals as goal

pub returns-clause-schedd : goal.returns-clause-schedd
returns-clause-schedd c =
    schedd_of c.args.schedd.now _ _ c.take_row.result c.take_row.ensures
    (ap (λ (r : MailRow). after_row c.args.schedd.now c.args.queue.now r c.args.reading) c.in_ok-row.ensures)

pub returns-clause-step : goal.returns-clause-step
returns-clause-step c =
    step_of c.args.schedd.now _ _ c.take_row.result c.take_row.ensures
    (ap (λ (r : MailRow). after_row c.args.schedd.now c.args.queue.now r c.args.reading) c.in_ok-row.ensures)

pub returns-clause-room : goal.returns-clause-room
returns-clause-room c = room_of c.args.schedd.now _ c.take_row.result c.take_row.ensures
