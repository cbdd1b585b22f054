use Rattle.std.proofs.Common.{ap, sym, ◌∙◌}
use Rattle.pool_mail.specs.declared.mail.Mail.{Mail}
use Rattle.schedd_plan.specs.declared.reason.Reason.TheVariants.{ByCommand}
use Rattle.schedd_plan.specs.MailTable.{denied_row, granted_row, order_row}
use Rattle.schedd_plan.specs.OrderTable.{hold_plan, remove_plan, resume_plan}
use Rattle.schedd_core.specs.Rows.{mail_row}
use Rattle.schedd_core.proofs.mails.mail_row.Goals as goal

pub returns-in-Granted : goal.returns-in-Granted
unfolding mail_row
returns-in-Granted c =
    c.granted_row.ensures ∙ ap (λ k. granted_row k c.in-Granted.claim.no) c.known_claim.ensures
    ∙ ap (λ (m : Mail). mail_row c.args.schedd.now c.args.queue.now m c.args.reading) (sym c.in-Granted.is)

pub returns-in-Denied : goal.returns-in-Denied
unfolding mail_row
returns-in-Denied c =
    c.denied_row.ensures ∙ (λ i. denied_row (c.known_claim-in-Denied.ensures i) (c.is_some.ensures i) c.in-Denied.why)
    ∙ ap (λ (m : Mail). mail_row c.args.schedd.now c.args.queue.now m c.args.reading) (sym c.in-Denied.is)

pub returns-in-Seen : goal.returns-in-Seen
unfolding mail_row
returns-in-Seen c = c.seen_row.ensures ∙ ap (λ (m : Mail). mail_row c.args.schedd.now c.args.queue.now m c.args.reading) (sym c.in-Seen.is)

pub returns-in-Gone : goal.returns-in-Gone
unfolding mail_row
returns-in-Gone c = c.gone_row.ensures ∙ ap (λ (m : Mail). mail_row c.args.schedd.now c.args.queue.now m c.args.reading) (sym c.in-Gone.is)

pub returns-in-Remove : goal.returns-in-Remove
unfolding mail_row
returns-in-Remove c =
    c.order_row.ensures ∙ ap order_row (c.remove_plan.ensures ∙ ap (λ p. remove_plan p c.in-Remove.job) c.place-in-Remove.ensures)
    ∙ ap (λ (m : Mail). mail_row c.args.schedd.now c.args.queue.now m c.args.reading) (sym c.in-Remove.is)

pub returns-in-Hold : goal.returns-in-Hold
unfolding mail_row
returns-in-Hold c =
    c.order_row-in-Hold.ensures ∙ ap order_row (c.hold_plan.ensures ∙ ap (λ p. hold_plan p c.in-Hold.job ByCommand) c.place-in-Hold.ensures)
    ∙ ap (λ (m : Mail). mail_row c.args.schedd.now c.args.queue.now m c.args.reading) (sym c.in-Hold.is)

pub returns-in-Resume : goal.returns-in-Resume
unfolding mail_row
returns-in-Resume c =
    c.order_row-in-Resume.ensures ∙ ap order_row (c.resume_plan.ensures ∙ ap (λ p. resume_plan p c.in-Resume.job) c.place-in-Resume.ensures)
    ∙ ap (λ (m : Mail). mail_row c.args.schedd.now c.args.queue.now m c.args.reading) (sym c.in-Resume.is)
