use Rattle.std.proofs.Common.{sym, ap, ◌∙◌, Option}
use Rattle.startd_core.proofs.Taken.{mail_taken, nothing_taken}
use Rattle.startd_core.specs.Startds.{StartdValue, received_at}
use Rattle.startd_slot.specs.Mails.{reaction_to}
use Rattle.startd_slot.specs.declared.slot.Slot.{Slot}
use Rattle.startd_core.proofs.startd.Startd.take_mail_at.Goals as goal

pub take_reaction-requires : goal.take_reaction-requires
take_reaction-requires c = sym c.in-Some.ensures

pub returns-in_default : goal.returns-in_default
returns-in_default c =
    nothing_taken c.args.self.now c.nothing_done.result _ _ c.prepare_step.ensures c.nothing_done.ensures
    (ap (λ (o : Option Slot). received_at c.args.self.now c.args.place o c.args.mail.now c.args.judged c.args.reading) c.in_default.ensures)

pub returns : goal.returns
returns c =
    mail_taken c.args.self.now c.args.place c.in-Some.slot.now c.args.mail.now c.args.judged c.args.reading c.in_ok-reaction.reaction _
    c.in-Some.ensures
    (c.in_ok-reaction.ensures ∙ ap (λ (v : StartdValue). reaction_to v.machine.boot c.in-Some.slot.now c.args.mail.now c.args.judged c.args.reading) c.self.view_is)
    c.in_ok-prepared.ensures
