use Rattle.std.proofs.Common.{ap, ◌∙◌}
use Rattle.pool_mail.specs.declared.mail.Mail.{Mail}
use Rattle.pool_outer.specs.declared.gate.Daemon.TheVariants.{Schedd}
use Rattle.pool_rules.specs.Deeds.{rested}
use Rattle.pool_tables.specs.MailLists.{with_mail}
use Rattle.pool_steps.proofs.master.put_order.Goals as goal

pub returns : goal.returns
returns c =
    ap rested c.put.ensures ∙ ap (λ (m : Mail). rested (with_mail m Schedd c.args.mails.now)) c.order_mail.ensures
