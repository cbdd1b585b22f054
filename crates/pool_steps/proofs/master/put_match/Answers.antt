use Rattle.std.proofs.Common.{[], ◌∷◌, List, ap, ◌∙◌}
use Rattle.std.proofs.lemmas.List.{append_assoc}
use Rattle.pool_mail.specs.declared.mail.Mail.TheVariants as mail
use Rattle.pool_outer.specs.declared.gate.Daemon.TheVariants.{Schedd, Startd}
use Rattle.pool_rules.specs.Deeds.{rested}
use Rattle.pool_tables.specs.declared.sent.Sent.{Sent}
use Rattle.pool_tables.specs.MailLists.{MailsValue, sent_now, with_mail}
use Rattle.pool_steps.proofs.master.put_match.Goals as goal

pub returns-clause-sent : goal.returns-clause-sent
returns-clause-sent c =
    let old = c.args.mails.now in
    let found = c.args.found.now in
    let told = mail.Matched found in
    let startd = Startd found.claim.no.slot.machine in
    ap rested c.put-2.ensures
    ∙ ap (λ (m : MailsValue). rested (with_mail told startd m)) c.put.ensures
    ∙ ap (λ (l : List Sent). record old { sent = l; spare = 0 }) (append_assoc old.sent (sent_now told Schedd ∷ []) (sent_now told startd ∷ []))
