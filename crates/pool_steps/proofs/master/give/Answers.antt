use Rattle.std.proofs.Common.{◌≡◌, ℕ, [], ◌∷◌, length, Option, ap, sym, ◌∙◌}
use Rattle.pool_outer.specs.declared.gate.Daemon.TheVariants.{Schedd}
use Rattle.pool_rules.specs.Deeds.{at_rest, rested, sends}
use Rattle.pool_rules.specs.Masters.{gives}
use Rattle.pool_tables.specs.MailLists.{MailsValue, sent_now}
use Rattle.pool_tables.specs.OrderTables.{given_by, order_mail}
use Rattle.pool_steps.proofs.master.give.Goals as goal

pub returns-clause-given : goal.returns-clause-given
returns-clause-given c =
    let s = c.args.state.now in
    let place = c.in-Some.place in
    let order = sent_now (order_mail c.args.verb c.args.job) Schedd ∷ [] in
    let room = c.in_ok-room.ensures.same in
    let sent : rested c.put_order.new.mails ≡ sends order s.mails = c.put_order.ensures ∙ ap (λ (m : MailsValue). sends order m) room in
    let number : c.len-number.result ≡ length s.mails.sent = c.len-number.ensures ∙ ap (λ (m : MailsValue). length m.sent) room in
    let given : c.give.new.self ≡ given_by place (length s.mails.sent) s.orders = c.give.ensures ∙ ap (λ (n : ℕ). given_by place n s.orders) number in
    (λ i. record (at_rest s) { mails = sent i; orders = given i }) ∙ ap (λ (o : Option ℕ). gives o c.args.verb c.args.job (at_rest s)) (sym c.in-Some.is ∙ c.first_due.ensures)
