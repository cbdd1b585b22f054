use Rattle.std.proofs.Common.{◌≡◌, Option, None, slice_get, ap, sym, ◌∙◌}
use Rattle.pool_mail.specs.declared.matching.Match.{Match}
use Rattle.pool_rules.specs.Deeds.{sends}
use Rattle.pool_rules.specs.Masters.{mails_at}
use Rattle.pool_steps.proofs.Posting.{no_mails}
use Rattle.pool_steps.proofs.master.put_match_at.Goals as goal

pub returns-in_default-clause-sent : goal.returns-in_default-clause-sent
returns-in_default-clause-sent c =
    let absent : None ≡ slice_get c.args.list.now c.args.place = sym c.in_default.is ∙ c.match_at.ensures in
    no_mails c.args.mails.now ∙ ap (λ (o : Option Match). sends (mails_at o) c.args.mails.now) absent
