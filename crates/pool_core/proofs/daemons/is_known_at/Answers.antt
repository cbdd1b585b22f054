use Rattle.std.proofs.Common.{IfSome, ap, false, subst, sym, ◌∙◌, ◌≡◌}
use Rattle.std.specs.Option.{option_copied}
use Rattle.pool_rules.specs.Deeds.{at_rest}
use Rattle.pool_rules.specs.Happens.{is_known}
use Rattle.pool_tables.specs.declared.sent.Sent.{Sent}
use Rattle.pool_core.proofs.daemons.is_known_at.Goals as goal

pub returns-in-None : goal.returns-in-None
returns-in-None c = subst (λ o. IfSome o (λ (sent : Sent). false ≡ is_known sent.mail (at_rest c.args.state.now))) (sym (ap option_copied c.in-None.is) ∙ c.get.ensures) tt
