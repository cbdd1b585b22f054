use Rattle.std.proofs.Common.{◌∙◌, ap, Ok}
use Rattle.pool_config.specs.Settings.{with_config, with_value, ceiling_set}
use Rattle.pool_config.specs.SoFar.{so_far}
use Rattle.pool_config.proofs.settings.Settings.set_ceiling.Goals as goal

pub returns-in_ok-set-in-Some : goal.returns-in_ok-set-in-Some
returns-in_ok-set-in-Some c =
    let s = so_far c.args.self.now in
    ap (λ l. Ok (with_config (record s.config { ceiling = l }) s)) c.in_ok-set-in-Some.ensures ∙ ap (with_value c.args.line (ceiling_set c.args.user.now s)) c.in-Some.ensures

pub returns-in-None : goal.returns-in-None
returns-in-None c = ap (with_value c.args.line (ceiling_set c.args.user.now (so_far c.args.self.now))) c.in-None.ensures
