use Rattle.std.proofs.Common.{◌∙◌, ap, List, ℕ, Ok, Some, None, cond}
use Rattle.pool_config.specs.Settings.{with_config, with_value}
use Rattle.pool_config.specs.SoFar.{so_far}
use Rattle.pool_config.proofs.settings.Settings.set_owner.Goals as goal

pub returns : goal.returns
returns c =
    let s = so_far c.args.self.now in
    ap (λ (o : List ℕ). Ok (with_config (record s.config { owner = o }) s)) c.in_ok-self.ensures
    ∙ ap (λ b. with_value c.args.line (λ (o : List ℕ). with_config (record s.config { owner = o }) s) (cond b (Some c.args.text.now) None)) c.if-not-is_name.ensures

pub returns-then-not-is_name : goal.returns-then-not-is_name
returns-then-not-is_name c =
    let s = so_far c.args.self.now in
    ap (λ b. with_value c.args.line (λ (o : List ℕ). with_config (record s.config { owner = o }) s) (cond b (Some c.args.text.now) None)) c.if-not-is_name.ensures
