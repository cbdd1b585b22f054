use Rattle.std.proofs.Common.{◌≡◌, ◌∙◌, ◌||◌, ap, ap₂, codes, false, true}
use Rattle.std.proofs.lemmas.Result.{IfOk-weaker}
use Rattle.clap.specs.Words.{App, app_of, new_app, with_rule}
use Rattle.clap.specs.Simple.{on_top}
use Rattle.clap.specs.declared.builder.command.Command.TheViews.{out-Command}
use Rattle.pool_input.proofs.Building.{run_settings, run_local}
use Rattle.pool_input.proofs.command.run_command.Goals as goal

pub returns-clause-shape : goal.returns-clause-shape
returns-clause-shape c =
    let begun : app_of c.disable_help_flag.result ≡ on_top (λ s. record s { disable_help_flag = true }) (new_app (codes "run"))
    = run_settings (codes "run") _ (out-Command c.new.result) (out-Command c.about.result) (out-Command c.disable_help_flag.result) c.new.ensures.app c.about.ensures c.disable_help_flag.ensures in
    let first = c.in_ok-arg.ensures.shape c.config_argument.ensures.local ∙ ap₂ with_rule begun c.config_argument.ensures.rule in
    IfOk-weaker c.arg-2.result _ _ (λ _ added. ap (λ (a : App). a.top) (added.shape c.submit_argument.ensures.local ∙ ap₂ with_rule first c.submit_argument.ensures.rule)) c.arg-2.ensures

pub returns-clause-local : goal.returns-clause-local
returns-clause-local c =
    let begun : (out-Command c.disable_help_flag.result).has_globals ≡ false = run_local _ (out-Command c.new.result) (out-Command c.about.result) (out-Command c.disable_help_flag.result) c.new.ensures.local c.about.ensures c.disable_help_flag.ensures in
    let first = c.in_ok-arg.ensures.globals ∙ ap₂ ◌||◌ begun c.config_argument.ensures.local in
    IfOk-weaker c.arg-2.result _ _ (λ _ added. added.globals ∙ ap₂ ◌||◌ first c.submit_argument.ensures.local) c.arg-2.ensures
