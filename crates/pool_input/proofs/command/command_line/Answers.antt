use Rattle.std.proofs.Common.{◌≡◌, ◌∙◌, ap₂, true, codes}
use Rattle.std.proofs.lemmas.Result.{IfOk-weaker}
use Rattle.clap.specs.Words.{app_of, new_app, with_subcommand}
use Rattle.clap.specs.Simple.{on_top}
use Rattle.clap.specs.declared.builder.command.Command.TheViews.{out-Command}
use Rattle.pool_input.proofs.Building.{program_settings}
use Rattle.pool_input.proofs.command.command_line.Goals as goal

pub returns : goal.returns
returns c =
    let top : app_of c.subcommand_required.result ≡ on_top (λ s. record s { has_version = true; no_binary_name = true; disable_help_subcommand = true; subcommand_required = true }) (new_app (codes "condor_pool"))
    = program_settings (codes "condor_pool") _ _ _ (out-Command c.new.result) (out-Command c.version.result) (out-Command c.about.result) (out-Command c.override_usage.result) (out-Command c.no_binary_name.result) (out-Command c.disable_help_subcommand.result) (out-Command c.subcommand_required.result)
    c.new.ensures.app c.version.ensures c.about.ensures c.override_usage.ensures c.no_binary_name.ensures c.disable_help_subcommand.ensures c.subcommand_required.ensures in
    IfOk-weaker c.subcommand.result _ _ (λ m h. h.shape c.in_ok-run.ensures.local ∙ ap₂ with_subcommand top c.in_ok-run.ensures.shape) c.subcommand.ensures
