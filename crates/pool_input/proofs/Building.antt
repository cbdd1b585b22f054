-- What a parse reads of a command and of its arguments, setting by setting.
use Rattle.std.proofs.Common.{◌≡◌, ◌∙◌, ℕ, List, true, false, Option, Some, None, ap, ap₂}
use Rattle.std.specs.Prelude.{IsSomeAnd}
use Rattle.std.specs.Borrow.{Bor}
use Rattle.clap.specs.Words.{Rule, new_app, new_rule, rule_of}
use Rattle.clap.specs.Simple.{app_of_fields, on_top}
use Rattle.clap.specs.declared.builder.arg.Arg.{Arg}
use Rattle.clap.specs.declared.builder.command.Command.{Command}
use Rattle.clap.specs.declared.builder.command.Command.TheOpen.{Command-F}
use Rattle.clap.specs.declared.builder.range.ValueRange.{ValueRange}

-- of the program
pub program_settings : (name : List ℕ) (version about usage : Bor (List ℕ)) (a b c d e f g : Command-F Command) → app_of_fields a ≡ new_app name → b ≡ record a { version = Some version } → c ≡ record b { about = Some about } → d ≡ record c { usage_str = Some usage }
    → e ≡ record d { no_binary_name = true } → f ≡ record e { disable_help_subcommand = true } → g ≡ record f { subcommand_required = true }
    → app_of_fields g ≡ on_top (λ s. record s { has_version = true; no_binary_name = true; disable_help_subcommand = true; subcommand_required = true }) (new_app name)
program_settings name version about usage a b c d e f g new b_is c_is d_is e_is f_is g_is =
    ap app_of_fields g_is
    ∙ ap (λ (x : Command-F Command). on_top (λ s. record s { subcommand_required = true }) (app_of_fields x)) f_is
    ∙ ap (λ (x : Command-F Command). on_top (λ s. record s { disable_help_subcommand = true; subcommand_required = true }) (app_of_fields x)) e_is
    ∙ ap (λ (x : Command-F Command). on_top (λ s. record s { no_binary_name = true; disable_help_subcommand = true; subcommand_required = true }) (app_of_fields x)) (d_is ∙ ap (λ (x : Command-F Command). record x { usage_str = Some usage }) c_is)
    ∙ ap (λ (x : Command-F Command). on_top (λ s. record s { no_binary_name = true; disable_help_subcommand = true; subcommand_required = true }) (app_of_fields x)) b_is
    ∙ ap (on_top (λ s. record s { has_version = true; no_binary_name = true; disable_help_subcommand = true; subcommand_required = true })) new

-- of `run`
pub run_settings : (name : List ℕ) (about : Bor (List ℕ)) (a b c : Command-F Command) → app_of_fields a ≡ new_app name → b ≡ record a { about = Some about } → c ≡ record b { disable_help_flag = true } → app_of_fields c ≡ on_top (λ s. record s { disable_help_flag = true }) (new_app name)
run_settings name about a b c new b_is c_is =
    ap app_of_fields c_is
    ∙ ap (λ (x : Command-F Command). on_top (λ s. record s { disable_help_flag = true }) (app_of_fields x)) b_is
    ∙ ap (on_top (λ s. record s { disable_help_flag = true })) new

pub run_local : (about : Bor (List ℕ)) (a b c : Command-F Command) → a.has_globals ≡ false → b ≡ record a { about = Some about } → c ≡ record b { disable_help_flag = true } → c.has_globals ≡ false
run_local about a b c new b_is c_is = ap (λ (x : Command-F Command). x.has_globals) c_is ∙ ap (λ (x : Command-F Command). x.has_globals) b_is ∙ new

-- of the arguments
pub required_rule : (id : List ℕ) (help : Bor (List ℕ)) (a b c : Arg) → rule_of a ≡ new_rule id → b ≡ record a { required = true } → c ≡ record b { help = Some help } → rule_of c ≡ record (new_rule id) { required = true }
required_rule id help a b c new b_is c_is =
    ap rule_of c_is
    ∙ ap rule_of b_is
    ∙ ap (λ (r : Rule). record r { required = true }) new

range_is : (asked : Option ValueRange) (range : ValueRange) → IsSomeAnd asked (λ r. r ≡ range) → asked ≡ Some range
range_is None range is = absurd is
range_is (Some r) range is = ap Some is

pub many_rule : (id : List ℕ) (help : Bor (List ℕ)) (range : ValueRange) (a b c : Arg) → rule_of a ≡ new_rule id → (b ≡ record a { num_vals = b.num_vals }) × IsSomeAnd b.num_vals (λ r. r ≡ range) → c ≡ record b { help = Some help } → rule_of c ≡ record (new_rule id) { range = Some range }
many_rule id help range a b c new b_is c_is =
    ap rule_of c_is
    ∙ ap rule_of b_is.0
    ∙ ap₂ (λ (r : Rule) (asked : Option ValueRange). record r { range = asked }) new (range_is b.num_vals range b_is.1)
