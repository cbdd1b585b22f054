use Rattle.std.proofs.Common.{◌∙◌, ◌≤◌, ap, ap₂, arith, length, string_bytes}
use Rattle.std.proofs.lemmas.Result.{IfErr-weaker, IfOk-weaker}
use Rattle.std.proofs.lemmas.List.{length-map}
use Rattle.clap.specs.Words.{is_simple, subcommand_of, takes}
use Rattle.pool_input.proofs.WordsReading.{all_read, all_taken, line_is_simple}
use Rattle.pool_input.proofs.words.matches_of.Goals as goal

pub returns-clause-found : goal.returns-clause-found
returns-clause-found c =
    let line = c.in_ok-command_line.ensures in
    let parse = c.try_get_matches_from in
    IfOk-weaker parse.result _ _ (λ m h config submits is.
    (h (ap is_simple line ∙ line_is_simple)).1 ∙ ap₂ subcommand_of line is.is ∙ all_read config submits is.config_is is.submits_are) parse.ensures.matches

pub returns-clause-memory : goal.returns-clause-memory
returns-clause-memory c =
    let line = c.in_ok-command_line.ensures in
    let parse = c.try_get_matches_from in
    let is = c.requires.1.1 in
    let few : length c.args.words.now ≤ 18446744073709551615 = omega arith in
    IfErr-weaker parse.result _ _ (λ e h. h (ap₂ takes line is.is ∙ all_taken c.requires.0 c.requires.1.0 is.config_is is.submits_are (omega (arith, few, ap length is.is, length-map c.args.words.now string_bytes)))) parse.ensures.passes
