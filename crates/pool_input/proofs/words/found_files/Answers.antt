use Rattle.std.proofs.Common.{◌≡◌, ◌∙◌, ◌∷◌, refl, sym, ap, ap₂, codes, Some, option_map, unwrap_or}
use Rattle.clap.specs.Words.{found_of, rows_of}
use Rattle.clap.proofs.CallerLemmas.{some_of_text}
use Rattle.pool_input.specs.Command.{config_row, submit_rows, submits_of}
use Rattle.pool_input.proofs.Found.{rows_read, config_read, submits_read}
use Rattle.pool_input.proofs.words.found_files.Goals as goal

pub unwrap-config-requires : goal.unwrap-config-requires
unwrap-config-requires c =
    let config = c.requires.0 in
    let submits = c.requires.1.0 in
    let rows : rows_of (found_of c.unwrap-run.result.now) ≡ config_row config ∷ submit_rows submits
    = rows_read c.args.matches.now _ config submits c.requires.1.1 (rw c.unwrap-run.ensures at c.subcommand_matches.ensures.rows) in
    some_of_text (λ s. s.now) c.get_str.result (Some config) (c.get_str.ensures ∙ config_read (found_of c.unwrap-run.result.now) config submits rows) refl

pub returns : goal.returns
returns c =
    let config = c.requires.0 in
    let submits = c.requires.1.0 in
    let rows : rows_of (found_of c.unwrap-run.result.now) ≡ config_row config ∷ submit_rows submits
    = rows_read c.args.matches.now _ config submits c.requires.1.1 (rw c.unwrap-run.ensures at c.subcommand_matches.ensures.rows) in
    let first : config ≡ c.unwrap-config.result.now
    = ap (λ o. unwrap_or o config) (sym (config_read (found_of c.unwrap-run.result.now) config submits rows) ∙ sym c.get_str.ensures ∙ ap (option_map (λ s. s.now)) c.unwrap-config.ensures) in
    let others = sym (submits_read config submits) ∙ ap submits_of (sym rows) ∙ sym c.in_ok-submits.ensures in
    c.requires.1.1 ∙ ap₂ (λ name names. Some (codes "run", config_row name ∷ submit_rows names)) first others
