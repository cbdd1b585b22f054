-- The command line, as clap reads it, and what it finds in the words of a run.
use Rattle.std.specs.Prelude.{◌≡◌, ℕ, true, List, [], ◌∷◌, Some, None, codes, unwrap_or}
use Rattle.clap.specs.Lexer.{usize_max}
use Rattle.clap.specs.Words.{App, Row, Rule, Shape, all_of, new_app, new_rule, with_subcommand, subcommand_rows_of}
use Rattle.clap.specs.Simple.{new_shape, on_top}
use Rattle.clap.specs.declared.builder.value_parser.Reading.TheVariants.{AsWritten}
use Rattle.clap.specs.declared.parser.matches.ArgMatches.{ArgMatches}
use Rattle.clap.specs.declared.parser.matches.ValueSource.TheVariants.{CommandLine}

abbrev pub config_rule : Rule
config_rule = record (new_rule (codes "CONFIG")) { required = true }

abbrev pub submit_rule : Rule
submit_rule = record (new_rule (codes "SUBMIT")) {
  range = Some (record { start_inclusive = 0; end_inclusive = usize_max });
}

abbrev pub run_shape : Shape
run_shape = record (new_shape (codes "run")) {
  rules = config_rule ∷ submit_rule ∷ [];
  disable_help_flag = true;
}

abbrev pub command_line : App
command_line = with_subcommand (on_top (λ s. record s {
  has_version = true;
  no_binary_name = true;
  disable_help_subcommand = true;
  subcommand_required = true;
}) (new_app (codes "condor_pool"))) run_shape

abbrev pub config_row : List ℕ → Row
config_row config = record {
  id = codes "CONFIG";
  values = config ∷ [];
  count = None;
  source = Some CommandLine;
  reading = AsWritten;
}

-- none where no submit file is named
abbrev pub submit_rows : List (List ℕ) → List Row
submit_rows [] = []
submit_rows (name ∷ rest) = record {
  id = codes "SUBMIT";
  values = name ∷ rest;
  count = None;
  source = Some CommandLine;
  reading = AsWritten;
} ∷ []

-- the matches are those of `run`, with this configuration and these submit files
abbrev pub HasRead : ArgMatches → List ℕ → List (List ℕ) → Type 0
HasRead m config submits =
    subcommand_rows_of m ≡ Some (codes "run", config_row config ∷ submit_rows submits)

abbrev pub HasFiles : ArgMatches → Type 0
HasFiles m = (config : List ℕ) × ((submits : List (List ℕ)) × HasRead m config submits)

-- the submit files in the rows of `run`
abbrev pub submits_of : List Row → List (List ℕ)
submits_of rows = unwrap_or (all_of (codes "SUBMIT") rows) []
