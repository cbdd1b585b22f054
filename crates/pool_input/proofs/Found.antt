-- What the getters of clap's matches give, where these are those of a run.
use Rattle.std.proofs.Common.{◌≡◌, ◌∙◌, ℕ, List, [], ◌∷◌, refl, sym, ap, subst, codes, Some, option_map, unwrap_or}
use Rattle.clap.specs.Words.{Row, first_of, first_value, rows_of, subcommand_rows_of}
use Rattle.clap.specs.declared.parser.matches.ArgMatches.{ArgMatches}
use Rattle.clap.specs.declared.parser.matches.Found.{Found}
use Rattle.clap.proofs.WalkLemmas.{first_value-rows}
use Rattle.pool_input.specs.Words.{IsRun}
use Rattle.pool_input.specs.Command.{HasRead, config_row, submit_rows, submits_of}

-- the rows of the command that was met
pub rows_read : (m : ArgMatches) (rows : List Row) (config : List ℕ) (submits : List (List ℕ)) → HasRead m config submits
    → option_map (λ p. p.1) (subcommand_rows_of m) ≡ Some rows → rows ≡ config_row config ∷ submit_rows submits
rows_read m rows config submits read is = ap (λ o. unwrap_or o []) (sym is ∙ ap (option_map (λ p. p.1)) read)

pub config_read : (f : Found) (config : List ℕ) (submits : List (List ℕ)) → rows_of f ≡ config_row config ∷ submit_rows submits
    → first_value f (codes "CONFIG") ≡ Some config
config_read f config submits is = first_value-rows f (codes "CONFIG") ∙ ap (first_of (codes "CONFIG")) is

pub submits_read : (config : List ℕ) (submits : List (List ℕ)) → submits_of (config_row config ∷ submit_rows submits) ≡ submits
submits_read config [] = refl
submits_read config (name ∷ names) = refl

-- what was read is what the words name
pub as_named : (words : List (List ℕ)) (m : ArgMatches) (config a : List ℕ) (submits b : List (List ℕ)) → IsRun words config submits → HasRead m config submits
    → HasRead m a b → IsRun words a b
as_named words m config a submits b is read named =
    let rows : config_row config ∷ submit_rows submits ≡ config_row a ∷ submit_rows b = rows_read m _ a b named (ap (option_map (λ p. p.1)) read) in
    let first : config ≡ a = ap (λ rows. unwrap_or (first_of (codes "CONFIG") rows) []) rows in
    let others : submits ≡ b = sym (submits_read config submits) ∙ ap submits_of rows ∙ submits_read a b in
    subst (λ (x : List ℕ). IsRun words x b) first (subst (λ (xs : List (List ℕ)). IsRun words config xs) others is)
