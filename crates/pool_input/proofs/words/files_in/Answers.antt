use Rattle.pool_input.specs.Words.{file_names, texts}
use Rattle.pool_input.proofs.Found.{as_named}
use Rattle.pool_input.proofs.words.files_in.Goals as goal

pub returns-clause-files : goal.returns-clause-files
returns-clause-files c =
    let named = c.in_ok-found_files.field-0 in
    as_named (texts c.args.words.now) c.in_ok-matches.matches c.requires.0 named.config.now c.requires.1.0 (file_names named.submits.items) c.requires.1.1
    (c.in_ok-matches.ensures.found c.requires.0 c.requires.1.0 c.requires.1.1) c.in_ok-found_files.ensures
