use Rattle.std.proofs.lemmas.Bool.{ltb-true, ltb-false}
use Rattle.pool_input.specs.declared.files.TheConstants.{MOST_BYTES}
use Rattle.pool_input.proofs.files.is_too_long.Goals as goal

pub returns-clause-yes : goal.returns-clause-yes
returns-clause-yes c = ltb-true MOST_BYTES c.args.size

pub returns-clause-no : goal.returns-clause-no
returns-clause-no c = ltb-false MOST_BYTES c.args.size
