use Rattle.std.proofs.Common.{ap, ◌∙◌}
use Rattle.pool_config.specs.Users.{users_of}
use Rattle.pool_config.proofs.UserLemmas.{users-insert_entry}
use Rattle.pool_config.proofs.users.put.Goals as goal

pub returns : goal.returns
returns c =
    ap users_of c.in_ok-insert.ensures.entries ∙ users-insert_entry c.args.entries.now.entries c.args.user c.args.number
