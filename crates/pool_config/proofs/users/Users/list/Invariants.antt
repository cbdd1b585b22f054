-- The users so far, and those that are left, are all.
use Rattle.std.proofs.Common.{◌≡◌, ◌++◌}
use Rattle.pool_config.specs.Users.{users_of}
use Rattle.pool_config.proofs.users.Users.list.Given as goal

abbrev pub invariant-loop-user : goal.invariant-loop-user
invariant-loop-user l = l.list ++ users_of l.user-iterator ≡ l.self
