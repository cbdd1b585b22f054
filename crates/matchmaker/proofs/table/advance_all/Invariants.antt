use Rattle.std.proofs.Common.{◌≡◌}
use Rattle.matchmaker.proofs.Users.{later_upto}
use Rattle.matchmaker.proofs.table.advance_all.Given as goal

abbrev pub invariant-users : goal.invariant-users
invariant-users l = l.users.entries ≡ later_upto l.ticks l.place l.fn.users.entries
