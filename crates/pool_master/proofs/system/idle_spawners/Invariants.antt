-- There are as many spawners as machines so far, and each is idle.
use Rattle.std.proofs.Common.{◌≡◌, length, All}
use Rattle.pool_master.proofs.system.idle_spawners.Given as goal

abbrev pub invariant-machines : goal.invariant-machines
invariant-machines g l = (length l.spawners.items ≡ l._machine) × All (λ s. length s.children.items ≡ 0) l.spawners.items
