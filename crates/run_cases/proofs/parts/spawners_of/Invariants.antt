-- There are as many spawners as machines so far, and each is idle.
use Rattle.std.proofs.Common.{◌≡◌, length, All}
use Rattle.run_cases.proofs.parts.spawners_of.Given as goal

abbrev pub invariant-machines : goal.invariant-machines
invariant-machines l = (length l.spawners.items ≡ l._machine) × All (λ s. length s.inner.children.items ≡ 0) l.spawners.items
