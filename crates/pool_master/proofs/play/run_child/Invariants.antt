-- The child is the only one that was launched since, and is looked at.
use Rattle.std.proofs.Common.{◌≡◌, ◌≢◌, ◌≤◌, ◌+◌, ◌++◌, ◌∷◌, [], ℕ, true}
use Rattle.pool_master.proofs.play.run_child.Given as goal

abbrev pub invariant-looks : goal.invariant-looks
invariant-looks g l = record {
  child : l.child ≡ g.P.Spawner.count l.fn.spawner;
  count : g.P.Spawner.count l.spawner ≡ g.P.Spawner.count l.fn.spawner + 1;
  launched : g.P.Spawner.tells l.fn.spawner ≡ true → g.P.Spawner.launches l.spawner ≡ g.P.Spawner.launches l.fn.spawner ++ l.what ∷ [];
  others : g.P.Spawner.tells l.fn.spawner ≡ true → (k : ℕ) → k ≢ g.P.Spawner.count l.fn.spawner → g.P.Spawner.seen l.spawner k ≡ g.P.Spawner.seen l.fn.spawner k;
  spared : g.P.Spawner.tells l.fn.spawner ≡ true → (k : ℕ) → g.P.Spawner.killed l.spawner k ≡ g.P.Spawner.killed l.fn.spawner k;
  told : g.P.Spawner.tells l.spawner ≡ g.P.Spawner.tells l.fn.spawner;
  later : g.P.Spawner.faults l.fn.spawner ≤ g.P.Spawner.faults l.spawner;
}
