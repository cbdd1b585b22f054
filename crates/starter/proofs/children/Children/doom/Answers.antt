use Rattle.std.proofs.Common.{ap}
use Rattle.starter.specs.ChildTables.{ChildTable}
use Rattle.starter.proofs.Tables.{keyed_doomed, values_doomed}
use Rattle.starter.proofs.children.Children.doom.Goals as goal

pub invariant_of-self : goal.invariant_of-self
invariant_of-self c = keyed_doomed c.self.inside.by_run.entries c.args.place c.index-child.result.now c.self.invariant c.index-child.ensures

pub returns-clause-list : goal.returns-clause-list
returns-clause-list c = values_doomed c.self.inside.by_run.entries c.args.self.now.list c.args.place c.index-child.result.now (ap (λ (t : ChildTable). t.list) c.self.view_is) c.index-child.ensures
