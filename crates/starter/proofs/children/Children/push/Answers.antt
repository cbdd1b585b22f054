use Rattle.std.proofs.Common.{◌≡◌, ◌++◌, ◌∷◌, ◌∙◌, [], ap}
use Rattle.std.proofs.lemmas.Result.{IfOk-at_ok}
use Rattle.starter.specs.ChildTables.{ChildTable}
use Rattle.starter.proofs.Tables.{keyed_more, pushed, values_more}
use Rattle.starter.proofs.children.Children.push.Goals as goal

longer : (c : goal.After-unwrap) → c.insert.new.self.entries ≡ c.self.inside.by_run.entries ++ (c.key_of.result, c.args.child) ∷ []
longer c = pushed c.self.inside.by_run.entries c.insert.new.self.entries c.args.self.now.list c.key_of.result c.args.child (ap (λ (t : ChildTable). t.list) c.self.view_is) c.key_of.ensures c.self.invariant c.requires.new (IfOk-at_ok _ c.unwrap.ensures c.insert.ensures.entries)

pub invariant_of-self : goal.invariant_of-self
invariant_of-self c = keyed_more c.self.inside.by_run.entries c.insert.new.self.entries c.key_of.result c.args.child (longer c) c.key_of.ensures c.self.invariant

pub returns : goal.returns
returns c = record {
  list =
      values_more c.self.inside.by_run.entries c.insert.new.self.entries c.key_of.result c.args.child (longer c)
      ∙ ap (λ (t : ChildTable). t.list ++ c.args.child ∷ []) c.self.view_is;
}
