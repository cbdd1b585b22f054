use Rattle.std.proofs.Common.{◌<◌, ◌∙◌, ap, length, subst, swap_remove, sym}
use Rattle.starter.specs.ChildTables.{ChildTable}
use Rattle.starter.proofs.Tables.{values_removed}
use Rattle.starter.proofs.children.Children.remove.Goals as goal

pub returns-clause-list : goal.returns-clause-list
returns-clause-list c any =
    values_removed c.self.inside.by_run.entries c.swap_remove_index.new.self.entries c.args.place c.swap_remove_index.result any
    (subst (λ (t : ChildTable). c.args.place < length t.list) (sym c.self.view_is) c.requires) c.swap_remove_index.ensures.entry c.swap_remove_index.ensures.entries
    ∙ ap (λ (t : ChildTable). swap_remove t.list c.args.place any) c.self.view_is
