use Rattle.std.proofs.Common.{rules, ◌≡◌, ◌<◌, length, arith, sym, ap, ◌∙◌}
use Rattle.std.specs.declared.cmp.Ordering.TheVariants.{Less, Equal, Greater}
use Rattle.ordered_map.specs.Trees.{entries_in}
use Rattle.ordered_map.proofs.Nodes as node
use Rattle.ordered_map.proofs.tree.Tree.+put.Goals as goal

pub put-requires : goal.put-requires
put-requires g t c κs within =
    let is : c.args.self.now ≡ entries_in c.deref_mut.result.now = c.in-Some.ensures.node ∙ ap entries_in (sym c.deref_mut.ensures.value) in
    let short : length c.deref_mut.result.now.left < length c.args.self.now = node.shorter_left c.deref_mut.result.now c.args.self.now is in
    (omega (arith, c.decreases), (search rules, (search rules, (node.sorted_left g.met.K.Ord.total c.deref_mut.result.now c.args.self.now is c.requires.sorted, c.requires.lone))))

pub put-requires-in-Greater : goal.put-requires-in-Greater
put-requires-in-Greater g t c κs within =
    let is : c.args.self.now ≡ entries_in c.deref_mut-in-Greater.result.now = c.in-Some.ensures.node ∙ ap entries_in (sym c.deref_mut-in-Greater.ensures.value) in
    let short : length c.deref_mut-in-Greater.result.now.right < length c.args.self.now = node.shorter_right c.deref_mut-in-Greater.result.now c.args.self.now is in
    (omega (arith, c.decreases), (search rules, (search rules, (node.sorted_right g.met.K.Ord.total c.deref_mut-in-Greater.result.now c.args.self.now is c.requires.sorted, c.requires.lone))))

pub returns-in-Less : goal.returns-in-Less
returns-in-Less g t c =
    let order : g.K.Ord.cmp c.args.entry.value.key c.in-Some.node.value.key ≡ Less = node.of_nodes g.K.Ord.cmp c.args.entry.value c.deref.result.now c.in-Some.node.value c.deref-2.result.now Less c.deref.ensures c.deref-2.ensures c.in-Less.ensures in
    rw (node.insert_left g.met.K.Ord.total c.in-Some.node.value c.args.self.now c.in-Some.ensures.node c.requires.sorted c.args.entry.value.key c.args.entry.value.value order) (search rules)

pub returns-in-Equal : goal.returns-in-Equal
returns-in-Equal g t c =
    let order : g.K.Ord.cmp c.args.entry.value.key c.in-Some.node.value.key ≡ Equal = node.of_nodes g.K.Ord.cmp c.args.entry.value c.deref.result.now c.in-Some.node.value c.deref-2.result.now Equal c.deref.ensures c.deref-2.ensures c.in-Equal.ensures in
    rw (node.insert_here g.met.K.Ord.total c.in-Some.node.value c.args.self.now c.in-Some.ensures.node c.requires.sorted c.args.entry.value.key c.args.entry.value.value order) (search rules)

pub returns-in-Greater : goal.returns-in-Greater
returns-in-Greater g t c =
    let order : g.K.Ord.cmp c.args.entry.value.key c.in-Some.node.value.key ≡ Greater = node.of_nodes g.K.Ord.cmp c.args.entry.value c.deref.result.now c.in-Some.node.value c.deref-2.result.now Greater c.deref.ensures c.deref-2.ensures c.in-Greater.ensures in
    rw (node.insert_right g.met.K.Ord.total c.in-Some.node.value c.args.self.now c.in-Some.ensures.node c.requires.sorted c.args.entry.value.key c.args.entry.value.value order) (search rules)
