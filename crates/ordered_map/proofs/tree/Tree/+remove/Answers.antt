use Rattle.std.proofs.Common.{rules, ◌≡◌, ◌<◌, length, arith, sym, ap, ◌∙◌}
use Rattle.std.specs.declared.cmp.Ordering.TheVariants.{Less, Equal, Greater}
use Rattle.ordered_map.specs.Trees.{entries_in}
use Rattle.ordered_map.proofs.Nodes as node
use Rattle.ordered_map.proofs.tree.Tree.+remove.Goals as goal

pub remove-value-requires : goal.remove-value-requires
remove-value-requires g t c κs within =
    let is : c.args.self.now ≡ entries_in c.deref_mut.result.now = c.in_ok-node.ensures.node ∙ ap entries_in (sym c.deref_mut.ensures.value) in
    let short : length c.deref_mut.result.now.left < length c.args.self.now = node.shorter_left c.deref_mut.result.now c.args.self.now is in
    (omega (arith, c.decreases), (search rules, (search rules, node.sorted_left g.met.K.Ord.total c.deref_mut.result.now c.args.self.now is c.requires)))

pub remove-value-requires-in-Greater : goal.remove-value-requires-in-Greater
remove-value-requires-in-Greater g t c κs within =
    let is : c.args.self.now ≡ entries_in c.deref_mut-in-Greater.result.now = c.in_ok-node.ensures.node ∙ ap entries_in (sym c.deref_mut-in-Greater.ensures.value) in
    let short : length c.deref_mut-in-Greater.result.now.right < length c.args.self.now = node.shorter_right c.deref_mut-in-Greater.result.now c.args.self.now is in
    (omega (arith, c.decreases), (search rules, (search rules, node.sorted_right g.met.K.Ord.total c.deref_mut-in-Greater.result.now c.args.self.now is c.requires)))

pub returns-in-Less-clause-value : goal.returns-in-Less-clause-value
returns-in-Less-clause-value g t c =
    let order : g.K.Ord.cmp c.args.key.now c.in_ok-node.node.value.key ≡ Less = node.of_node g.K.Ord.cmp c.args.key.now c.in_ok-node.node.value c.deref.result.now Less c.deref.ensures c.in-Less.ensures in
    rw (node.lookup_left g.met.K.Ord.total c.in_ok-node.node.value c.args.self.now c.in_ok-node.ensures.node c.requires c.args.key.now order) (search rules)

pub returns-in-Less-clause-rest : goal.returns-in-Less-clause-rest
returns-in-Less-clause-rest g t c =
    let order : g.K.Ord.cmp c.args.key.now c.in_ok-node.node.value.key ≡ Less = node.of_node g.K.Ord.cmp c.args.key.now c.in_ok-node.node.value c.deref.result.now Less c.deref.ensures c.in-Less.ensures in
    rw (node.remove_left g.met.K.Ord.total c.in_ok-node.node.value c.args.self.now c.in_ok-node.ensures.node c.requires c.args.key.now order) (search rules)

pub returns-in-Equal-clause-value : goal.returns-in-Equal-clause-value
returns-in-Equal-clause-value g t c =
    let order : g.K.Ord.cmp c.args.key.now c.in_ok-node.node.value.key ≡ Equal = node.of_node g.K.Ord.cmp c.args.key.now c.in_ok-node.node.value c.deref.result.now Equal c.deref.ensures c.in-Equal.ensures in
    rw (node.lookup_here g.met.K.Ord.total c.in_ok-node.node.value c.args.self.now c.in_ok-node.ensures.node c.requires c.args.key.now order) (search rules)

pub returns-in-Equal-clause-rest : goal.returns-in-Equal-clause-rest
returns-in-Equal-clause-rest g t c =
    let order : g.K.Ord.cmp c.args.key.now c.in_ok-node.node.value.key ≡ Equal = node.of_node g.K.Ord.cmp c.args.key.now c.in_ok-node.node.value c.deref.result.now Equal c.deref.ensures c.in-Equal.ensures in
    rw (node.remove_here g.met.K.Ord.total c.in_ok-node.node.value c.args.self.now c.in_ok-node.ensures.node c.requires c.args.key.now order) (search rules)

pub returns-in-Greater-clause-value : goal.returns-in-Greater-clause-value
returns-in-Greater-clause-value g t c =
    let order : g.K.Ord.cmp c.args.key.now c.in_ok-node.node.value.key ≡ Greater = node.of_node g.K.Ord.cmp c.args.key.now c.in_ok-node.node.value c.deref.result.now Greater c.deref.ensures c.in-Greater.ensures in
    rw (node.lookup_right g.met.K.Ord.total c.in_ok-node.node.value c.args.self.now c.in_ok-node.ensures.node c.requires c.args.key.now order) (search rules)

pub returns-in-Greater-clause-rest : goal.returns-in-Greater-clause-rest
returns-in-Greater-clause-rest g t c =
    let order : g.K.Ord.cmp c.args.key.now c.in_ok-node.node.value.key ≡ Greater = node.of_node g.K.Ord.cmp c.args.key.now c.in_ok-node.node.value c.deref.result.now Greater c.deref.ensures c.in-Greater.ensures in
    rw (node.remove_right g.met.K.Ord.total c.in_ok-node.node.value c.args.self.now c.in_ok-node.ensures.node c.requires c.args.key.now order) (search rules)
