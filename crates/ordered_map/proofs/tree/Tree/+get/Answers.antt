use Rattle.std.proofs.Common.{rules, ◌≡◌, ◌<◌, length, arith, sym, ◌∙◌}
use Rattle.ordered_map.specs.Trees.{entries_in}
use Rattle.ordered_map.proofs.Nodes as node
use Rattle.ordered_map.proofs.tree.Tree.+get.Goals as goal

pub get-requires : goal.get-requires
get-requires g t c κs within =
    let is : c.args.self.now ≡ entries_in c.in_ok-node.node.now = c.in_ok-node.ensures in
    let short : length c.in_ok-node.node.now.left < length c.args.self.now = node.shorter_left c.in_ok-node.node.now c.args.self.now is in
    (omega (arith, c.decreases), (search rules, (search rules, node.sorted_left g.met.K.Ord.total c.in_ok-node.node.now c.args.self.now is c.requires)))

pub get-requires-in-Greater : goal.get-requires-in-Greater
get-requires-in-Greater g t c κs within =
    let is : c.args.self.now ≡ entries_in c.in_ok-node.node.now = c.in_ok-node.ensures in
    let short : length c.in_ok-node.node.now.right < length c.args.self.now = node.shorter_right c.in_ok-node.node.now c.args.self.now is in
    (omega (arith, c.decreases), (search rules, (search rules, node.sorted_right g.met.K.Ord.total c.in_ok-node.node.now c.args.self.now is c.requires)))

pub returns-in-Less : goal.returns-in-Less
returns-in-Less g t c = c.get.ensures ∙ sym (node.lookup_left g.met.K.Ord.total c.in_ok-node.node.now c.args.self.now c.in_ok-node.ensures c.requires c.args.key.now (sym c.in-Less.ensures))

pub returns-in-Equal : goal.returns-in-Equal
returns-in-Equal g t c = sym (node.lookup_here g.met.K.Ord.total c.in_ok-node.node.now c.args.self.now c.in_ok-node.ensures c.requires c.args.key.now (sym c.in-Equal.ensures))

pub returns-in-Greater : goal.returns-in-Greater
returns-in-Greater g t c = c.get-in-Greater.ensures ∙ sym (node.lookup_right g.met.K.Ord.total c.in_ok-node.node.now c.args.self.now c.in_ok-node.ensures c.requires c.args.key.now (sym c.in-Greater.ensures))
