use Rattle.std.proofs.Common.{rules, ◌≡◌, ◌<◌, length, arith, sym, ◌∙◌}
use Rattle.ordered_map.specs.Trees.{entries_in}
use Rattle.ordered_map.proofs.Nodes as node
use Rattle.ordered_map.proofs.tree.Tree.+first_past.Goals as goal

pub first_past-requires : goal.first_past-requires
first_past-requires g t c κs within =
    let is : c.args.self.now ≡ entries_in c.in_ok-node.node.now = c.in_ok-node.ensures in
    let short : length c.in_ok-node.node.now.right < length c.args.self.now = node.shorter_right c.in_ok-node.node.now c.args.self.now is in
    (omega (arith, c.decreases), (search rules, (search rules, node.sorted_right g.met.K.Ord.total c.in_ok-node.node.now c.args.self.now is c.requires)))

pub first_past-requires-2 : goal.first_past-requires-2
first_past-requires-2 g t c κs within =
    let is : c.args.self.now ≡ entries_in c.in_ok-node.node.now = c.in_ok-node.ensures in
    let short : length c.in_ok-node.node.now.left < length c.args.self.now = node.shorter_left c.in_ok-node.node.now c.args.self.now is in
    (omega (arith, c.decreases), (search rules, (search rules, node.sorted_left g.met.K.Ord.total c.in_ok-node.node.now c.args.self.now is c.requires)))

pub returns-then-not-is_past : goal.returns-then-not-is_past
returns-then-not-is_past g t c =
    c.first_past.ensures ∙ sym (node.first_right g.met.K.Ord.total c.in_ok-node.node.now c.args.self.now c.in_ok-node.ensures c.requires c.args.start.now (sym c.is_past.ensures ∙ c.if-not-is_past.true))

pub returns : goal.returns
returns g t c =
    rw (c.or.ensures, node.map_or, c.first_past-2.ensures) (sym (node.first_or_here g.met.K.Ord.total c.in_ok-node.node.now c.args.self.now c.in_ok-node.ensures c.requires c.args.start.now (sym c.is_past.ensures ∙ c.if-not-is_past.false)))
