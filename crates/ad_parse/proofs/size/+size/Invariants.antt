-- What the operands or items so far add.
use Rattle.std.proofs.Common.{◌≡◌, ◌+◌, min, length, map, take}
use Rattle.ad_tree.specs.Tree.{tree, trees_of, rest, rests_of}
use Rattle.ad_parse.specs.Canon.{canon_rests, canon_items}
use Rattle.ad_parse.proofs.size.+size.Given as goal

abbrev pub invariant-add_items-loop-i : goal.invariant-add_items-loop-i
invariant-add_items-loop-i l = l.total ≡ min (l.size + length (canon_items (trees_of (map tree (take l.i l.list.items.items))))) 18446744073709551615

abbrev pub invariant-add_rests-loop-rest : goal.invariant-add_rests-loop-rest
invariant-add_rests-loop-rest l = l.total ≡ min (l.size + length (canon_rests (rests_of (map rest (take l.rest-index l.rest-items))))) 18446744073709551615
