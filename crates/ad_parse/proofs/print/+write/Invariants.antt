-- What the operands or items so far are written as.
use Rattle.std.proofs.Common.{◌≡◌, ◌++◌, string_bytes, map, take}
use Rattle.ad_tree.specs.Tree.{tree, trees_of, rest, rests_of}
use Rattle.ad_parse.specs.Canon.{canon_rests, canon_items}
use Rattle.ad_parse.proofs.print.+write.Given as goal

abbrev pub invariant-write_items-loop-i : goal.invariant-write_items-loop-i
invariant-write_items-loop-i l =
    string_bytes l.text ≡ string_bytes l.initial.text ++ canon_items (trees_of (map tree (take l.i l.list.items.items)))

abbrev pub invariant-write_rests-loop-rest : goal.invariant-write_rests-loop-rest
invariant-write_rests-loop-rest l =
    string_bytes l.text ≡ string_bytes l.initial.text ++ canon_rests (rests_of (map rest (take l.rest-index l.rest-items)))
