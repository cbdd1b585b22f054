-- What the items so far add.
use Rattle.std.proofs.Common.{◌≡◌, ◌+◌, min, length, map, take}
use Rattle.ad_value.specs.Content.{content, contents_of}
use Rattle.ad_value.specs.Literal.{items_text}
use Rattle.ad_parse.proofs.size.+literal_size.Given as goal

abbrev pub invariant-add_literals-loop-i : goal.invariant-add_literals-loop-i
invariant-add_literals-loop-i l = l.total ≡ min (l.size + length (items_text (contents_of (map content (take l.i l.list.items.items))))) 18446744073709551615
