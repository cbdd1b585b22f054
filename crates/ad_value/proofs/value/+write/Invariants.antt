-- What the items so far are written as.
use Rattle.std.proofs.Common.{◌≡◌, ◌++◌, string_bytes, map, take}
use Rattle.ad_value.specs.Content.{content, contents_of}
use Rattle.ad_value.specs.Literal.{items_text}
use Rattle.ad_value.proofs.value.+write.Given as goal

abbrev pub invariant-ValueList::write-loop-i : goal.invariant-ValueList::write-loop-i
invariant-ValueList::write-loop-i l =
    string_bytes l.text ≡ string_bytes l.initial.text ++ items_text (contents_of (map content (take l.i l.self.items.items)))
