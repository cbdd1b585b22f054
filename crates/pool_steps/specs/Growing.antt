-- Room at the end of a list.
use Rattle.std.specs.Prelude.{◌+◌, ◌<◌, ◌^◌, List}
use Rattle.std.specs.LinkedList.{linked_list_len}

-- the items can come to the end of the list
abbrev pub HasPlaces : {T : Type 0} → List T → List T → Type 0
HasPlaces list more = linked_list_len list + linked_list_len more < 2 ^ 63
