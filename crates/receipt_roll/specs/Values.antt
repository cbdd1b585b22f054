-- Rolls and receipts as their callers see them.
use Rattle.std.specs.Prelude.{ℕ, List, length}
use Rattle.logbook.specs.Pages.{Book}
use Rattle.receipt_roll.specs.declared.growth.Growth.{Growth}
use Rattle.receipt_roll.specs.Growth.{items_since, newest_right}

-- which roll it is: its book, and the right with which its first item is added
pub record RollMark : Type 0 where
  pub book : Book
  pub first : ℕ

-- the list of a roll, or a beginning of it, and which roll it is
pub record MarkedList (T : Type 0) : Type 0 where
  pub list : List T
  pub mark : RollMark

-- what the log `seen` says of the roll whose first right was the newest one of the log `first`
abbrev pub marked_list : {T : Type 0} → Book → List (Growth T) → List (Growth T) → MarkedList T
marked_list book first seen =
    let right = newest_right 0 first in
    record { list = items_since right seen; mark = record { book = book; first = right } }

pub record RollValue (T : Type 0) : Type 0 where
  pub list : List T
  -- so many more items take no memory
  pub spare : ℕ
  pub mark : RollMark

pub record ReceiptValue (T : Type 0) : Type 0 where
  -- the item's place in the list, from 0
  pub number : ℕ
  pub item : T
  pub mark : RollMark

-- the receipt for an item that is put on this roll
abbrev pub next_receipt : {T : Type 0} → RollValue T → T → ReceiptValue T
next_receipt roll item = record { number = length roll.list; item = item; mark = roll.mark }
