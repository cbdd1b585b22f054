-- What a log says of rolls. One log may tell of several; a roll is known by its first right.
use Rattle.std.specs.Prelude.{ℕ, ◌==◌, List, [], ◌∷◌, if◌then◌else◌}
use Rattle.receipt_roll.specs.declared.growth.Growth.{Growth}
use Rattle.receipt_roll.specs.declared.growth.Growth.TheVariants.{NewRight, NewItem}

-- the items that were added with this right, and with the rights that followed on it
abbrev pub items_since : {T : Type 0} → ℕ → List (Growth T) → List T
items_since right [] = []
items_since right (NewRight made ∷ log) = items_since right log
items_since right (NewItem item used next ∷ log) =
    if used == right then item ∷ items_since next log else items_since right log

-- the right that followed last on this one, and is not used up
abbrev pub last_right : {T : Type 0} → ℕ → List (Growth T) → ℕ
last_right right [] = right
last_right right (NewRight made ∷ log) = last_right right log
last_right right (NewItem item used next ∷ log) =
    if used == right then last_right next log else last_right right log

-- the right that was made last, or this one where none was
abbrev pub newest_right : {T : Type 0} → ℕ → List (Growth T) → ℕ
newest_right right [] = right
newest_right right (NewRight made ∷ log) = newest_right made log
newest_right right (NewItem item used next ∷ log) = newest_right right log
