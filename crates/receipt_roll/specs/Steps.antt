-- What holds of a book of rolls, and what each of its steps tells.
use Rattle.std.specs.Prelude.{ℕ, ◌≡◌, ◌<◌, true, List, [], ◌∷◌, ◌++◌, length}
use mathlib.Core.List.{IsPrefix}
use Rattle.logbook.specs.Pages.{Cell, cell, Named, Step, View, nib, may_make}
use Rattle.receipt_roll.specs.declared.growth.Growth.{Growth}
use Rattle.receipt_roll.specs.declared.growth.Growth.TheVariants.{NewRight, NewItem}
use Rattle.receipt_roll.specs.Growth.{items_since, last_right, newest_right}

-- the cell is there, and no pen may write it
abbrev pub IsHome : List Cell → ℕ → Type 0
IsHome cells key = (key < length cells) × ((cell cells key).1 ≡ true)

-- each right that added an item is used up: no pen may write its cell any more
abbrev pub AreUsedUp : {T : Type 0} → List Cell → List (Growth T) → Type 0
AreUsedUp cells [] = Unit {0}
AreUsedUp cells (NewRight right ∷ log) = AreUsedUp cells log
AreUsedUp cells (NewItem item right next ∷ log) = IsHome cells right × AreUsedUp cells log

pub record IsBookOfRolls {T : Type 0} (cells : List Cell) (log : List (Growth T)) : Type 0 where
  -- the word at which the steps are taken is the first cell
  pub word : IsHome cells 0
  pub used_up : AreUsedUp cells log

-- the word is its book's first, at which the steps are taken
abbrev pub IsStepWord : Named → Type 0
IsStepWord word = (word.tracked ≡ true) × (word.key ≡ 0)

-- the roll has these items more after the second log than after the first, and this last right
abbrev pub GrowsBy :
    {T : Type 0} → ℕ → List (Growth T) → List (Growth T) → List T → ℕ → Type 0
GrowsBy first before after more right =
    (items_since first after ≡ items_since first before ++ more) × (last_right first after ≡ right)

-- P holds of the first right of each roll and of a beginning of the log that was seen, where that
-- beginning ends with this as the roll's last right
abbrev pub EachRollOf :
    {T : Type 0} → ℕ → List (Growth T) → (ℕ → List (Growth T) → Type 0) → Type 0
EachRollOf {T} right seen P =
    (first : ℕ) (log : List (Growth T)) → IsPrefix log seen
    → last_right first log ≡ right
    → P first log

-- the item that a step asks to be added
abbrev pub item_asked : {T : Type 0} → Growth T → List T
item_asked (NewRight right) = []
item_asked (NewItem item right next) = item ∷ []

-- a right was made, the newest one, and nothing was added with it
abbrev pub MakesRight :
    {T : Type 0} → Step (Growth T) → View (Growth T) ℕ → ℕ → View (Growth T) ℕ → Type 0
MakesRight step before found after =
    let right = newest_right 0 after.0 in
    (after.1.0 ≡ nib may_make right 0)
    × (items_since right after.0 ≡ [])
    × (last_right right after.0 ≡ right)

-- a roll whose last right this is did not grow since it was seen
abbrev pub SeesNoMore :
    {T : Type 0} → Step (Growth T) → View (Growth T) ℕ → ℕ → View (Growth T) ℕ → Type 0
SeesNoMore step before found after =
    let right = before.1.0.key in
    (after.1.0 ≡ before.1.0)
    × EachRollOf right before.0 (λ first log. GrowsBy first log after.0 [] right)

-- a roll whose last right this was has one item more, and the newest right is its last one
abbrev pub AddsItem :
    {T : Type 0} → Step (Growth T) → View (Growth T) ℕ → ℕ → View (Growth T) ℕ → Type 0
AddsItem step before found after =
    let next = newest_right 0 before.0 in
    EachRollOf before.1.0.key before.0
    (λ first log. GrowsBy first log after.0 (item_asked step.ask) next)
