-- What always holds of a receipt's parts.
use Rattle.std.specs.Prelude.{◌≡◌, ◌<◌, Some, slice_get}
use Rattle.receipt_roll.specs.declared.receipt.Receipt.TheInside.{Inside}
use Rattle.receipt_roll.specs.declared.roll.TheConstants.{MAX_ITEMS}

-- its witness has seen the item at its number
pub record IsWitnessed {T : Type 0} (receipt : Inside T) : Type 0 where
  pub stands : slice_get receipt.witness.list receipt.number ≡ Some receipt.item
  pub within : receipt.number < MAX_ITEMS
