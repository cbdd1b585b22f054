-- What always holds of a roll's parts.
use Rattle.std.specs.Prelude.{◌≡◌, ◌+◌, ◌≤◌, vec_len, vec_capacity}
use Rattle.receipt_roll.specs.declared.roll.Roll.TheInside.{Inside}
use Rattle.receipt_roll.specs.declared.roll.TheConstants.{MAX_ITEMS}

pub record IsRoll {T : Type 0} (roll : Inside T) : Type 0 where
  -- the scribe's list is the roll's
  pub listed : roll.items.items ≡ roll.scribe.list
  -- the spare items take no memory, and don't pass the limit
  pub room : vec_len roll.items + roll.spare ≤ vec_capacity roll.items
  pub within : vec_len roll.items + roll.spare ≤ MAX_ITEMS
