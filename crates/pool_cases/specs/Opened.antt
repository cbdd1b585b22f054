-- What is tested of a pool that is to open.
use Rattle.std.specs.Prelude.{◌≡◌, ℕ, ◌<◌, ◌≤◌, length, IsSomeAnd}
use Rattle.pool_parts.specs.declared.size.TheConstants.{MAX_BYTES}
use Rattle.pool_parts.specs.Sizes.{queue_count}
use Rattle.pool_state.specs.declared.opening.Opening.{Opening}
use Rattle.pool_state.specs.declared.opening.TheConstants.{LAST_POOL_BOOT, MAX_MACHINES, MAX_SLOTS}
use Rattle.pool_state.specs.Openings.{machines_of}
use Rattle.receipt_roll.specs.declared.roll.TheConstants.{MAX_ITEMS}

-- it is of so many machines, which are not too many, and of each there is a mark
abbrev pub HasMachineCount : Opening → ℕ → Type 0
HasMachineCount o machines = (0 < machines) × (machines ≤ MAX_MACHINES)
    × (length o.slots ≤ MAX_SLOTS) × (length o.end_marks.items ≡ machines)

-- its slots stand in order
abbrev pub HasMachines : Opening → Type 0
HasMachines o = IsSomeAnd (machines_of o.slots) (HasMachineCount o)

abbrev pub HasLittle : Opening → Type 0
HasLittle o = (o.next_tx ≤ MAX_ITEMS) × (queue_count o.queue ≤ MAX_BYTES)
    × (o.pool_boot ≤ LAST_POOL_BOOT)
