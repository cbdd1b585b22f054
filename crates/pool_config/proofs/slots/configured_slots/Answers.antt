use Rattle.std.proofs.Common.{◌≤◌, All, length, map, subst, sym}
use Rattle.pool_config.specs.declared.config.TheConstants.{MAX_MACHINES, MAX_SLOTS}
use Rattle.pool_config.specs.Configuration.{machine_of, total_slots, HasRoom}
use Rattle.pool_config.proofs.slots.configured_slots.Goals as goal

pub slots_of-requires-clause-few : goal.slots_of-requires-clause-few
slots_of-requires-clause-few c = subst (λ ms. length (map machine_of ms) ≤ MAX_MACHINES) (sym c.as_slice.ensures) c.requires.machines

pub slots_of-requires-clause-slots : goal.slots_of-requires-clause-slots
slots_of-requires-clause-slots c = subst (λ ms. total_slots (map machine_of ms) ≤ MAX_SLOTS) (sym c.as_slice.ensures) c.requires.slots

pub slots_of-requires-clause-room : goal.slots_of-requires-clause-room
slots_of-requires-clause-room c = subst (λ ms. All HasRoom (map machine_of ms)) (sym c.as_slice.ensures) c.requires.room
