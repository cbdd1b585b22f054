use Rattle.std.proofs.Common.{◌≤◌, ◌<◌, ◌+◌, ap, length, map, subst, sym, rules}
use Rattle.pool_config.specs.declared.config.TheConstants.{MAX_SLOTS}
use Rattle.pool_config.specs.Configuration.{machine_of, HasRoom}
use Rattle.pool_config.specs.Slots.{slots_from}
use Rattle.pool_config.proofs.Limits.{room_at, slots_at}
use Rattle.pool_config.proofs.Machines.{next_is_small}
use Rattle.pool_config.proofs.SlotLemmas.{slots_more, slots_end}
use Rattle.pool_config.proofs.slots.slots_of.Goals as goal

pub add_slots-requires-clause-room : goal.add_slots-requires-clause-room
add_slots-requires-clause-room c =
    let inside : c.loop-machine.machine-index < length c.args.machines.now = search rules in
    subst (λ m. HasRoom (machine_of m)) (sym c.machine-item.is) (room_at c.args.machines.now c.loop-machine.machine-index c.machine-item.result c.requires.room inside)

pub add_slots-requires-clause-few : goal.add_slots-requires-clause-few
add_slots-requires-clause-few c =
    let inside : c.loop-machine.machine-index < length c.args.machines.now = search rules in
    subst (λ m. m.slots ≤ MAX_SLOTS) (sym c.machine-item.is) (slots_at c.args.machines.now c.loop-machine.machine-index c.machine-item.result c.requires.slots inside)

pub loop-machine-preserved : goal.loop-machine-preserved
loop-machine-preserved c =
    let inside : c.loop-machine.machine-index < length c.args.machines.now = search rules in
    record {
      slots = slots_more c.args.machines.now c.loop-machine.machine-index c.machine-item.result c.loop-machine.slots c.add_slots.new.slots (slots_from 0 (map machine_of c.args.machines.now)) c.loop-machine.place inside c.machine-item.is c.loop-machine.invariant.place c.in_ok-add_slots.ensures c.loop-machine.invariant.slots;
      place = ap (λ n. n + 1) c.loop-machine.invariant.place;
    }

pub returns : goal.returns
returns c =
    let end : length c.args.machines.now ≤ c.loop-machine.machine-index = search rules in
    slots_end c.args.machines.now c.loop-machine.machine-index c.loop-machine.slots (slots_from 0 (map machine_of c.args.machines.now)) end c.loop-machine.invariant.slots

pub overflow_add-place : goal.overflow_add-place
overflow_add-place c = record { fits = next_is_small c.args.machines.now c.loop-machine.machine-index c.loop-machine.place c.requires.few c.loop-machine-test.true c.loop-machine.invariant.place }
