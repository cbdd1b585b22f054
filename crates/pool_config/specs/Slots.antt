-- The slots of a configuration and their ads (HTCondor manual, "Machine ClassAd Attributes").
use Rattle.std.specs.Prelude.{ℕ, zero, suc, ◌+◌, List, [], ◌∷◌, ◌++◌, codes, decimal, Option, Some, None}
use Rattle.ad_value.specs.declared.names.matching.TheConstants.{RANK, REQUIREMENTS}
use Rattle.ad_value.specs.declared.names.slot.TheConstants.{ARCH, CPUS, DISK, MACHINE, MEMORY, MY_TYPE, NAME, OP_SYS, SLOT_ID, START}
use Rattle.ad_rows.specs.Rows.{integer_literal, text_literal}
use Rattle.ad_tree.specs.declared.operator.Scope.TheVariants.{Bare}
use Rattle.ad_tree.specs.Ad.{Attributes, with_attribute}
use Rattle.ad_tree.specs.Tree.{Tree, reference}
use Rattle.claim_id.specs.declared.numbers.SlotId.{SlotId}
use Rattle.pool_config.specs.declared.slots.ConfiguredSlot.{ConfiguredSlot}
use Rattle.pool_config.specs.Configuration.{Configuration, ConfiguredMachine}

-- slotK@MACHINE
abbrev pub slot_name : List ℕ → ℕ → List ℕ
slot_name machine k = codes "slot" ++ decimal k ++ codes "@" ++ machine

-- what the pool gives the ad of a machine's slot numbered k
abbrev pub pool_attributes : ConfiguredMachine → ℕ → Attributes
pool_attributes m k =
    (MY_TYPE.now, text_literal (codes "Machine"))
    ∷ (NAME.now, text_literal (slot_name m.name k))
    ∷ (MACHINE.now, text_literal m.name)
    ∷ (SLOT_ID.now, integer_literal k)
    ∷ (OP_SYS.now, text_literal (codes "LINUX"))
    ∷ (ARCH.now, text_literal (codes "X86_64"))
    ∷ (CPUS.now, integer_literal m.cpus)
    ∷ (MEMORY.now, integer_literal m.memory)
    ∷ (DISK.now, integer_literal m.disk)
    ∷ (START.now, m.start)
    ∷ (REQUIREMENTS.now, reference Bare START.now)
    ∷ (RANK.now, m.rank)
    ∷ []

abbrev pub and_attribute : Option (List ℕ × Tree) → Attributes → Attributes
and_attribute None ad = ad
and_attribute (Some a) ad = with_attribute a.0 a.1 ad

-- attributes set in an ad, one after the other
abbrev pub with_attributes : Attributes → Attributes → Attributes
with_attributes [] ad = ad
with_attributes (a ∷ rest) ad = with_attributes rest (with_attribute a.0 a.1 ad)

-- those of the pool, and then the machine's own
abbrev pub slot_ad : ConfiguredMachine → ℕ → Attributes
slot_ad m k = with_attributes m.attrs (pool_attributes m k)

abbrev pub configured_slot : ConfiguredMachine → SlotId → ConfiguredSlot
configured_slot m id = record { slot = id; name = slot_name m.name id.slot; ad = slot_ad m id.slot }

-- the first slots of a machine at a place, from 1
unfoldable pub slots_upto : ℕ → ConfiguredMachine → ℕ → List ConfiguredSlot
slots_upto place m zero = []
slots_upto place m (suc n) =
    slots_upto place m n
    ++ configured_slot m (record { machine = place; slot = n + 1 }) ∷ []

-- the slots of machines, the first of which is at a place
unfoldable pub slots_from : ℕ → List ConfiguredMachine → List ConfiguredSlot
slots_from place [] = []
slots_from place (m ∷ ms) = slots_upto place m m.slots ++ slots_from (place + 1) ms

abbrev pub configured_slots : Configuration → List ConfiguredSlot
configured_slots c = slots_from 0 c.machines
