-- Past the slots that were looked at, the name is the same.
use Rattle.std.proofs.Common.{◌≡◌, drop}
use Rattle.pool_master.specs.UserLog.{slot_name_at}
use Rattle.pool_master.proofs.user_log.slot_name_at.Given as goal

abbrev pub invariant-loop-slot : goal.invariant-loop-slot
invariant-loop-slot l = slot_name_at l.slots l.id ≡ slot_name_at (drop l.slot-index l.slots) l.id
