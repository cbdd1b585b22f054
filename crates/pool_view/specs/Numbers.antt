-- When two numbers of jobs, slots, claims or runs are one.
use Rattle.std.specs.Prelude.{Bool, ◌&&◌, ◌==◌}
use Rattle.claim_id.specs.declared.numbers.ClaimNo.{ClaimNo}
use Rattle.claim_id.specs.declared.numbers.JobId.{JobId}
use Rattle.claim_id.specs.declared.numbers.RunNo.{RunNo}
use Rattle.claim_id.specs.declared.numbers.SlotId.{SlotId}

abbrev pub same_job : JobId → JobId → Bool
same_job a b = (a.cluster == b.cluster) && (a.proc == b.proc)

abbrev pub same_slot : SlotId → SlotId → Bool
same_slot a b = (a.machine == b.machine) && (a.slot == b.slot)

abbrev pub same_claim : ClaimNo → ClaimNo → Bool
same_claim a b = same_slot a.slot b.slot && ((a.boot == b.boot) && (a.seq == b.seq))

abbrev pub same_run : RunNo → RunNo → Bool
same_run a b = same_claim a.claim b.claim && (a.number == b.number)
