-- A slot as a part of a protocol: what a slot keeps is what the protocol has of it. So a startd
-- needs no pool, no other slot and no other machine.
use Rattle.std.specs.Prelude.{◌≡◌, ℕ, Bool, false, List, [], ◌∷◌, max, Option, Some, None, option_map, if◌then◌else◌}
use Rattle.std.specs.List.{filter_map}
use Rattle.ad_tree.specs.Ad.{Attributes}
use Rattle.claim_id.specs.declared.numbers.SlotId.{SlotId}
use Rattle.pool_view.specs.declared.mark.SlotMark.{SlotMark}
use Rattle.pool_view.specs.declared.run.Run.{Run}
use Rattle.pool_view.specs.AbstractPool.{AbstractPool, IsIn, SameMembers}
use Rattle.pool_view.specs.Numbers.{same_slot}
use Rattle.pool_view.specs.Protocol.{Protocol, mark_with_claim, mark_with_number, mark_after_claim, mark_after_boot}
use Rattle.pool_view.specs.ProtocolMove.{ProtocolMove, PassTime, Pend, Commit, Drop, Confirm, TakeOrder, SendLease, HoldClaim, UseNumber, EndClaim, Reboot, StartRun, ExtendRun, StopRun, SayGone}

pub record SlotPart : Type 0 where
  pub slot : SlotId
  pub ad : Attributes
  pub mark : SlotMark
  pub run : Option Run

-- the protocol has the slot's mark and its ad, and of runs in that slot only its own
pub record IsPart (p : Protocol) (s : SlotPart) : Type 0 where
  pub mark : p.pool.marks s.slot ≡ Some s.mark
  pub ad : p.pool.slots s.slot ≡ Some s.ad
  pub runs : (r : Run) → IsIn r p.pool.runs → r.slot ≡ s.slot → s.run ≡ Some r
  pub own : (r : Run) → s.run ≡ Some r → IsIn r p.pool.runs
  pub placed : (r : Run) → s.run ≡ Some r → r.slot ≡ s.slot

-- ---- a move
-- it is of that slot
abbrev pub is_of_slot : SlotId → ProtocolMove → Bool
is_of_slot slot (HoldClaim claim) = same_slot slot claim.slot
is_of_slot slot (UseNumber run) = same_slot slot run.claim.slot
is_of_slot slot (EndClaim claim) = same_slot slot claim.slot
is_of_slot slot (Reboot other boot) = same_slot slot other
is_of_slot slot (StartRun r) = same_slot slot r.slot
is_of_slot slot (ExtendRun r until) = same_slot slot r.slot
is_of_slot slot (StopRun r how) = same_slot slot r.slot
is_of_slot slot (PassTime moment) = false
is_of_slot slot (Pend change) = false
is_of_slot slot Commit = false
is_of_slot slot Drop = false
is_of_slot slot (Confirm job) = false
is_of_slot slot (TakeOrder job) = false
is_of_slot slot (SendLease l) = false
is_of_slot slot (SayGone run) = false

-- the run, with an end of its lease that is at least that
abbrev pub extended_run : Run → ℕ → Run
extended_run r until = record r { until = max r.until until }

-- what a move of its own changes of a slot
abbrev pub own_part_after : SlotPart → ProtocolMove → SlotPart
own_part_after s (HoldClaim claim) = record s { mark = mark_with_claim claim s.mark }
own_part_after s (UseNumber run) = record s { mark = mark_with_number run.number s.mark }
own_part_after s (EndClaim claim) = record s { mark = mark_after_claim claim s.mark }
own_part_after s (Reboot slot boot) = record s { mark = mark_after_boot boot s.mark }
own_part_after s (StartRun r) =
    record s { mark = mark_with_number r.run.number s.mark; run = Some r }
own_part_after s (ExtendRun r until) = record s { run = Some (extended_run r until) }
own_part_after s (StopRun r how) = record s { run = None }
own_part_after s (PassTime moment) = s
own_part_after s (Pend change) = s
own_part_after s Commit = s
own_part_after s Drop = s
own_part_after s (Confirm job) = s
own_part_after s (TakeOrder job) = s
own_part_after s (SendLease l) = s
own_part_after s (SayGone run) = s

-- a move elsewhere changes nothing
abbrev pub part_after : ProtocolMove → SlotPart → SlotPart
part_after m s = if is_of_slot s.slot m then own_part_after s m else s

abbrev pub part_after_all : List ProtocolMove → SlotPart → SlotPart
part_after_all [] s = s
part_after_all (m ∷ ms) s = part_after_all ms (part_after m s)

-- ---- all slots
-- the first part of that slot
abbrev pub part_at : SlotId → List SlotPart → Option SlotPart
part_at slot [] = None
part_at slot (s ∷ ss) = if same_slot slot s.slot then Some s else part_at slot ss

-- the slots are parts of the protocol, and it has no other run, mark or ad of a slot
pub record HasParts (p : Protocol) (parts : List SlotPart) : Type 0 where
  pub each : (s : SlotPart) → IsIn s parts → IsPart p s
  pub covered : (r : Run) → IsIn r p.pool.runs
      → (s : SlotPart) × IsIn s parts × (s.slot ≡ r.slot)
  pub others : (slot : SlotId) → part_at slot parts ≡ None
      → (p.pool.marks slot ≡ None) × (p.pool.slots slot ≡ None)

-- the abstract pool has the runs, the marks and the ads of these slots
pub record ShowsParts (v : AbstractPool) (parts : List SlotPart) : Type 0 where
  pub runs : SameMembers v.runs (filter_map (λ s. s.run) parts)
  pub marks : (slot : SlotId) → v.marks slot ≡ option_map (λ s. s.mark) (part_at slot parts)
  pub slots : (slot : SlotId) → v.slots slot ≡ option_map (λ s. s.ad) (part_at slot parts)

-- no two parts are of one slot
abbrev pub AreDistinct : List SlotPart → Type 0
AreDistinct parts = (s t : SlotPart) → IsIn s parts → IsIn t parts → s.slot ≡ t.slot → s ≡ t

-- the run of each part is in its slot
abbrev pub ArePlaced : List SlotPart → Type 0
ArePlaced parts = (s : SlotPart) → IsIn s parts → (r : Run) → s.run ≡ Some r → r.slot ≡ s.slot
