-- What a slot keeps, what is seen of it, and each of its small changes.
use Rattle.std.specs.Prelude.{ℕ, ℤ, ◌==◌, Bool, true, false, ◌&&◌, ◌||◌, List, max, Option, Some, None, option_map, unwrap_or, nat_lt, nat_le, if◌then◌else◌}
use Rattle.claim_id.specs.declared.numbers.ClaimId.{ClaimId}
use Rattle.claim_id.specs.declared.numbers.ClaimNo.{ClaimNo}
use Rattle.claim_id.specs.declared.numbers.RunNo.{RunNo}
use Rattle.pool_mail.specs.declared.end.How.{How}
use Rattle.pool_view.specs.Numbers.{same_claim, same_run}
use Rattle.claim_id.specs.declared.pair.Cue.{Cue}
use Rattle.claim_id.specs.declared.pair.Pair.{Pair}
use Rattle.claim_id.specs.declared.pair.Pair.TheVariants.{OwnerIdle, UnclaimedIdle, MatchedIdle, ClaimedIdle, ClaimedBusy, ClaimedRetiring, PreemptingVacating, PreemptingKilling}
use Rattle.claim_id.specs.SlotTable.{next_of}
use Rattle.startd_slot.specs.declared.held.Held.{Held}
use Rattle.startd_slot.specs.declared.held.Mark.TheVariants as mark
use Rattle.startd_slot.specs.declared.held.Rival.{Rival}
use Rattle.startd_slot.specs.declared.held.Running.{Running}
use Rattle.startd_slot.specs.declared.slot.SlotState.{SlotState}

-- ---- what is seen
-- a claim with its secret
abbrev pub same_claim_id : ClaimId → ClaimId → Bool
same_claim_id a b = same_claim a.no b.no && (a.secret == b.secret)

abbrev pub is_claim : Option ClaimId → ClaimId → Bool
is_claim None claim = false
is_claim (Some offer) claim = same_claim_id offer claim

-- the claim, with its secret, is the one that the slot offers
abbrev pub offers_claim : SlotState → ClaimId → Bool
offers_claim s claim = is_claim s.offer claim

abbrev pub held_in : Option Held → ClaimNo → Option Held
held_in None claim = None
held_in (Some held) claim = if same_claim held.claim.no claim then Some held else None

-- what the slot holds, where that is the claim
abbrev pub held_of : SlotState → ClaimNo → Option Held
held_of s claim = held_in s.held claim

abbrev pub is_held_in : Option Held → ClaimNo → Bool
is_held_in None claim = false
is_held_in (Some held) claim = same_claim held.claim.no claim

abbrev pub holds_claim : SlotState → ClaimNo → Bool
holds_claim s claim = is_held_in s.held claim

abbrev pub is_rival_in : Option Rival → ClaimNo → Bool
is_rival_in None claim = false
is_rival_in (Some rival) claim = same_claim rival.claim.no claim

-- the claim waits for the slot
abbrev pub has_rival : SlotState → ClaimNo → Bool
has_rival s claim = is_rival_in s.rival claim

abbrev pub running_in : Option Held → Option Running
running_in None = None
running_in (Some held) = held.running

-- the run that is on the slot
abbrev pub running_of : SlotState → Option Running
running_of s = running_in s.held

abbrev pub is_run : Option Running → RunNo → Bool
is_run None run = false
is_run (Some running) run = same_run running.run run

-- the run is on the slot
abbrev pub runs_on : SlotState → RunNo → Bool
runs_on s run = is_run (running_of s) run

abbrev pub is_used_in : Option Held → RunNo → Bool
is_used_in None run = false
is_used_in (Some held) run = same_claim held.claim.no run.claim && nat_le run.number held.last

-- a run of the slot that can never start any more, in the machine's boot: its claim is of an
-- earlier boot, or has ended, or is held and has used or burned the run's number
abbrev pub is_spent : SlotState → ℕ → RunNo → Bool
is_spent s boot run = nat_lt run.claim.boot boot
    || ((run.claim.boot == boot) && nat_le run.claim.seq s.passed)
    || is_used_in s.held run

-- a claim is offered in such a pair; a slot with a rival is in none of them
abbrev pub is_open : Pair → Bool
is_open OwnerIdle = false
is_open UnclaimedIdle = true
is_open MatchedIdle = true
is_open ClaimedIdle = true
is_open ClaimedBusy = true
is_open ClaimedRetiring = false
is_open PreemptingVacating = false
is_open PreemptingKilling = false

-- ---- how a slot stands after a boot
abbrev pub slot_after_boot : ℕ → SlotState
slot_after_boot reading = record {
  pair = OwnerIdle;
  entered = reading;
  offer = None;
  issued = 0;
  passed = 0;
  held = None;
  rival = None;
  told = None;
}

-- ---- its pair
abbrev pub in_pair : Option Pair → ℕ → SlotState → SlotState
in_pair None reading s = s
in_pair (Some pair) reading s = record s { pair = pair; entered = reading }

-- a cue leads the slot to its next pair
abbrev pub after_cue : Cue → ℕ → SlotState → SlotState
after_cue cue reading s = in_pair (next_of s.pair cue) reading s

-- ---- its claim
-- a claim is held that has no run yet
abbrev pub with_claim : ClaimId → List ℕ → ℤ → ℕ → SlotState → SlotState
with_claim claim user rank reading s = record s {
  held = Some (record {
    claim = claim;
    user = user;
    rank = rank;
    last = 0;
    running = None;
    ended = None;
    heard = reading;
  });
}

abbrev pub passed_with : Option Held → ℕ → ℕ
passed_with None passed = passed
passed_with (Some held) passed = max passed held.claim.no.seq

-- the held claim ends
abbrev pub without_claim : SlotState → SlotState
without_claim s = record s { passed = passed_with s.held s.passed; held = None }

-- the held claim changes
abbrev pub with_held : (Held → Held) → SlotState → SlotState
with_held change s = record s { held = option_map change s.held }

abbrev pub heard_claim : ClaimNo → ℕ → Held → Held
heard_claim claim reading held =
    if same_claim held.claim.no claim then record held { heard = reading } else held

-- the claim was heard of, where it is the one that is held
abbrev pub heard_of : ClaimNo → ℕ → SlotState → SlotState
heard_of claim reading s = with_held (heard_claim claim reading) s

abbrev pub claim_with_number : ℕ → Held → Held
claim_with_number number held = record held { last = max held.last number }

-- the held claim has used or burned that number
abbrev pub with_number : ℕ → SlotState → SlotState
with_number number s = with_held (claim_with_number number) s

-- ---- its run
abbrev pub claim_with_run : Running → Held → Held
claim_with_run running held = record held { running = Some running }

abbrev pub with_run : Running → SlotState → SlotState
with_run running s = with_held (claim_with_run running) s

abbrev pub claim_after_run : RunNo → How → ℕ → Held → Held
claim_after_run run how reading held =
    record held { running = None; ended = Some (run, how); heard = reading }

-- the run has left the slot
abbrev pub without_run : RunNo → How → ℕ → SlotState → SlotState
without_run run how reading s = with_held (claim_after_run run how reading) s

abbrev pub claim_with_running : (Running → Running) → Held → Held
claim_with_running change held = record held { running = option_map change held.running }

-- the run changes
abbrev pub with_running : (Running → Running) → SlotState → SlotState
with_running change s = with_held (claim_with_running change) s

-- its lease goes on until then, unless that is past or sooner than its end
abbrev pub lengthened : ℕ → ℕ → Running → Running
lengthened until reading running = if nat_lt reading until
    then record running { until = max running.until until }
    else running

-- it is marked as stopped, unless it has a mark
abbrev pub stopped : Running → Running
stopped running = record running { mark = Some (unwrap_or running.mark mark.Stopped) }

abbrev pub evicted : Running → Running
evicted running = record running { mark = Some mark.Evicted }
