-- What is read of the slots of a pool.
use Rattle.std.specs.Prelude.{ℕ, ◌-◌, ◌==◌, List, [], ◌∷◌, ◌++◌, Bool, false, ◌||◌, is_some, map, slice_get, Option, Some, None, if◌then◌else◌}
use Rattle.std.specs.List.{list_any}
use Rattle.ad_tree.specs.Ad.{Attributes}
use Rattle.claim_id.specs.declared.numbers.RunNo.{RunNo}
use Rattle.claim_id.specs.declared.numbers.SlotId.{SlotId}
use Rattle.pool_mail.specs.declared.end.Ending.{Ending}
use Rattle.pool_mail.specs.declared.slot_ad.SlotAd.{SlotAd}
use Rattle.pool_view.specs.Numbers.{same_run}
use Rattle.receipt_roll.specs.Values.{ReceiptValue}
use Rattle.startd_core.specs.Offers.{rank_in, user_in}
use Rattle.startd_core.specs.Startds.{StartdValue}
use Rattle.startd_slot.specs.declared.held.Running.{Running}
use Rattle.startd_slot.specs.declared.slot.Slot.{Slot}
use Rattle.startd_slot.specs.SlotStates.{running_of, runs_on}

-- all slots, in order
abbrev pub all_slots : List StartdValue → List Slot
all_slots [] = []
all_slots (v ∷ vs) = v.slots ++ all_slots vs

-- ---- a slot

-- counted from 1
abbrev pub slot_numbered : ℕ → List Slot → Option Slot
slot_numbered number slots = if number == 0 then None else slice_get slots (number - 1)

abbrev pub slot_of_machine : ℕ → Option StartdValue → Option Slot
slot_of_machine number None = None
slot_of_machine number (Some v) = slot_numbered number v.slots

-- the slot of that number
abbrev pub slot_at : SlotId → List StartdValue → Option Slot
slot_at id vs = slot_of_machine id.slot (slice_get vs id.machine)

-- ---- runs

abbrev pub has_run_of : RunNo → List Slot → Bool
has_run_of run slots = list_any (λ s. runs_on s.state run) slots

abbrev pub has_run_at : RunNo → Option StartdValue → Bool
has_run_at run None = false
has_run_at run (Some v) = has_run_of run v.slots

-- a slot of the machine has the run
abbrev pub has_run : ℕ → RunNo → List StartdValue → Bool
has_run machine run vs = has_run_at run (slice_get vs machine)

abbrev pub is_end_of : RunNo → ReceiptValue Ending → Bool
is_end_of run r = same_run r.item.run run

abbrev pub has_end : RunNo → List (ReceiptValue Ending) → Bool
has_end run ended = list_any (is_end_of run) ended

abbrev pub left_of : List (ReceiptValue Ending) → Option Running → Option RunNo
left_of ended None = None
left_of ended (Some r) = if has_end r.run ended then None else Some r.run

-- the slot's run, where no receipt is of its end
abbrev pub left_run : List (ReceiptValue Ending) → Slot → Option RunNo
left_run ended s = left_of ended (running_of s.state)

abbrev pub run_or : Option RunNo → Option RunNo → Option RunNo
run_or None other = other
run_or (Some run) other = Some run

abbrev pub first_left_of : List (ReceiptValue Ending) → List Slot → Option RunNo
first_left_of ended [] = None
first_left_of ended (s ∷ ss) = run_or (left_run ended s) (first_left_of ended ss)

abbrev pub first_left_at : List (ReceiptValue Ending) → Option StartdValue → Option RunNo
first_left_at ended None = None
first_left_at ended (Some v) = first_left_of ended v.slots

-- the first run of the machine of whose end no receipt is
abbrev pub first_left : ℕ → List (ReceiptValue Ending) → List StartdValue → Option RunNo
first_left machine ended vs = first_left_at ended (slice_get vs machine)

-- ---- claims

abbrev pub is_claimed : Slot → Bool
is_claimed s = is_some s.state.held || is_some s.state.rival

abbrev pub first_claimed_of : List Slot → Option SlotId
first_claimed_of [] = None
first_claimed_of (s ∷ ss) = if is_claimed s then Some s.id else first_claimed_of ss

abbrev pub slot_or : Option SlotId → Option SlotId → Option SlotId
slot_or None other = other
slot_or (Some slot) other = Some slot

-- the first slot that has a claim, or for which one waits
abbrev pub first_claimed : List StartdValue → Option SlotId
first_claimed [] = None
first_claimed (v ∷ vs) = slot_or (first_claimed_of v.slots) (first_claimed vs)

-- ---- ads

abbrev pub ads_of : List Slot → List Attributes
ads_of slots = map (λ s. s.ad) slots

-- the ads of all slots, in order
abbrev pub slot_ads : List StartdValue → List Attributes
slot_ads [] = []
slot_ads (v ∷ vs) = ads_of v.slots ++ slot_ads vs

-- how a slot stands, told at a reading
abbrev pub told_at : ℕ → Slot → SlotAd
told_at at s = record {
  slot = s.id;
  name = s.name;
  claim = s.state.offer;
  pair = s.state.pair;
  user = user_in s.state.held;
  rank = rank_in s.state.held;
  at = at;
  ad = s.ad;
}
