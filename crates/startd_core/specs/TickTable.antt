-- What comes with time.
use Rattle.std.specs.Prelude.{ℕ, pos, Bool, true, false, not, ◌+◌, List, [], ◌∷◌, Option, Some, None, nat_le, if◌then◌else◌}
use Rattle.std.specs.Ordering.{int_eq}
use Rattle.ad_value.specs.Content.{Content, truth, integer}
use Rattle.ad_value.specs.declared.names.slot.TheConstants.{START}
use Rattle.ad_tree.specs.Ad.{Attributes}
use Rattle.ad_eval.specs.Mean.{attribute_value}
use Rattle.claim_id.specs.declared.numbers.RunNo.{RunNo}
use Rattle.pool_mail.specs.declared.settings.Settings.{Settings}
use Rattle.claim_id.specs.declared.pair.Cue.TheVariants as cue
use Rattle.claim_id.specs.declared.pair.Pair.{Pair}
use Rattle.claim_id.specs.declared.pair.Pair.TheVariants.{OwnerIdle, UnclaimedIdle, MatchedIdle, ClaimedIdle, ClaimedBusy, ClaimedRetiring, PreemptingVacating, PreemptingKilling}
use Rattle.startd_slot.specs.declared.held.Held.{Held}
use Rattle.startd_slot.specs.declared.held.Running.{Running}
use Rattle.startd_slot.specs.declared.slot.Slot.{Slot}
use Rattle.startd_slot.specs.declared.slot.SlotState.{SlotState}
use Rattle.startd_core.specs.declared.tick.TickRow.{TickRow}
use Rattle.startd_core.specs.declared.tick.TickRow.TheVariants as row
use Rattle.startd_slot.specs.SlotStates.{running_of, after_cue, without_claim, with_running, evicted}

-- at or past so many seconds after a reading
abbrev pub is_after : ℕ → ℕ → ℕ → Bool
is_after since seconds reading = nat_le (since + seconds) reading

-- Start lets jobs in: it isn't FALSE or 0
abbrev pub lets_in : Content → Bool
lets_in (truth b) = b
lets_in (integer n) = not (int_eq n (pos 0))
lets_in _ = true

-- by the slot's own ad alone
abbrev pub is_start_on : Attributes → ℕ → Bool
is_start_on ad reading = lets_in (attribute_value ad [] reading START.now)

abbrev pub is_unheard : Option Held → ℕ → ℕ → Bool
is_unheard None seconds reading = false
is_unheard (Some held) seconds reading = is_after held.heard seconds reading

abbrev pub is_run_past : Option Running → ℕ → Bool
is_run_past None reading = false
is_run_past (Some running) reading = nat_le running.until reading

-- the lease of the run on the slot is past
abbrev pub is_lease_past : SlotState → ℕ → Bool
is_lease_past s reading = is_run_past (running_of s) reading

-- a tick looks at Start in the pairs in which nobody has claimed the slot
abbrev pub looks_at_start : Pair → Bool
looks_at_start OwnerIdle = true
looks_at_start UnclaimedIdle = true
looks_at_start MatchedIdle = true
looks_at_start ClaimedIdle = false
looks_at_start ClaimedBusy = false
looks_at_start ClaimedRetiring = false
looks_at_start PreemptingVacating = false
looks_at_start PreemptingKilling = false

-- ---- the cue that time brings to a slot, by its pair; `start` says whether Start lets jobs in
abbrev pub row_in : Pair → SlotState → Settings → Bool → ℕ → TickRow
row_in OwnerIdle s set start reading = if start then row.StartOn else row.Nothing
row_in UnclaimedIdle s set start reading = if not start then row.StartOff else row.Nothing
row_in MatchedIdle s set start reading = if not start then row.StartOff
    else (if is_after s.entered set.match_timeout reading then row.Lapse else row.Nothing)
row_in ClaimedIdle s set start reading =
    if is_unheard s.held set.claim_lease reading then row.Finish else row.Nothing
row_in ClaimedBusy s set start reading =
    if is_lease_past s reading then row.KillPast else row.Nothing
row_in ClaimedRetiring s set start reading = if is_lease_past s reading then row.KillPast
    else (if is_after s.entered set.retirement reading then row.Vacate else row.Nothing)
row_in PreemptingVacating s set start reading = if is_lease_past s reading then row.KillPast
    else (if is_after s.entered set.vacate reading then row.KillVacating else row.Nothing)
row_in PreemptingKilling s set start reading = row.Nothing

abbrev pub tick_row : SlotState → Settings → Bool → ℕ → TickRow
tick_row s set start reading = row_in s.pair s set start reading

-- ---- what it does
-- the run is marked as evicted, and is to be killed
abbrev pub after_kill : ℕ → SlotState → SlotState
after_kill reading s = after_cue cue.Kill reading (with_running evicted s)

abbrev pub after_tick_row : TickRow → ℕ → SlotState → SlotState
after_tick_row row.StartOn reading s = after_cue cue.StartOn reading s
after_tick_row row.StartOff reading s = after_cue cue.StartOff reading s
after_tick_row row.Lapse reading s = after_cue cue.Lapse reading s
after_tick_row row.Finish reading s = after_cue cue.Finish reading (without_claim s)
after_tick_row row.KillPast reading s = after_kill reading s
after_tick_row row.Vacate reading s = after_cue cue.Vacate reading s
after_tick_row row.KillVacating reading s = after_kill reading s
after_tick_row row.Nothing reading s = s

abbrev pub is_kill : TickRow → Bool
is_kill row.KillPast = true
is_kill row.KillVacating = true
is_kill row.StartOn = false
is_kill row.StartOff = false
is_kill row.Lapse = false
is_kill row.Finish = false
is_kill row.Vacate = false
is_kill row.Nothing = false

-- a row that does something
abbrev pub is_act : TickRow → Bool
is_act row.StartOn = true
is_act row.StartOff = true
is_act row.Lapse = true
is_act row.Finish = true
is_act row.KillPast = true
is_act row.Vacate = true
is_act row.KillVacating = true
is_act row.Nothing = false

abbrev pub run_in : Option Running → List RunNo
run_in None = []
run_in (Some running) = running.run ∷ []

-- the runs that a row kills on a slot
abbrev pub killed_by : TickRow → SlotState → List RunNo
killed_by r s = if is_kill r then run_in (running_of s) else []

-- ---- an Update for itself
abbrev pub is_told_long_ago : Option ℕ → ℕ → ℕ → Bool
is_told_long_ago None seconds reading = false
is_told_long_ago (Some told) seconds reading = is_after told seconds reading

abbrev pub is_update_due : SlotState → Settings → ℕ → Bool
is_update_due s set reading = is_told_long_ago s.told set.update_interval reading

-- the row that fits a slot
abbrev pub slot_row : Slot → Settings → ℕ → TickRow
slot_row slot set reading =
    tick_row slot.state set (is_start_on slot.ad reading) reading
