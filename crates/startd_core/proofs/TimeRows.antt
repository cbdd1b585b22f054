-- What a tick and a boot are to a slot: cues that the table of slot states knows, and moves of the protocol.
use Rattle.std.proofs.Common.{◌≡◌, inl, inr, ℕ, ◌<◌, [], ◌∷◌, Option, Some, None, option_map, refl, sym, ◌∙◌, ap}
use Rattle.ad_tree.specs.Ad.{Attributes}
use Rattle.claim_id.specs.declared.numbers.SlotId.{SlotId}
use Rattle.pool_mail.specs.declared.settings.Settings.{Settings}
use Rattle.pool_view.specs.Protocol.{Protocol}
use Rattle.pool_view.specs.ProtocolMove.{MayAll, Reboot, StopRun}
use Rattle.pool_view.specs.SlotPart.{IsPart, SlotPart, own_part_after, part_after, part_after_all}
use Rattle.pool_view.specs.Safe.{Safe}
use Rattle.pool_view.proofs.Sameness.{same_slot-same}
use Rattle.claim_id.specs.declared.pair.Cue.{Cue}
use Rattle.claim_id.specs.declared.pair.Cue.TheVariants as cue
use Rattle.claim_id.specs.declared.pair.Pair.{Pair}
use Rattle.claim_id.specs.declared.pair.Pair.TheVariants.{OwnerIdle, UnclaimedIdle, MatchedIdle, ClaimedIdle, ClaimedBusy, ClaimedRetiring, PreemptingVacating, PreemptingKilling}
use Rattle.claim_id.specs.SlotTable.{next_of}
use Rattle.claim_id.specs.States.{has_claim, has_run}
use Rattle.startd_slot.specs.declared.held.Running.{Running}
use Rattle.startd_slot.specs.declared.slot.Slot.{Slot}
use Rattle.startd_slot.specs.declared.slot.SlotState.{SlotState}
use Rattle.startd_slot.specs.Consistent.{IsConsistent}
use Rattle.startd_slot.specs.Cues.{LeadsTo}
use Rattle.startd_slot.specs.SlotMoves.{part_of, part_of_state, run_in_slot, run_stops, moves_of_boot}
use Rattle.startd_slot.specs.SlotStates.{in_pair, after_cue, evicted, running_of, slot_after_boot, with_running, without_claim}
use Rattle.startd_slot.proofs.MayRows.{finish_may, boot_may}
use Rattle.startd_slot.proofs.MoveRows.{part_moved, part_marked, own_is, none_running, finish_changes}
use Rattle.startd_core.specs.declared.tick.TickRow.{TickRow}
use Rattle.startd_core.specs.declared.tick.TickRow.TheVariants as row
use Rattle.startd_core.specs.TickTable.{after_tick_row, is_start_on, slot_row}
use Rattle.startd_core.specs.TimeMoves.{cue_of_tick, moves_of_tick}
use Rattle.startd_core.proofs.Settling.{TickKnown, row_known}

-- ---- cues
leads : (by : Cue) (s : SlotState) (p to : Pair) (reading : ℕ) → s.pair ≡ p → next_of p by ≡ Some to → next_of s.pair by ≡ Some (in_pair (next_of s.pair by) reading s).pair
leads by s p to reading at is =
    let known : next_of s.pair by ≡ Some to = ap (λ q. next_of q by) at ∙ is in
    known ∙ ap (λ (q : Pair). Some q) (sym (ap (λ o. (in_pair o reading s).pair) known))

tick_leads : (s : SlotState) (r : TickRow) (reading : ℕ) → TickKnown s.pair r → LeadsTo (cue_of_tick r) s.pair (after_tick_row r reading s).pair
tick_leads s row.StartOn reading at = leads cue.StartOn s OwnerIdle UnclaimedIdle reading at refl
tick_leads s row.StartOff reading (inl at) = leads cue.StartOff s UnclaimedIdle OwnerIdle reading at refl
tick_leads s row.StartOff reading (inr at) = leads cue.StartOff s MatchedIdle OwnerIdle reading at refl
tick_leads s row.Lapse reading at = leads cue.Lapse s MatchedIdle OwnerIdle reading at refl
tick_leads s row.Finish reading at = leads cue.Finish (without_claim s) ClaimedIdle OwnerIdle reading at refl
tick_leads s row.KillPast reading (inl at) = leads cue.Kill (with_running evicted s) ClaimedBusy PreemptingKilling reading at refl
tick_leads s row.KillPast reading (inr (inl at)) = leads cue.Kill (with_running evicted s) ClaimedRetiring PreemptingKilling reading at refl
tick_leads s row.KillPast reading (inr (inr at)) = leads cue.Kill (with_running evicted s) PreemptingVacating PreemptingKilling reading at refl
tick_leads s row.Vacate reading at = leads cue.Vacate s ClaimedRetiring PreemptingVacating reading at refl
tick_leads s row.KillVacating reading at = leads cue.Kill (with_running evicted s) PreemptingVacating PreemptingKilling reading at refl
tick_leads s row.Nothing reading at = refl

pub slot_leads : (slot : Slot) (set : Settings) (reading : ℕ) → LeadsTo (cue_of_tick (slot_row slot set reading)) slot.state.pair (after_tick_row (slot_row slot set reading) reading slot.state).pair
slot_leads slot set reading =
    tick_leads slot.state (slot_row slot set reading) reading (row_known slot.state.pair slot.state set (is_start_on slot.ad reading) reading)

-- ---- moves
killed_part : (boot : ℕ) (slot : SlotId) (ad : Attributes) (s : SlotState) (reading : ℕ) → part_of_state boot slot ad s ≡ part_of_state boot slot ad (after_cue cue.Kill reading (with_running evicted s))
killed_part boot slot ad s reading =
    sym (part_moved boot slot ad (next_of s.pair cue.Kill) reading (with_running evicted s) ∙ part_marked boot slot ad s evicted (λ r. refl))

idle_running : (boot : ℕ) (slot : SlotId) (s : SlotState) → s.pair ≡ ClaimedIdle → IsConsistent boot slot s → running_of s ≡ None
idle_running boot slot s at c = none_running (running_of s) (c.busy ∙ ap has_run at)

tick_changes : (boot : ℕ) (slot : SlotId) (ad : Attributes) (s : SlotState) (r : TickRow) (reading : ℕ) → TickKnown s.pair r → IsConsistent boot slot s
    → part_after_all (moves_of_tick r s) (part_of_state boot slot ad s) ≡ part_of_state boot slot ad (after_tick_row r reading s)
tick_changes boot slot ad s row.StartOn reading at c = sym (part_moved boot slot ad (next_of s.pair cue.StartOn) reading s)
tick_changes boot slot ad s row.StartOff reading at c = sym (part_moved boot slot ad (next_of s.pair cue.StartOff) reading s)
tick_changes boot slot ad s row.Lapse reading at c = sym (part_moved boot slot ad (next_of s.pair cue.Lapse) reading s)
tick_changes boot slot ad s row.Finish reading at c = finish_changes boot slot ad s reading (c.claimed ∙ ap has_claim at) (idle_running boot slot s at c) c
tick_changes boot slot ad s row.KillPast reading at c = killed_part boot slot ad s reading
tick_changes boot slot ad s row.Vacate reading at c = sym (part_moved boot slot ad (next_of s.pair cue.Vacate) reading s)
tick_changes boot slot ad s row.KillVacating reading at c = killed_part boot slot ad s reading
tick_changes boot slot ad s row.Nothing reading at c = refl

tick_may : (p : Protocol) (boot : ℕ) (slot : SlotId) (ad : Attributes) (s : SlotState) (r : TickRow) → TickKnown s.pair r → IsConsistent boot slot s → IsPart p (part_of_state boot slot ad s) → MayAll p (moves_of_tick r s)
tick_may p boot slot ad s row.StartOn at c part = tt
tick_may p boot slot ad s row.StartOff at c part = tt
tick_may p boot slot ad s row.Lapse at c part = tt
tick_may p boot slot ad s row.Finish at c part = finish_may p boot slot ad s (idle_running boot slot s at c) c part
tick_may p boot slot ad s row.KillPast at c part = tt
tick_may p boot slot ad s row.Vacate at c part = tt
tick_may p boot slot ad s row.KillVacating at c part = tt
tick_may p boot slot ad s row.Nothing at c part = tt

pub slot_changes : (boot : ℕ) (slot : Slot) (set : Settings) (reading : ℕ) → IsConsistent boot slot.id slot.state
    → part_after_all (moves_of_tick (slot_row slot set reading) slot.state) (part_of boot slot) ≡ part_of boot (record slot { state = after_tick_row (slot_row slot set reading) reading slot.state })
slot_changes boot slot set reading c =
    tick_changes boot slot.id slot.ad slot.state (slot_row slot set reading) reading (row_known slot.state.pair slot.state set (is_start_on slot.ad reading) reading) c

pub slot_may : (p : Protocol) (boot : ℕ) (slot : Slot) (set : Settings) (reading : ℕ) → IsConsistent boot slot.id slot.state → IsPart p (part_of boot slot) → MayAll p (moves_of_tick (slot_row slot set reading) slot.state)
slot_may p boot slot set reading c part =
    tick_may p boot slot.id slot.ad slot.state (slot_row slot set reading) (row_known slot.state.pair slot.state set (is_start_on slot.ad reading) reading) c part

-- ---- a boot
booted_part : (next : ℕ) (slot : SlotId) (ad : Attributes) (s : SlotPart) → s.slot ≡ slot → s.ad ≡ ad → s.run ≡ None → own_part_after s (Reboot slot next) ≡ record { slot = slot; ad = ad; mark = record { boot = next; ended = 0; held = None }; run = None }
booted_part next slot ad s at its none = λ i. record { slot = at i; ad = its i; mark = record { boot = next; ended = 0; held = None }; run = none i }

pub boot_changes : (boot next reading : ℕ) (slot : Slot) → part_after_all (moves_of_boot next slot) (part_of boot slot) ≡ part_of next (record slot { state = slot_after_boot reading })
boot_changes boot next reading slot = by_running (running_of slot.state) refl
  where
    by_running : (o : Option Running) → running_of slot.state ≡ o → part_after_all (run_stops o slot.id None (Reboot slot.id next ∷ [])) (part_of boot slot) ≡ part_of next (record slot { state = slot_after_boot reading })
    by_running None is = own_is (Reboot slot.id next) (part_of boot slot) (same_slot-same slot.id)
        ∙ booted_part next slot.id slot.ad (part_of boot slot) refl refl (ap (option_map (run_in_slot slot.id)) is)
    by_running (Some r) is = ap (part_after (Reboot slot.id next)) (own_is (StopRun (run_in_slot slot.id r) None) (part_of boot slot) (same_slot-same slot.id))
        ∙ (own_is (Reboot slot.id next) (own_part_after (part_of boot slot) (StopRun (run_in_slot slot.id r) None)) (same_slot-same slot.id)
        ∙ booted_part next slot.id slot.ad (own_part_after (part_of boot slot) (StopRun (run_in_slot slot.id r) None)) refl refl refl)

pub boot_moves_may : (p : Protocol) (boot next : ℕ) (slot : Slot) → boot < next → Safe p.pool → IsPart p (part_of boot slot) → MayAll p (moves_of_boot next slot)
boot_moves_may p boot next slot later safe part = boot_may p boot next slot.id slot.ad slot.state later safe part
