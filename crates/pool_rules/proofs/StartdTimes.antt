-- A startd that ticks, or whose machine boots, keeps the links.
use Rattle.std.proofs.Common.{◌≡◌, ◌⊎◌, inl, inr, ℕ, ◌+◌, ◌<◌, Bool, not, List, [], ◌∷◌, ◌++◌, map, Option, Some, None, slice_get, refl, sym, ◌∙◌, ap, subst, arith}
use Rattle.std.proofs.lemmas.List.{append_assoc, append-nil, map-append}
use Rattle.claim_id.specs.declared.numbers.SlotId.{SlotId}
use Rattle.pool_mail.specs.declared.settings.Settings.{Settings}
use Rattle.pool_view.specs.AbstractPool.{IsIn}
use Rattle.pool_view.specs.Protocol.{Protocol}
use Rattle.pool_view.specs.ProtocolMove.{ProtocolMove, MayAll, Reboot, protocol_after_all}
use Rattle.pool_view.specs.SlotPart.{SlotPart, IsPart}
use Rattle.claim_id.specs.declared.pair.Pair.{Pair}
use Rattle.claim_id.specs.declared.pair.Pair.TheVariants.{OwnerIdle, UnclaimedIdle, MatchedIdle, ClaimedIdle, ClaimedBusy, ClaimedRetiring, PreemptingVacating, PreemptingKilling}
use Rattle.claim_id.specs.declared.pair.Cue.TheVariants as cue
use Rattle.claim_id.specs.SlotTable.{next_of}
use Rattle.startd_slot.specs.declared.held.Held.{Held}
use Rattle.startd_slot.specs.declared.held.Running.{Running}
use Rattle.startd_slot.specs.declared.slot.Slot.{Slot}
use Rattle.startd_slot.specs.declared.slot.SlotState.{SlotState}
use Rattle.startd_slot.specs.Consistent.{IsConsistent}
use Rattle.startd_slot.specs.SlotMoves.{moves_of_boot, part_of, run_stops}
use Rattle.startd_slot.specs.SlotStates.{claim_with_running, in_pair, evicted, running_of, slot_after_boot, with_running}
use Rattle.startd_core.specs.Offers.{has_changed}
use Rattle.startd_core.specs.Startds.{StartdValue, after_booted, after_boots, after_reboot, after_slot, after_slots, after_tick, after_ticks, booted, booted_slot, no_ticks, row_made, tells_at, ticked_slot}
use Rattle.startd_core.specs.TickTable.{after_kill, after_tick_row, is_after, is_lease_past, is_start_on, is_unheard, row_in, slot_row}
use Rattle.startd_core.specs.TimeMoves.{moves_of_tick}
use Rattle.startd_core.proofs.Stays.{tick_stays, reboot_stays}
use Rattle.startd_core.proofs.Telling.{ticked_part, booted_part}
use Rattle.startd_core.proofs.TimeRows.{boot_changes, boot_moves_may, slot_changes, slot_may}
use Rattle.pool_rules.specs.Linked.{AreBorneOut, IsEndReported, AreEndsReported, IsLinked, StayLinked, ended_of}
use Rattle.pool_rules.specs.PoolParts.{PoolParts}
use Rattle.pool_rules.specs.StartdEvents.{moves_of_all, moves_of_boots, moves_of_ticks, parts_with_startd}
use Rattle.pool_rules.proofs.Going.{goes_on, reported_on}
use Rattle.pool_rules.proofs.Kept.{in_both, startd_event}
use Rattle.pool_rules.proofs.Machines.{all_changed, all_far_from, all_may, in_place, sound_apart}
use Rattle.pool_rules.proofs.Owned.{AreOwn, AreStartdMoves, own_are_startd, said_by, said_by_all, startd_append}
use Rattle.pool_rules.proofs.SlotRows.{IsQuiet, KeepsEnd, by_if, cue_held, ends_quiet, none_borne, same_end}
use Rattle.pool_rules.proofs.StartdMails.{in_pool, settled_held, told_borne, told_held}

-- ---- quiet moves, slot by slot
said_append : (ms ns : List ProtocolMove) → said_by_all (ms ++ ns) ≡ said_by_all ns ++ said_by_all ms
said_append [] ns = sym (append-nil (said_by_all ns))
said_append (m ∷ ms) ns = ap (λ xs. xs ++ said_by m) (said_append ms ns) ∙ append_assoc (said_by_all ns) (said_by_all ms) (said_by m)

all_quiet : (moves : Slot → List ProtocolMove) (slots : List Slot) → ((t : Slot) → IsIn t slots → IsQuiet t.id (moves t)) → AreStartdMoves (moves_of_all moves slots) × (said_by_all (moves_of_all moves slots) ≡ [])
all_quiet moves [] quiet = (tt, refl)
all_quiet moves (t ∷ ts) quiet =
    let here = quiet t (inl refl) in
    let rest = all_quiet moves ts (λ u there. quiet u (inr there)) in (
      startd_append (moves t) (moves_of_all moves ts) (own_are_startd t.id (moves t) here.0) rest.0,
      said_append (moves t) (moves_of_all moves ts) ∙ (ap (λ xs. xs ++ said_by_all (moves t)) rest.1 ∙ here.1),
    )

-- what a row of a tick does
record TickFacts (slot : SlotId) (ms : List ProtocolMove) (s t : SlotState) : Type 0 where
  quiet : IsQuiet slot ms
  ends : KeepsEnd s t

cue_facts : (slot : SlotId) (s : SlotState) (o : Option Pair) (reading : ℕ) → TickFacts slot [] s (in_pair o reading s)
cue_facts slot s o reading = record { quiet = (tt, refl); ends = inl (ap ended_of (cue_held o reading s)) }

kill_facts : (slot : SlotId) (s : SlotState) (o : Option Pair) (reading : ℕ) → TickFacts slot [] s (in_pair o reading (with_running evicted s))
kill_facts slot s o reading = record { quiet = (tt, refl); ends = inl (ap ended_of (cue_held o reading (with_running evicted s)) ∙ same_end (claim_with_running evicted) s.held (λ h. refl)) }

no_facts : (slot : SlotId) (s : SlotState) → TickFacts slot [] s s
no_facts slot s = record { quiet = (tt, refl); ends = inl refl }

module _ (boot : ℕ) (slot : SlotId) (s : SlotState) (set : Settings) (reading : ℕ) (c : IsConsistent boot slot s) where
  killed : TickFacts slot [] s (after_kill reading s)
  killed = kill_facts slot s (next_of s.pair cue.Kill) reading

  row_facts : (p : Pair) (start : Bool) → TickFacts slot (moves_of_tick (row_in p s set start reading) s) s (after_tick_row (row_in p s set start reading) reading s)
  row_facts OwnerIdle start = by_if (λ r. TickFacts slot (moves_of_tick r s) s (after_tick_row r reading s)) _ _ start (cue_facts slot s (next_of s.pair cue.StartOn) reading) (no_facts slot s)
  row_facts UnclaimedIdle start = by_if (λ r. TickFacts slot (moves_of_tick r s) s (after_tick_row r reading s)) _ _ (not start) (cue_facts slot s (next_of s.pair cue.StartOff) reading) (no_facts slot s)
  row_facts MatchedIdle start = by_if (λ r. TickFacts slot (moves_of_tick r s) s (after_tick_row r reading s)) _ _ (not start) (cue_facts slot s (next_of s.pair cue.StartOff) reading)
      (by_if (λ r. TickFacts slot (moves_of_tick r s) s (after_tick_row r reading s)) _ _ (is_after s.entered set.match_timeout reading) (cue_facts slot s (next_of s.pair cue.Lapse) reading) (no_facts slot s))
  row_facts ClaimedIdle start = by_if (λ r. TickFacts slot (moves_of_tick r s) s (after_tick_row r reading s)) _ _ (is_unheard s.held set.claim_lease reading)
      (record { quiet = ends_quiet boot slot s c; ends = inr (ap ended_of (cue_held (next_of s.pair cue.Finish) reading _)) }) (no_facts slot s)
  row_facts ClaimedBusy start = by_if (λ r. TickFacts slot (moves_of_tick r s) s (after_tick_row r reading s)) _ _ (is_lease_past s reading) killed (no_facts slot s)
  row_facts ClaimedRetiring start = by_if (λ r. TickFacts slot (moves_of_tick r s) s (after_tick_row r reading s)) _ _ (is_lease_past s reading) killed
      (by_if (λ r. TickFacts slot (moves_of_tick r s) s (after_tick_row r reading s)) _ _ (is_after s.entered set.retirement reading) (cue_facts slot s (next_of s.pair cue.Vacate) reading) (no_facts slot s))
  row_facts PreemptingVacating start = by_if (λ r. TickFacts slot (moves_of_tick r s) s (after_tick_row r reading s)) _ _ (is_lease_past s reading) killed
      (by_if (λ r. TickFacts slot (moves_of_tick r s) s (after_tick_row r reading s)) _ _ (is_after s.entered set.vacate reading) killed (no_facts slot s))
  row_facts PreemptingKilling start = no_facts slot s

tick_facts : (boot : ℕ) (slot : Slot) (set : Settings) (reading : ℕ) → IsConsistent boot slot.id slot.state
    → TickFacts slot.id (moves_of_tick (slot_row slot set reading) slot.state) slot.state (after_tick_row (slot_row slot set reading) reading slot.state)
tick_facts boot slot set reading c = row_facts boot slot.id slot.state set reading c slot.state.pair (is_start_on slot.ad reading)

boot_quiet : (next : ℕ) (slot : Slot) → IsQuiet slot.id (moves_of_boot next slot)
boot_quiet next slot = by (running_of slot.state)
  where
    by : (o : Option Running) → IsQuiet slot.id (run_stops o slot.id None (Reboot slot.id next ∷ []))
    by None = ((refl, tt), refl)
    by (Some r) = ((refl, (refl, tt)), refl)

-- ---- the slots as parts
one_more : (done : List SlotPart) (x : SlotPart) (xs : List SlotPart) → (done ++ x ∷ []) ++ xs ≡ done ++ (x ∷ xs)
one_more done x xs = append_assoc done (x ∷ []) xs

ticks_parts : (m : _) (set : Settings) (slots : List Slot) (reading : ℕ) (t : _)
    → map (part_of m.boot) (after_slots m set slots reading t).slots ≡ map (part_of m.boot) t.slots ++ map (λ s. part_of m.boot (record s { state = after_tick_row (slot_row s set reading) reading s.state })) slots
ticks_parts m set [] reading t = sym (append-nil (map (part_of m.boot) t.slots))
ticks_parts m set (slot ∷ slots) reading t =
    let new : Slot → SlotPart = λ s. part_of m.boot (record s { state = after_tick_row (slot_row s set reading) reading s.state }) in
    let x : Slot = record slot { state = (ticked_slot m set slot (slot_row slot set reading) reading t).state } in
    ticks_parts m set slots reading (after_slot m set slot reading t)
    ∙ (ap (λ xs. xs ++ map new slots) (map-append (part_of m.boot) t.slots (x ∷ []))
    ∙ (ap (λ y. (map (part_of m.boot) t.slots ++ y ∷ []) ++ map new slots) (ticked_part m set slot (slot_row slot set reading) reading t)
    ∙ one_more (map (part_of m.boot) t.slots) (new slot) (map new slots)))

boots_parts : (boot : ℕ) (slots : List Slot) (reading : ℕ) (t : _)
    → map (part_of boot) (after_boots slots reading t).slots ≡ map (part_of boot) t.slots ++ map (λ s. part_of boot (record s { state = slot_after_boot reading })) slots
boots_parts boot [] reading t = sym (append-nil (map (part_of boot) t.slots))
boots_parts boot (slot ∷ slots) reading t =
    let new : Slot → SlotPart = λ s. part_of boot (record s { state = slot_after_boot reading }) in
    let x : Slot = record slot { state = (booted_slot slot reading t).state } in
    boots_parts boot slots reading (after_booted slot reading t)
    ∙ (ap (λ xs. xs ++ map new slots) (map-append (part_of boot) t.slots (x ∷ []))
    ∙ (ap (λ y. (map (part_of boot) t.slots ++ y ∷ []) ++ map new slots) (booted_part boot slot reading t)
    ∙ one_more (map (part_of boot) t.slots) (new slot) (map new slots)))

-- ---- mails
ticks_borne : (q : Protocol) (v : StartdValue) (slots : List Slot) (reading : ℕ) (t : _) → AreBorneOut q (after_ticks v t reading).step.mails → AreBorneOut q (after_slots v.machine v.settings slots reading t).mails
ticks_borne q v [] reading t borne = borne
ticks_borne q v (slot ∷ slots) reading t borne =
    let s = row_made v.machine slot (slot_row slot v.settings reading) t.offers reading in
    ticks_borne q v slots reading (after_slot v.machine v.settings slot reading t) (told_borne q slot s t.mails (tells_at slot s.state v.settings reading) reading borne)

boots_borne : (q : Protocol) (v : StartdValue) (slots : List Slot) (reading : ℕ) (t : _) → AreBorneOut q (booted v t).step.mails → AreBorneOut q (after_boots slots reading t).mails
boots_borne q v [] reading t borne = borne
boots_borne q v (slot ∷ slots) reading t borne =
    boots_borne q v slots reading (after_booted slot reading t)
    (told_borne q slot (record { state = slot_after_boot reading; offers = t.offers }) t.mails (has_changed slot.state (slot_after_boot reading)) reading borne)

-- ---- ends
with_one : (q : Protocol) (done : List Slot) (x : Slot) → AreEndsReported q done → IsEndReported q (ended_of x.state.held) → AreEndsReported q (done ++ x ∷ [])
with_one q done x ends its s there = by (in_both s done (x ∷ []) there)
  where
    by : IsIn s done ⊎ IsIn s (x ∷ []) → IsEndReported q (ended_of s.state.held)
    by (inl h) = ends s h
    by (inr (inl same)) = subst (λ (y : Slot). IsEndReported q (ended_of y.state.held)) (sym same) its
    by (inr (inr h)) = absurd h

kept_end : (q : Protocol) (s : SlotState) (o : Option Held) → IsEndReported q (ended_of s.held) → (ended_of o ≡ ended_of s.held) ⊎ (ended_of o ≡ None) → IsEndReported q (ended_of o)
kept_end q s o was (inl same) = subst (IsEndReported q) (sym same) was
kept_end q s o was (inr none) = subst (IsEndReported q) (sym none) tt

ticked_end : (q : Protocol) (m : _) (set : Settings) (slot : Slot) (reading : ℕ) (t : _) → KeepsEnd slot.state (after_tick_row (slot_row slot set reading) reading slot.state) → IsEndReported q (ended_of slot.state.held) → IsEndReported q (ended_of (ticked_slot m set slot (slot_row slot set reading) reading t).state.held)
ticked_end q m set slot reading t keeps was =
    let r = slot_row slot set reading in
    let s = row_made m slot r t.offers reading in
    let same : (ticked_slot m set slot r reading t).state.held ≡ (after_tick_row r reading slot.state).held =
    told_held slot s t.mails (tells_at slot s.state set reading) reading ∙ settled_held m slot.id (after_tick_row r reading slot.state) t.offers in
    subst (λ h. IsEndReported q (ended_of h)) (sym same) (kept_end q slot.state (after_tick_row r reading slot.state).held was keeps)

ticks_ends : (q : Protocol) (v : StartdValue) (slots : List Slot) (reading : ℕ) (t : _) → AreEndsReported q (after_ticks v t reading).startd.slots → AreEndsReported q slots → ((s : Slot) → IsIn s slots → KeepsEnd s.state (after_tick_row (slot_row s v.settings reading) reading s.state)) → AreEndsReported q (after_slots v.machine v.settings slots reading t).slots
ticks_ends q v [] reading t done ends keeps = done
ticks_ends q v (slot ∷ slots) reading t done ends keeps =
    ticks_ends q v slots reading (after_slot v.machine v.settings slot reading t)
    (with_one q t.slots (record slot { state = (ticked_slot v.machine v.settings slot (slot_row slot v.settings reading) reading t).state }) done (ticked_end q v.machine v.settings slot reading t (keeps slot (inl refl)) (ends slot (inl refl))))
    (λ s there. ends s (inr there)) (λ s there. keeps s (inr there))

boots_ends : (q : Protocol) (v : StartdValue) (slots : List Slot) (reading : ℕ) (t : _) → AreEndsReported q (booted v t).startd.slots → AreEndsReported q (after_boots slots reading t).slots
boots_ends q v [] reading t done = done
boots_ends q v (slot ∷ slots) reading t done =
    let same = told_held slot (record { state = slot_after_boot reading; offers = t.offers }) t.mails (has_changed slot.state (slot_after_boot reading)) reading in
    boots_ends q v slots reading (after_booted slot reading t)
    (with_one q t.slots (record slot { state = (booted_slot slot reading t).state }) done (subst (λ h. IsEndReported q (ended_of h)) (sym same) tt))

-- ---- the events
module _ (p : Protocol) (a : PoolParts) (machine : ℕ) (v : StartdValue) (linked : IsLinked p a) (at : slice_get a.startds machine ≡ Some v) where
  consistent : (s : Slot) → IsIn s v.slots → IsConsistent v.machine.boot s.id s.state
  consistent s there = let found = in_place s v.slots there in ((linked.startds machine v at).sound.slots found.0 s found.1).consistent

  of_machine : (s : Slot) → IsIn s v.slots → s.id.machine ≡ machine
  of_machine s there = let found = in_place s v.slots there in ap (λ (x : SlotId). x.machine) ((linked.startds machine v at).sound.slots found.0 s found.1).numbered ∙ (linked.startds machine v at).numbered

  parts : (s : Slot) → IsIn s v.slots → IsPart p (part_of v.machine.boot s)
  parts s there = linked.slots.each (part_of v.machine.boot s) (in_pool a.startds machine v s at there)

  pub tick_linked : (reading : ℕ) → StayLinked p (moves_of_ticks v reading) (parts_with_startd machine (after_tick v reading) [] a)
  tick_linked reading =
      let moves : Slot → List ProtocolMove = λ s. moves_of_tick (slot_row s v.settings reading) s.state in
      let ms : List ProtocolMove = moves_of_ticks v reading in
      let l = linked.startds machine v at in
      let apart = sound_apart v l.sound in
      let own : (t : Slot) → IsIn t v.slots → AreOwn t.id (moves t) = λ t there. (tick_facts v.machine.boot t v.settings reading (consistent t there)).quiet.0 in
      let quiet = all_quiet moves v.slots (λ t there. (tick_facts v.machine.boot t v.settings reading (consistent t there)).quiet) in
      let may : MayAll p ms = all_may v.machine.boot moves p v.slots linked.facts linked.safe apart own parts
      (λ q t there facts safe part. slot_may q v.machine.boot t v.settings reading (consistent t there) part) in
      let after : Slot → SlotPart = λ s. part_of v.machine.boot (record s { state = after_tick_row (slot_row s v.settings reading) reading s.state }) in
      startd_event p a machine v (after_tick v reading) [] ms linked at may quiet.0
      (all_far_from v.machine.boot moves machine v.slots (λ t there. (own t there, of_machine t there)))
      (all_changed v.machine.boot moves v.slots after apart own (λ t there. (slot_changes v.machine.boot t v.settings reading (consistent t there), refl))
      ∙ sym (ticks_parts v.machine v.settings v.slots reading (no_ticks v.offers)))
      refl (tick_stays v reading l.sound)
      (ticks_ends (protocol_after_all p ms) v v.slots reading (no_ticks v.offers) (λ s there. absurd there)
      (λ s there. reported_on p (protocol_after_all p ms) (ended_of s.state.held) (goes_on p ms may linked.facts linked.safe) (l.ends s there))
      (λ s there. (tick_facts v.machine.boot s v.settings reading (consistent s there)).ends))
      (ticks_borne (protocol_after_all p ms) v v.slots reading (no_ticks v.offers) (none_borne (protocol_after_all p ms)))
      quiet.1

  pub boot_linked : (reading : ℕ) → StayLinked p (moves_of_boots v) (parts_with_startd machine (after_reboot v reading) [] a)
  boot_linked reading =
      let next : ℕ = v.machine.boot + 1 in
      let moves : Slot → List ProtocolMove = moves_of_boot next in
      let ms : List ProtocolMove = moves_of_boots v in
      let l = linked.startds machine v at in
      let apart = sound_apart v l.sound in
      let own : (t : Slot) → IsIn t v.slots → AreOwn t.id (moves t) = λ t there. (boot_quiet next t).0 in
      let quiet = all_quiet moves v.slots (λ t there. boot_quiet next t) in
      let later : v.machine.boot < next = omega arith in
      let may : MayAll p ms = all_may v.machine.boot moves p v.slots linked.facts linked.safe apart own parts
      (λ q t there facts safe part. boot_moves_may q v.machine.boot next t later safe part) in
      let after : Slot → SlotPart = λ s. part_of next (record s { state = slot_after_boot reading }) in
      startd_event p a machine v (after_reboot v reading) [] ms linked at may quiet.0
      (all_far_from v.machine.boot moves machine v.slots (λ t there. (own t there, of_machine t there)))
      (all_changed v.machine.boot moves v.slots after apart own (λ t there. (boot_changes v.machine.boot next reading t, refl))
      ∙ sym (boots_parts next v.slots reading (no_ticks v.offers)))
      refl (reboot_stays v reading l.sound)
      (boots_ends (protocol_after_all p ms) v v.slots reading (no_ticks v.offers) (λ s there. absurd there))
      (boots_borne (protocol_after_all p ms) v v.slots reading (no_ticks v.offers) (none_borne (protocol_after_all p ms)))
      quiet.1
