-- Each event keeps a startd sound.
use Rattle.std.proofs.Common.{◌≡◌, ℕ, zero, suc, ◌+◌, Bool, true, false, List, [], ◌∷◌, ◌++◌, length, Option, Some, slice_get, length-append, refl, sym, ◌∙◌, ap, subst, arith}
use Rattle.ad_eval.specs.Judgement.{Judgement}
use Rattle.claim_id.specs.declared.numbers.SlotId.{SlotId}
use Rattle.pool_mail.specs.declared.end.Ending.{Ending}
use Rattle.pool_mail.specs.declared.mail.Mail.{Mail}
use Rattle.pool_mail.specs.declared.settings.Settings.{Settings}
use Rattle.startd_slot.specs.declared.reaction.Reaction.{Reaction}
use Rattle.startd_slot.specs.declared.slot.Slot.{Slot}
use Rattle.startd_slot.specs.Consistent.{IsConsistent, IsSettled}
use Rattle.startd_slot.specs.EndingTable.{after_ending}
use Rattle.startd_slot.specs.Mails.{reaction_to}
use Rattle.startd_slot.specs.SlotStates.{runs_on, slot_after_boot}
use Rattle.startd_slot.proofs.KeepsReactions.{reaction_kept, ending_kept}
use Rattle.startd_core.specs.declared.offers.Machine.{Machine}
use Rattle.startd_core.specs.declared.ticks.Ticks.{Ticks}
use Rattle.startd_core.specs.Offers.{Settled, settled, has_changed}
use Rattle.startd_core.specs.Sound.{IsSlotAt, AreSound}
use Rattle.startd_core.specs.Startds.{told, concluded, made_by, tells_at, row_made, ticked_slot, after_slot, after_slots, no_ticks, booted_slot, after_booted, after_boots}
use Rattle.startd_core.specs.TickTable.{slot_row, is_start_on}
use Rattle.startd_core.proofs.Places.{append_sound}
use Rattle.startd_core.proofs.Settling.{settled_kept, told_kept, booted_kept, row_known, ticked_kept}

-- ---- one slot
told_sound : (m : Machine) (place : ℕ) (slot : Slot) (s : Settled) (mails : List Mail) (tells : Bool) (reading : ℕ)
    → slot.id ≡ record { machine = m.number; slot = place + 1 } → IsConsistent m.boot slot.id s.state → IsSettled s.state
    → IsSlotAt m place (record slot { state = (told slot s mails tells reading).state })
told_sound m place slot s mails true reading id c settled = record { numbered = id; consistent = told_kept m.boot slot.id s.state reading c; settled = settled }
told_sound m place slot s mails false reading id c settled = record { numbered = id; consistent = c; settled = settled }

concluded_sound : (m : Machine) (place : ℕ) (slot : Slot) (offers : ℕ) (r : Reaction) (reading : ℕ) → slot.id ≡ record { machine = m.number; slot = place + 1 } → IsConsistent m.boot slot.id r.state
    → IsSlotAt m place (record slot { state = (concluded m slot offers r reading).state })
concluded_sound m place slot offers r reading id c =
    let kept = settled_kept m slot.id r.state offers c in
    told_sound m place slot (settled m slot.id r.state offers) r.mails (has_changed slot.state (settled m slot.id r.state offers).state) reading id kept.0 kept.1

pub mail_sound : (m : Machine) (place : ℕ) (slot : Slot) (offers : ℕ) (mail : Mail) (judged : Option Judgement) (reading : ℕ) → IsSlotAt m place slot
    → IsSlotAt m place (record slot { state = (made_by m offers slot (reaction_to m.boot slot mail judged reading) reading).conclusion.state })
unfolding made_by
mail_sound m place slot offers mail judged reading at =
    concluded_sound m place slot offers (reaction_to m.boot slot mail judged reading) reading at.numbered (reaction_kept m.boot slot mail judged reading at.consistent at.settled)

pub end_sound : (m : Machine) (place : ℕ) (slot : Slot) (offers : ℕ) (ending : Ending) (reading : ℕ) → runs_on slot.state ending.run ≡ true → IsSlotAt m place slot
    → IsSlotAt m place (record slot { state = (made_by m offers slot (after_ending ending reading slot.state) reading).conclusion.state })
unfolding made_by
end_sound m place slot offers ending reading here at =
    concluded_sound m place slot offers (after_ending ending reading slot.state) reading at.numbered (ending_kept m.boot slot.id slot.state ending reading here at.consistent at.settled)

-- ---- all slots
-- the slots from a place on
abbrev AreFrom : Machine → ℕ → List Slot → Type 0
AreFrom m from slots = (place : ℕ) (slot : Slot) → slice_get slots place ≡ Some slot → IsSlotAt m (from + place) slot

rest_from : (m : Machine) (from : ℕ) (slot : Slot) (slots : List Slot) → AreFrom m from (slot ∷ slots) → AreFrom m (from + 1) slots
rest_from m from slot slots sound place x is = let e : from + suc place ≡ from + 1 + place = omega arith in subst (λ n. IsSlotAt m n x) e (sound (suc place) x is)

head_from : (m : Machine) (from : ℕ) (slot : Slot) (slots : List Slot) → AreFrom m from (slot ∷ slots) → IsSlotAt m from slot
head_from m from slot slots sound = let e : from + zero ≡ from = omega arith in subst (λ n. IsSlotAt m n slot) e (sound zero slot refl)

all_from : (m : Machine) (slots : List Slot) → AreSound m slots → AreFrom m 0 slots
all_from m slots sound place slot is = let e : place ≡ 0 + place = omega arith in subst (λ n. IsSlotAt m n slot) e (sound place slot is)

none_sound : (m : Machine) → AreSound m []
none_sound m place slot is = cc

one_more : (done : List Slot) (x : Slot) → length (done ++ x ∷ []) ≡ length done + 1
one_more done x = length-append done (x ∷ [])

ticked_sound : (m : Machine) (place : ℕ) (set : Settings) (slot : Slot) (reading : ℕ) (t : Ticks) → IsSlotAt m place slot
    → IsSlotAt m place (record slot { state = (ticked_slot m set slot (slot_row slot set reading) reading t).state })
ticked_sound m place set slot reading t at =
    let r = slot_row slot set reading in
    let kept = settled_kept m slot.id _ t.offers (ticked_kept m.boot slot.id slot.state r reading (row_known slot.state.pair slot.state set (is_start_on slot.ad reading) reading) at.consistent) in
    told_sound m place slot (row_made m slot r t.offers reading) t.mails (tells_at slot (row_made m slot r t.offers reading).state set reading) reading at.numbered kept.0 kept.1

pub slots_sound : (m : Machine) (set : Settings) (slots : List Slot) (reading : ℕ) (t : Ticks) → AreSound m t.slots → AreFrom m (length t.slots) slots
    → AreSound m (after_slots m set slots reading t).slots
slots_sound m set [] reading t sound rest = sound
slots_sound m set (slot ∷ slots) reading t sound rest =
    let new = ticked_sound m (length t.slots) set slot reading t (head_from m (length t.slots) slot slots rest) in
    let x : Slot = record slot { state = (ticked_slot m set slot (slot_row slot set reading) reading t).state } in
    slots_sound m set slots reading (after_slot m set slot reading t) (append_sound m t.slots x new sound)
    (subst (λ n. AreFrom m n slots) (sym (one_more t.slots x)) (rest_from m (length t.slots) slot slots rest))

pub tick_sound : (m : Machine) (set : Settings) (slots : List Slot) (reading offers : ℕ) → AreSound m slots → AreSound m (after_slots m set slots reading (no_ticks offers)).slots
tick_sound m set slots reading offers sound = slots_sound m set slots reading (no_ticks offers) (none_sound m) (all_from m slots sound)

-- a boot
booted_sound : (m : Machine) (boot place : ℕ) (slot : Slot) (reading : ℕ) (t : Ticks) → slot.id ≡ record { machine = m.number; slot = place + 1 }
    → IsSlotAt (record m { boot = boot }) place (record slot { state = (booted_slot slot reading t).state })
booted_sound m boot place slot reading t id =
    told_sound (record m { boot = boot }) place slot (record { state = slot_after_boot reading; offers = t.offers }) t.mails (has_changed slot.state (slot_after_boot reading)) reading id (booted_kept boot slot.id reading) refl

boots_sound : (m : Machine) (boot : ℕ) (slots : List Slot) (reading : ℕ) (t : Ticks) → AreSound (record m { boot = boot }) t.slots → AreFrom m (length t.slots) slots
    → AreSound (record m { boot = boot }) (after_boots slots reading t).slots
boots_sound m boot [] reading t sound rest = sound
boots_sound m boot (slot ∷ slots) reading t sound rest =
    let x : Slot = record slot { state = (booted_slot slot reading t).state } in
    boots_sound m boot slots reading (after_booted slot reading t)
    (append_sound (record m { boot = boot }) t.slots x (booted_sound m boot (length t.slots) slot reading t (head_from m (length t.slots) slot slots rest).numbered) sound)
    (subst (λ n. AreFrom m n slots) (sym (one_more t.slots x)) (rest_from m (length t.slots) slot slots rest))

pub reboot_sound : (m : Machine) (boot : ℕ) (slots : List Slot) (reading offers : ℕ) → AreSound m slots → AreSound (record m { boot = boot }) (after_boots slots reading (no_ticks offers)).slots
reboot_sound m boot slots reading offers sound = boots_sound m boot slots reading (no_ticks offers) (none_sound (record m { boot = boot })) (all_from m slots sound)

-- a new slot
pub new_sound : (m : Machine) (slots : List Slot) (slot : Slot) (place reading : ℕ) → place ≡ length slots → slot.id ≡ record { machine = m.number; slot = place + 1 } → slot.state ≡ slot_after_boot reading → AreSound m slots → AreSound m (slots ++ slot ∷ [])
new_sound m slots slot place reading at id state sound =
    let number : ℕ → SlotId = λ n. record { machine = m.number; slot = n + 1 } in
    append_sound m slots slot (record {
      numbered = id ∙ ap number at;
      consistent = subst (IsConsistent m.boot slot.id) (sym state) (booted_kept m.boot slot.id reading);
      settled = subst IsSettled (sym state) refl;
    }) sound
