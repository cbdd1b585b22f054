-- Each event leaves a startd sound.
use Rattle.std.proofs.Common.{◌≡◌, ℕ, ◌+◌, Bool, true, false, List, [], length, Option, Some, None, slice_get, refl, sym, ◌∙◌, ap, subst}
use Rattle.ad_tree.specs.Ad.{Attributes}
use Rattle.ad_eval.specs.Judgement.{Judgement}
use Rattle.claim_id.specs.declared.numbers.ClaimNo.{ClaimNo}
use Rattle.pool_mail.specs.declared.end.Ending.{Ending}
use Rattle.pool_mail.specs.declared.mail.Mail.{Mail}
use Rattle.startd_slot.specs.declared.slot.Slot.{Slot}
use Rattle.startd_slot.specs.EndingTable.{after_ending}
use Rattle.startd_slot.specs.Mails.{asked_claim, reaction_to}
use Rattle.startd_slot.specs.SlotStates.{runs_on, slot_after_boot}
use Rattle.startd_core.specs.declared.conclude.Conclusion.{Conclusion}
use Rattle.startd_core.specs.declared.ticks.Ticks.{Ticks}
use Rattle.startd_core.specs.Sound.{IsSlotAt, AreSound, IsSound}
use Rattle.startd_core.specs.Startds.{StartdValue, startd_value, with_slot, put_in, put_at, made_by, received_at, received_in, received_of, after_mail, ended_where, ended_at, ended_in, after_end, place_of, after_slots, after_boots, no_ticks, after_tick, after_reboot}
use Rattle.startd_core.proofs.Places.{put_sound}
use Rattle.startd_core.proofs.Sounds.{mail_sound, end_sound, tick_sound, reboot_sound, new_sound}

put_stays : (v : StartdValue) (place : ℕ) (c : Conclusion) → ((slot : Slot) → slice_get v.slots place ≡ Some slot → IsSlotAt v.machine place (record slot { state = c.state })) → IsSound v → IsSound (put_at v place c)
unfolding put_at
put_stays v place c new sound = by_slot (slice_get v.slots place) refl
  where
    by_slot : (o : Option Slot) → slice_get v.slots place ≡ o → IsSound (put_in v place o c)
    by_slot None at = sound
    by_slot (Some slot) at = record { slots = put_sound v.machine v.slots place (record slot { state = c.state }) (new slot at) sound.slots }

same_slot_there : (v : StartdValue) (place : ℕ) (slot other : Slot) → slice_get v.slots place ≡ Some slot → slice_get v.slots place ≡ Some other → slot ≡ other
same_slot_there v place slot other at there = (let same : Some slot ≡ Some other = sym at ∙ there in cc)

-- what a mail makes of the slot of a place
pub mail_put : (v : StartdValue) (place : ℕ) (slot : Slot) (mail : Mail) (judged : Option Judgement) (reading : ℕ) → slice_get v.slots place ≡ Some slot → IsSound v
    → IsSound (put_at v place (made_by v.machine v.offers slot (reaction_to v.machine.boot slot mail judged reading) reading).conclusion)
mail_put v place slot mail judged reading at sound =
    let c = (made_by v.machine v.offers slot (reaction_to v.machine.boot slot mail judged reading) reading).conclusion in
    put_stays v place c (λ other there. subst (λ (x : Slot). IsSlotAt v.machine place (record x { state = c.state })) (same_slot_there v place slot other at there)
    (mail_sound v.machine place slot v.offers mail judged reading (sound.slots place slot at))) sound

-- and the end of a run
pub end_put : (v : StartdValue) (place : ℕ) (slot : Slot) (ending : Ending) (reading : ℕ) → slice_get v.slots place ≡ Some slot → runs_on slot.state ending.run ≡ true → IsSound v
    → IsSound (put_at v place (made_by v.machine v.offers slot (after_ending ending reading slot.state) reading).conclusion)
end_put v place slot ending reading at here sound =
    let c = (made_by v.machine v.offers slot (after_ending ending reading slot.state) reading).conclusion in
    put_stays v place c (λ other there. subst (λ (x : Slot). IsSlotAt v.machine place (record x { state = c.state })) (same_slot_there v place slot other at there)
    (end_sound v.machine place slot v.offers ending reading here (sound.slots place slot at))) sound

pub mail_stays : (v : StartdValue) (mail : Mail) (judged : Option Judgement) (reading : ℕ) → IsSound v → IsSound (after_mail v mail judged reading).startd
mail_stays v mail judged reading sound = by_claim (asked_claim mail)
  where
    by_slot : (place : ℕ) (o : Option Slot) → slice_get v.slots place ≡ o → IsSound (received_at v place o mail judged reading).startd
    by_slot place None at = sound
    by_slot place (Some slot) at = mail_put v place slot mail judged reading at sound

    by_place : (o : Option ℕ) → IsSound (received_in v o mail judged reading).startd
    by_place None = sound
    by_place (Some place) = by_slot place (slice_get v.slots place) refl

    by_claim : (o : Option ClaimNo) → IsSound (received_of v o mail judged reading).startd
    by_claim None = sound
    by_claim (Some claim) = by_place (place_of v claim.slot)

pub end_stays : (v : StartdValue) (ending : Ending) (reading : ℕ) → IsSound v → IsSound (after_end v ending reading).startd
end_stays v ending reading sound = by_place (place_of v ending.run.claim.slot)
  where
    by_run : (place : ℕ) (slot : Slot) (here : Bool) → runs_on slot.state ending.run ≡ here → slice_get v.slots place ≡ Some slot → IsSound (ended_where here v place slot ending reading).startd
    by_run place slot false here at = sound
    by_run place slot true here at = end_put v place slot ending reading at here sound

    by_slot : (place : ℕ) (o : Option Slot) → slice_get v.slots place ≡ o → IsSound (ended_at v place o ending reading).startd
    by_slot place None at = sound
    by_slot place (Some slot) at = by_run place slot (runs_on slot.state ending.run) refl at

    by_place : (o : Option ℕ) → IsSound (ended_in v o ending reading).startd
    by_place None = sound
    by_place (Some place) = by_slot place (slice_get v.slots place) refl

pub tick_stays : (v : StartdValue) (reading : ℕ) → IsSound v → IsSound (after_tick v reading).startd
tick_stays v reading sound = record { slots = tick_sound v.machine v.settings v.slots reading v.offers sound.slots }

pub reboot_stays : (v : StartdValue) (reading : ℕ) → IsSound v → IsSound (after_reboot v reading).startd
reboot_stays v reading sound = record { slots = reboot_sound v.machine (v.machine.boot + 1) v.slots reading v.offers sound.slots }

pub slot_stays : (v : StartdValue) (name : List ℕ) (ad : Attributes) → IsSound v → IsSound (with_slot name ad v)
slot_stays v name ad sound =
    record { slots = new_sound v.machine v.slots (record { id = record { machine = v.machine.number; slot = length v.slots + 1 }; name = name; ad = ad; state = slot_after_boot 0 }) (length v.slots) 0 refl refl refl sound.slots }

pub new_stays : (v : StartdValue) → v.slots ≡ [] → IsSound v
new_stays v none = record { slots = subst (λ (xs : List Slot). AreSound v.machine xs) (sym none) (λ place slot is. cc) }

-- ---- the fields as they are then
pub tick_stands : (v : StartdValue) (t : Ticks) (slots : List Slot) (reading : ℕ) → slots ≡ t.slots → t ≡ after_slots v.machine v.settings v.slots reading (no_ticks v.offers) → IsSound v
    → IsSound (startd_value v.machine v.settings t.offers slots (Some reading) t.restless)
tick_stands v t slots reading same is sound = record {
  slots = subst (λ (xs : List Slot). AreSound v.machine xs) (sym (same ∙ ap (λ (x : Ticks). x.slots) is)) (tick_stays v reading sound).slots;
}

pub reboot_stands : (v : StartdValue) (t : Ticks) (slots : List Slot) (boot reading : ℕ) → slots ≡ t.slots → t ≡ after_boots v.slots reading (no_ticks v.offers) → IsSound v
    → IsSound (startd_value (record v.machine { boot = boot }) v.settings v.offers slots None false)
reboot_stands v t slots boot reading same is sound = record {
  slots = subst (λ (xs : List Slot). AreSound (record v.machine { boot = boot }) xs) (sym (same ∙ ap (λ (x : Ticks). x.slots) is))
      (reboot_sound v.machine boot v.slots reading v.offers sound.slots);
}

pub slot_stands : (v : StartdValue) (name : List ℕ) (ad : Attributes) (slots : List Slot) → slots ≡ (with_slot name ad v).slots → IsSound v
    → IsSound (startd_value v.machine v.settings v.offers slots v.ticked v.restless)
slot_stands v name ad slots same sound = record { slots = subst (λ (xs : List Slot). AreSound v.machine xs) (sym same) (slot_stays v name ad sound).slots }
