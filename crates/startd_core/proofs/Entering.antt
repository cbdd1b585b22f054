-- Whether a slot has entered Owner, Retiring or Vacating.
use Rattle.std.proofs.Common.{◌≡◌, ℕ, zero, suc, Bool, true, false, not, ◌&&◌, ◌||◌, List, [], ◌∷◌, ◌++◌, Option, Some, None, slice_get, slice_set, append_assoc, eq-eqb, refl, sym, ◌∙◌, ap, subst}
use Rattle.std.proofs.lemmas.List.{append-nil}
use Rattle.std.proofs.lemmas.Option.{none-some, same_Some}
use Rattle.ad_eval.specs.Judgement.{Judgement}
use Rattle.claim_id.specs.declared.numbers.ClaimNo.{ClaimNo}
use Rattle.pool_mail.specs.declared.end.Ending.{Ending}
use Rattle.pool_mail.specs.declared.mail.Mail.{Mail}
use Rattle.pool_mail.specs.declared.settings.Settings.{Settings}
use Rattle.startd_slot.specs.declared.slot.Slot.{Slot}
use Rattle.startd_slot.specs.declared.slot.SlotState.{SlotState}
use Rattle.startd_slot.specs.EndingTable.{after_ending}
use Rattle.startd_slot.specs.Mails.{asked_claim, reaction_to}
use Rattle.startd_slot.specs.SlotStates.{runs_on}
use Rattle.startd_core.specs.declared.conclude.Conclusion.{Conclusion}
use Rattle.startd_core.specs.declared.offers.Machine.{Machine}
use Rattle.startd_core.specs.declared.ticks.Ticks.{Ticks}
use Rattle.startd_core.specs.DueTicks.{has_any_entered}
use Rattle.startd_core.specs.Offers.{pair_place, is_brief, has_entered}
use Rattle.startd_core.specs.Startds.{StartdValue, place_of, put_in, put_at, made_by, received_at, received_in, received_of, after_mail, ended_where, ended_at, ended_in, after_end, ticked_slot, after_slot, after_slots, no_ticks, after_tick}
use Rattle.startd_core.specs.TickTable.{slot_row}

or_false : (b : Bool) → (b || false) ≡ b
or_false true = refl
or_false false = refl

or_assoc : (a b c : Bool) → ((a || b) || c) ≡ (a || (b || c))
or_assoc true b c = refl
or_assoc false b c = refl

-- ---- slots that stay
stays : (s : SlotState) → has_entered s s ≡ false
stays s = ap (λ b. not b && is_brief s.pair) (eq-eqb (pair_place s.pair) (pair_place s.pair) refl)

none_entered : (xs : List Slot) → has_any_entered xs xs ≡ false
none_entered [] = refl
none_entered (x ∷ xs) = ap (λ b. b || has_any_entered xs xs) (stays x.state) ∙ none_entered xs

unmoved_enters : (v : StartdValue) → v.restless ≡ (v.restless || has_any_entered v.slots v.slots)
unmoved_enters v = sym (ap (λ b. v.restless || b) (none_entered v.slots) ∙ or_false v.restless)

-- ---- a slot that was put anew
set_enters : (xs : List Slot) (i : ℕ) (x old : Slot) → slice_get xs i ≡ Some old → has_any_entered xs (slice_set xs i x) ≡ has_entered old.state x.state
set_enters [] i x old is = absurd (none-some old is)
set_enters (y ∷ ys) zero x old is =
    ap (λ b. has_entered y.state x.state || b) (none_entered ys) ∙ (or_false (has_entered y.state x.state) ∙ ap (λ (s : Slot). has_entered s.state x.state) (same_Some y old is))
set_enters (y ∷ ys) (suc i) x old is = ap (λ b. b || has_any_entered ys (slice_set ys i x)) (stays y.state) ∙ set_enters ys i x old is

put_enters : (v : StartdValue) (place : ℕ) (slot : Slot) (c : Conclusion) → slice_get v.slots place ≡ Some slot
    → (put_at v place c).restless ≡ (v.restless || has_any_entered v.slots (put_at v place c).slots)
unfolding put_at
put_enters v place slot c at =
    subst (λ o. (put_in v place o c).restless ≡ (v.restless || has_any_entered v.slots (put_in v place o c).slots)) (sym at)
    (sym (ap (λ b. v.restless || b) (set_enters v.slots place (record slot { state = c.state }) slot at)))

pub mail_enters : (v : StartdValue) (mail : Mail) (judged : Option Judgement) (reading : ℕ)
    → (after_mail v mail judged reading).startd.restless ≡ (v.restless || has_any_entered v.slots (after_mail v mail judged reading).startd.slots)
mail_enters v mail judged reading = by_claim (asked_claim mail)
  where
    by_slot : (place : ℕ) (o : Option Slot) → slice_get v.slots place ≡ o
        → (received_at v place o mail judged reading).startd.restless ≡ (v.restless || has_any_entered v.slots (received_at v place o mail judged reading).startd.slots)
    by_slot place None at = unmoved_enters v
    by_slot place (Some slot) at = put_enters v place slot (made_by v.machine v.offers slot (reaction_to v.machine.boot slot mail judged reading) reading).conclusion at

    by_place : (o : Option ℕ) → (received_in v o mail judged reading).startd.restless ≡ (v.restless || has_any_entered v.slots (received_in v o mail judged reading).startd.slots)
    by_place None = unmoved_enters v
    by_place (Some place) = by_slot place (slice_get v.slots place) refl

    by_claim : (o : Option ClaimNo) → (received_of v o mail judged reading).startd.restless ≡ (v.restless || has_any_entered v.slots (received_of v o mail judged reading).startd.slots)
    by_claim None = unmoved_enters v
    by_claim (Some claim) = by_place (place_of v claim.slot)

pub end_enters : (v : StartdValue) (ending : Ending) (reading : ℕ)
    → (after_end v ending reading).startd.restless ≡ (v.restless || has_any_entered v.slots (after_end v ending reading).startd.slots)
end_enters v ending reading = by_place (place_of v ending.run.claim.slot)
  where
    by_run : (place : ℕ) (slot : Slot) (here : Bool) → slice_get v.slots place ≡ Some slot
        → (ended_where here v place slot ending reading).startd.restless ≡ (v.restless || has_any_entered v.slots (ended_where here v place slot ending reading).startd.slots)
    by_run place slot false at = unmoved_enters v
    by_run place slot true at = put_enters v place slot (made_by v.machine v.offers slot (after_ending ending reading slot.state) reading).conclusion at

    by_slot : (place : ℕ) (o : Option Slot) → slice_get v.slots place ≡ o
        → (ended_at v place o ending reading).startd.restless ≡ (v.restless || has_any_entered v.slots (ended_at v place o ending reading).startd.slots)
    by_slot place None at = unmoved_enters v
    by_slot place (Some slot) at = by_run place slot (runs_on slot.state ending.run) at

    by_place : (o : Option ℕ) → (ended_in v o ending reading).startd.restless ≡ (v.restless || has_any_entered v.slots (ended_in v o ending reading).startd.slots)
    by_place None = unmoved_enters v
    by_place (Some place) = by_slot place (slice_get v.slots place) refl

-- ---- a tick
-- what the slots that are left add
record Adds (before : Ticks) (left : List Slot) (after : Ticks) : Type 0 where
  news : List Slot
  them : after.slots ≡ before.slots ++ news
  enters : after.restless ≡ (before.restless || has_any_entered left news)

slots_add : (m : Machine) (set : Settings) (slots : List Slot) (reading : ℕ) (t : Ticks) → Adds t slots (after_slots m set slots reading t)
slots_add m set [] reading t = record { news = []; them = sym (append-nil t.slots); enters = sym (or_false t.restless) }
slots_add m set (slot ∷ slots) reading t =
    let x : Slot = record slot { state = (ticked_slot m set slot (slot_row slot set reading) reading t).state } in
    let rest = slots_add m set slots reading (after_slot m set slot reading t) in
    record {
      news = x ∷ rest.news;
      them = rest.them ∙ append_assoc t.slots (x ∷ []) rest.news;
      enters = rest.enters ∙ or_assoc t.restless (has_entered slot.state x.state) (has_any_entered slots rest.news);
    }

pub tick_enters : (v : StartdValue) (reading : ℕ) → (after_tick v reading).startd.restless ≡ has_any_entered v.slots (after_tick v reading).startd.slots
tick_enters v reading =
    let all = slots_add v.machine v.settings v.slots reading (no_ticks v.offers) in
    all.enters ∙ ap (has_any_entered v.slots) (sym all.them)
