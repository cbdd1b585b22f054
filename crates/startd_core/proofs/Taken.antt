-- What comes of a slot that there is, and where nothing comes.
use Rattle.std.proofs.Common.{◌≡◌, ℕ, ◌+◌, ◌<◌, true, false, List, Some, Option, length, slice_get, get_or, drop, sym, ap, ◌∙◌}
use Rattle.std.proofs.lemmas.List.{at_drop_more}
use Rattle.ad_eval.specs.Judgement.{Judgement}
use Rattle.pool_mail.specs.declared.end.Ending.{Ending}
use Rattle.pool_mail.specs.declared.mail.Mail.{Mail}
use Rattle.pool_mail.specs.declared.settings.Settings.{Settings}
use Rattle.startd_core.specs.Startds.{After, StartdValue, after_made, after_slot, after_slots, ended_at, ended_where, made_by, nothing_done, received_at, unmoved}
use Rattle.startd_core.specs.declared.answer.StartdStep.{StartdStep}
use Rattle.startd_core.specs.declared.offers.Machine.{Machine}
use Rattle.startd_core.specs.declared.ticks.Ticks.{Ticks}
use Rattle.startd_slot.specs.EndingTable.{after_ending}
use Rattle.startd_slot.specs.Mails.{reaction_to}
use Rattle.startd_slot.specs.SlotStates.{runs_on}
use Rattle.startd_slot.specs.declared.reaction.Reaction.{Reaction}
use Rattle.startd_slot.specs.declared.slot.Slot.{Slot}

pub mail_taken : (v : StartdValue) (place : ℕ) (slot : Slot) (mail : Mail) (judged : Option Judgement) (reading : ℕ) (r : Reaction) (a : After)
    → Some slot ≡ slice_get v.slots place → r ≡ reaction_to v.machine.boot slot mail judged reading
    → a ≡ after_made v place (made_by v.machine v.offers slot r reading)
    → a ≡ received_at v place (slice_get v.slots place) mail judged reading
mail_taken v place slot mail judged reading r a there reacts is =
    is ∙ ap (λ (x : Reaction). after_made v place (made_by v.machine v.offers slot x reading)) reacts
    ∙ ap (λ (o : Option Slot). received_at v place o mail judged reading) there

pub end_taken : (v : StartdValue) (place : ℕ) (slot : Slot) (ending : Ending) (reading : ℕ) (r : Reaction) (a : After)
    → Some slot ≡ slice_get v.slots place → true ≡ runs_on slot.state ending.run → r ≡ after_ending ending reading slot.state
    → a ≡ after_made v place (made_by v.machine v.offers slot r reading)
    → a ≡ ended_at v place (slice_get v.slots place) ending reading
end_taken v place slot ending reading r a there runs reacts is =
    is ∙ ap (λ (x : Reaction). after_made v place (made_by v.machine v.offers slot x reading)) reacts
    ∙ ap (λ b. ended_where b v place slot ending reading) runs
    ∙ ap (λ (o : Option Slot). ended_at v place o ending reading) there

pub other_runs : (v : StartdValue) (place : ℕ) (slot : Slot) (ending : Ending) (reading : ℕ)
    → Some slot ≡ slice_get v.slots place → false ≡ runs_on slot.state ending.run
    → unmoved v ≡ ended_at v place (slice_get v.slots place) ending reading
other_runs v place slot ending reading there runs =
    ap (λ b. ended_where b v place slot ending reading) runs
    ∙ ap (λ (o : Option Slot). ended_at v place o ending reading) there

pub nothing_taken : (v : StartdValue) (step : StartdStep) (a b : After) → a ≡ record { startd = v; step = step } → step ≡ nothing_done → unmoved v ≡ b → a ≡ b
nothing_taken v step a b is nothing comes =
    is ∙ ap (λ (s : StartdStep). record { startd = v; step = s }) nothing ∙ comes

pub slot_ticked : (m : Machine) (set : Settings) (slots : List Slot) (i : ℕ) (slot : Slot) (reading : ℕ) (old new : Ticks)
    → i < length slots → slot ≡ get_or slots i slot → new ≡ after_slot m set slot reading old
    → after_slots m set (drop (i + 1) slots) reading new ≡ after_slots m set (drop i slots) reading old
slot_ticked m set slots i slot reading old new below is ticked =
    ap (λ (t : Ticks). after_slots m set (drop (i + 1) slots) reading t) ticked
    ∙ ap (λ (x : Slot). after_slots m set (drop (i + 1) slots) reading (after_slot m set x reading old)) is
    ∙ sym (at_drop_more (λ (xs : List Slot). after_slots m set xs reading old) slots i slot below)
