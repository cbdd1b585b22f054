-- That an offer is settled and that an Update is sent is no matter of the protocol, and says of no run that it is over.
use Rattle.std.proofs.Common.{◌≡◌, ℕ, Bool, true, false, List, [], ◌∷◌, ◌++◌, Option, Some, None, IfSome, refl, ◌∙◌, if◌then◌else◌}
use Rattle.ad_tree.specs.Ad.{Attributes}
use Rattle.ad_eval.specs.Judgement.{Judgement}
use Rattle.claim_id.specs.declared.numbers.ClaimId.{ClaimId}
use Rattle.claim_id.specs.declared.numbers.RunNo.{RunNo}
use Rattle.claim_id.specs.declared.numbers.SlotId.{SlotId}
use Rattle.pool_mail.specs.declared.end.Ending.{Ending}
use Rattle.pool_mail.specs.declared.mail.Mail.{Mail}
use Rattle.pool_mail.specs.declared.settings.Settings.{Settings}
use Rattle.startd_slot.specs.declared.reaction.Reaction.{Reaction}
use Rattle.startd_slot.specs.declared.slot.Slot.{Slot}
use Rattle.startd_slot.specs.declared.slot.SlotState.{SlotState}
use Rattle.startd_slot.specs.EndingTable.{after_ending}
use Rattle.startd_slot.specs.Mails.{reaction_to}
use Rattle.startd_slot.specs.Over.{IsOver, run_said_over, SayOver, SayOnlyOver}
use Rattle.startd_slot.specs.SlotMoves.{part_of, part_of_state}
use Rattle.startd_slot.specs.SlotStates.{is_open, runs_on, slot_after_boot}
use Rattle.startd_slot.proofs.OverRows.{mail_over, end_over}
use Rattle.startd_core.specs.declared.offers.Machine.{Machine}
use Rattle.startd_core.specs.declared.tick.TickRow.{TickRow}
use Rattle.startd_core.specs.declared.ticks.Ticks.{Ticks}
use Rattle.startd_core.specs.Offers.{Settled, settled, settled_open, update_of, with_told, has_changed}
use Rattle.startd_core.specs.Sound.{IsSlotAt}
use Rattle.startd_core.specs.Startds.{told, concluded, row_made, tells_at, ticked_slot, booted_slot}
use Rattle.startd_core.specs.TickTable.{after_tick_row}

-- ---- the part
settled_part : (boot : ℕ) (m : Machine) (slot : SlotId) (ad : Attributes) (s : SlotState) (offers : ℕ) → part_of_state boot slot ad (settled m slot s offers).state ≡ part_of_state boot slot ad s
settled_part boot m slot ad s offers = by_open (is_open s.pair)
  where
    by_offer : (o : Option ClaimId) → part_of_state boot slot ad (settled_open m slot o s offers).state ≡ part_of_state boot slot ad s
    by_offer None = refl
    by_offer (Some claim) = refl

    by_open : (opens : Bool) → part_of_state boot slot ad (if opens then settled_open m slot s.offer s offers else record { state = record s { offer = None }; offers = offers }).state ≡ part_of_state boot slot ad s
    by_open true = by_offer s.offer
    by_open false = refl

told_part : (boot : ℕ) (slot : Slot) (s : Settled) (mails : List Mail) (tells : Bool) (reading : ℕ) → part_of_state boot slot.id slot.ad (told slot s mails tells reading).state ≡ part_of_state boot slot.id slot.ad s.state
told_part boot slot s mails true reading = refl
told_part boot slot s mails false reading = refl

pub concluded_part : (m : Machine) (slot : Slot) (offers : ℕ) (r : Reaction) (reading : ℕ) → part_of m.boot (record slot { state = (concluded m slot offers r reading).state }) ≡ part_of m.boot (record slot { state = r.state })
concluded_part m slot offers r reading =
    let s = settled m slot.id r.state offers in
    told_part m.boot slot s r.mails (has_changed slot.state s.state) reading ∙ settled_part m.boot m slot.id slot.ad r.state offers

pub ticked_part : (m : Machine) (settings : Settings) (slot : Slot) (r : TickRow) (reading : ℕ) (t : Ticks) → part_of m.boot (record slot { state = (ticked_slot m settings slot r reading t).state }) ≡ part_of m.boot (record slot { state = after_tick_row r reading slot.state })
ticked_part m settings slot r reading t =
    let s = row_made m slot r t.offers reading in
    told_part m.boot slot s t.mails (tells_at slot s.state settings reading) reading ∙ settled_part m.boot m slot.id slot.ad (after_tick_row r reading slot.state) t.offers

pub booted_part : (boot : ℕ) (slot : Slot) (reading : ℕ) (t : Ticks) → part_of boot (record slot { state = (booted_slot slot reading t).state }) ≡ part_of boot (record slot { state = slot_after_boot reading })
booted_part boot slot reading t =
    told_part boot slot (record { state = slot_after_boot reading; offers = t.offers }) t.mails (has_changed slot.state (slot_after_boot reading)) reading

-- ---- runs that are over
one_more : (Is : RunNo → Type 0) (mails : List Mail) (mail : Mail) → SayOver Is mails → IfSome (run_said_over mail) Is → SayOver Is (mails ++ mail ∷ [])
one_more Is [] mail all one = (one, tt)
one_more Is (x ∷ xs) mail all one = (all.0, one_more Is xs mail all.1 one)

-- an Update says of no run that it is over
pub told_says : (Is : RunNo → Type 0) (slot : Slot) (s : Settled) (mails : List Mail) (tells : Bool) (reading : ℕ) → SayOver Is mails → SayOver Is (told slot s mails tells reading).mails
told_says Is slot s mails true reading all = one_more Is mails (update_of slot (with_told reading s.state) reading) all tt
told_says Is slot s mails false reading all = all

pub concluded_says : (Is : RunNo → Type 0) (m : Machine) (slot : Slot) (offers : ℕ) (r : Reaction) (reading : ℕ) → SayOver Is r.mails → SayOver Is (concluded m slot offers r reading).mails
concluded_says Is m slot offers r reading all =
    let s = settled m slot.id r.state offers in
    told_says Is slot s r.mails (has_changed slot.state s.state) reading all

settled_over : (boot : ℕ) (m : Machine) (slot : SlotId) (s : SlotState) (offers : ℕ) (mails : List Mail) → SayOnlyOver boot s mails → SayOnlyOver boot (settled m slot s offers).state mails
settled_over boot m slot s offers mails over = by_open (is_open s.pair)
  where
    by_offer : (o : Option ClaimId) → SayOnlyOver boot (settled_open m slot o s offers).state mails
    by_offer None = over
    by_offer (Some claim) = over

    by_open : (opens : Bool) → SayOnlyOver boot (if opens then settled_open m slot s.offer s offers else record { state = record s { offer = None }; offers = offers }).state mails
    by_open true = by_offer s.offer
    by_open false = over

told_over : (boot : ℕ) (slot : Slot) (s : Settled) (mails : List Mail) (tells : Bool) (reading : ℕ) → SayOnlyOver boot s.state mails → SayOnlyOver boot (told slot s mails tells reading).state (told slot s mails tells reading).mails
told_over boot slot s mails true reading over = one_more (IsOver boot (with_told reading s.state)) mails (update_of slot (with_told reading s.state) reading) over tt
told_over boot slot s mails false reading over = over

concluded_over : (m : Machine) (slot : Slot) (offers : ℕ) (r : Reaction) (reading : ℕ) → SayOnlyOver m.boot r.state r.mails → SayOnlyOver m.boot (concluded m slot offers r reading).state (concluded m slot offers r reading).mails
concluded_over m slot offers r reading over =
    let s = settled m slot.id r.state offers in
    told_over m.boot slot s r.mails (has_changed slot.state s.state) reading (settled_over m.boot m slot.id r.state offers r.mails over)

pub mail_says : (m : Machine) (place : ℕ) (slot : Slot) (offers : ℕ) (mail : Mail) (judged : Option Judgement) (reading : ℕ) → IsSlotAt m place slot
    → SayOnlyOver m.boot (concluded m slot offers (reaction_to m.boot slot mail judged reading) reading).state (concluded m slot offers (reaction_to m.boot slot mail judged reading) reading).mails
mail_says m place slot offers mail judged reading at =
    concluded_over m slot offers (reaction_to m.boot slot mail judged reading) reading (mail_over m.boot slot mail judged reading at.consistent)

pub end_says : (m : Machine) (place : ℕ) (slot : Slot) (offers : ℕ) (ending : Ending) (reading : ℕ) → runs_on slot.state ending.run ≡ true → IsSlotAt m place slot
    → SayOnlyOver m.boot (concluded m slot offers (after_ending ending reading slot.state) reading).state (concluded m slot offers (after_ending ending reading slot.state) reading).mails
end_says m place slot offers ending reading here at =
    concluded_over m slot offers (after_ending ending reading slot.state) reading (end_over m.boot slot.id slot.state ending reading here at.consistent)
