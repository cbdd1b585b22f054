-- A slot and the mails that speak of it.
use Rattle.std.specs.Prelude.{ℕ, Bool, true, false, Option, Some, None, is_some}
use Rattle.ad_eval.specs.Judgement.{Judgement}
use Rattle.claim_id.specs.declared.numbers.ClaimNo.{ClaimNo}
use Rattle.pool_mail.specs.declared.mail.Mail.{Mail}
use Rattle.pool_mail.specs.declared.mail.Mail.TheVariants.{Matched, Ask, Activate, Alive, Stop, Release}
use Rattle.startd_slot.specs.declared.reaction.Reaction.{Reaction}
use Rattle.startd_slot.specs.declared.run_mails.ActivateRow.{ActivateRow}
use Rattle.startd_slot.specs.declared.run_mails.ActivateRow.TheVariants as activation
use Rattle.startd_slot.specs.declared.slot.Slot.{Slot}
use Rattle.startd_slot.specs.ActivateTable.{activate_row, after_activate}
use Rattle.startd_slot.specs.AskTable.{after_ask, after_matched}
use Rattle.startd_slot.specs.Reactions.{becomes}
use Rattle.startd_slot.specs.ReleaseTable.{after_release}
use Rattle.startd_slot.specs.RunTable.{after_alive, after_stop}
use Rattle.startd_slot.specs.SlotStates.{offers_claim}

-- the claim of which a mail to a startd speaks
abbrev pub asked_claim : Mail → Option ClaimNo
asked_claim (Matched found) = Some found.claim.no
asked_claim (Ask claim job ad by_priority) = Some claim.no
asked_claim (Activate run job ad until) = Some run.claim
asked_claim (Alive run until) = Some run.claim
asked_claim (Stop run) = Some run.claim
asked_claim (Release claim) = Some claim
asked_claim _ = None

-- what a mail makes of a slot, in its machine's boot
unfoldable pub reaction_to : ℕ → Slot → Mail → Option Judgement → ℕ → Reaction
reaction_to boot slot (Matched found) judged reading = after_matched found.claim reading slot.state
reaction_to boot slot (Ask claim job ad by_priority) judged reading =
    after_ask slot (record { claim = claim; job = job; by_priority = by_priority }) ad
    (is_some judged) reading
reaction_to boot slot (Activate run job ad until) judged reading =
    after_activate boot (record { run = run; job = job; until = until }) ad judged reading
    slot.state
reaction_to boot slot (Alive run until) judged reading =
    after_alive boot run until reading slot.state
reaction_to boot slot (Stop run) judged reading = after_stop boot run slot.state
reaction_to boot slot (Release claim) judged reading = after_release claim reading slot.state
reaction_to boot slot _ judged reading = becomes slot.state

-- ---- which mails are judged
-- an Activate where the want of a match would be what refuses it
abbrev pub is_judged_row : ActivateRow → Bool
is_judged_row (activation.NotHeld spent) = false
is_judged_row (activation.Spent last) = false
is_judged_row (activation.Occupied run) = false
is_judged_row activation.Past = false
is_judged_row activation.NotMatched = true
is_judged_row activation.Starts = false

-- a mail is judged with the slot's ad: an Ask for the claim that it offers, and such an Activate
abbrev pub is_judged : ℕ → Slot → Mail → ℕ → Bool
is_judged boot slot (Ask claim job ad by_priority) reading = offers_claim slot.state claim
is_judged boot slot (Activate run job ad until) reading = is_judged_row
    (activate_row slot.state boot (record { run = run; job = job; until = until }) false reading)
is_judged boot slot _ reading = false
