-- What the end of a run makes of its slot.
use Rattle.std.specs.Prelude.{ℕ, ℤ, [], ◌∷◌, Option, Some, None, if◌then◌else◌}
use Rattle.pool_mail.specs.declared.end.End.{End}
use Rattle.pool_mail.specs.declared.end.End.TheVariants as ends
use Rattle.pool_mail.specs.declared.end.Ending.{Ending}
use Rattle.pool_mail.specs.declared.end.How.{How}
use Rattle.pool_mail.specs.declared.end.How.TheVariants as how
use Rattle.pool_mail.specs.declared.mail.Mail.{Mail}
use Rattle.pool_mail.specs.declared.mail.Mail.TheVariants.{Ended, Granted}
use Rattle.claim_id.specs.declared.pair.Cue.TheVariants.{Rest, Finish, Handover}
use Rattle.startd_slot.specs.declared.held.Mark.{Mark}
use Rattle.startd_slot.specs.declared.held.Mark.TheVariants as mark
use Rattle.startd_slot.specs.declared.held.Rival.{Rival}
use Rattle.startd_slot.specs.declared.held.Running.{Running}
use Rattle.startd_slot.specs.declared.reaction.Reaction.{Reaction}
use Rattle.startd_slot.specs.declared.slot.SlotState.{SlotState}
use Rattle.startd_slot.specs.Reactions.{says}
use Rattle.startd_slot.specs.ReleaseTable.{is_busy}
use Rattle.startd_slot.specs.SlotStates.{running_of, after_cue, with_claim, without_claim, without_run}

-- a run that a signal ended: told to go, or not
abbrev pub how_signalled : ℤ → Option Mark → How
how_signalled number None = how.Signalled number
how_signalled number (Some mark.Stopped) = how.Stopped
how_signalled number (Some mark.Evicted) = how.Evicted

-- how a run ended whose program ended so
abbrev pub how_of : End → Option Mark → How
how_of (ends.Exited status) mark = how.Exited status
how_of ends.NotStarted mark = how.NotStarted
how_of (ends.Signalled number) mark = how_signalled number mark

abbrev pub mark_in : Option Running → Option Mark
mark_in None = None
mark_in (Some running) = running.mark

-- the claim that waits takes the slot, whose own has ended
abbrev pub handed_over : Rival → ℕ → SlotState → SlotState
handed_over rival reading s = after_cue Handover reading
    (with_claim rival.claim rival.user rival.rank reading (record s { rival = None }))

-- the claim has ended: it goes to the rival, or nobody has the slot
abbrev pub after_last_run : Option Rival → Mail → ℕ → SlotState → Reaction
after_last_run None told reading s = says (after_cue Finish reading s) (told ∷ [])
after_last_run (Some rival) told reading s =
    says (handed_over rival reading s) (told ∷ Granted rival.claim rival.job ∷ [])

-- the run has ended so
abbrev pub after_run : Ending → How → ℕ → SlotState → Reaction
after_run ending how reading s = if is_busy s.pair
    then says (after_cue Rest reading (without_run ending.run how reading s))
    (Ended ending.run how ∷ [])
    else after_last_run s.rival (Ended ending.run how) reading
    (without_claim (without_run ending.run how reading s))

abbrev pub after_ending : Ending → ℕ → SlotState → Reaction
after_ending ending reading s =
    after_run ending (how_of ending.end (mark_in (running_of s))) reading s
