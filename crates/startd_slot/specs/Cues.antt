-- The cue that each row brings to a slot, and where it leads.
use Rattle.std.specs.Prelude.{◌≡◌, ℕ, ◌&&◌, Option, Some, None, is_some, if◌then◌else◌}
use Rattle.ad_eval.specs.Judgement.{Judgement}
use Rattle.ad_eval.specs.Match.{rank_of}
use Rattle.pool_mail.specs.declared.mail.Mail.{Mail}
use Rattle.pool_mail.specs.declared.mail.Mail.TheVariants.{Matched, Ask, Activate, Release}
use Rattle.claim_id.specs.declared.pair.Cue.{Cue}
use Rattle.claim_id.specs.declared.pair.Cue.TheVariants as cue
use Rattle.claim_id.specs.declared.pair.Pair.{Pair}
use Rattle.claim_id.specs.SlotTable.{next_of}
use Rattle.startd_slot.specs.declared.ask.AskRow.{AskRow}
use Rattle.startd_slot.specs.declared.ask.AskRow.TheVariants as asked
use Rattle.startd_slot.specs.declared.ask.ReleaseRow.{ReleaseRow}
use Rattle.startd_slot.specs.declared.ask.ReleaseRow.TheVariants as release
use Rattle.startd_slot.specs.declared.held.Rival.{Rival}
use Rattle.startd_slot.specs.declared.run_mails.ActivateRow.{ActivateRow}
use Rattle.startd_slot.specs.declared.run_mails.ActivateRow.TheVariants as activation
use Rattle.startd_slot.specs.declared.slot.Slot.{Slot}
use Rattle.startd_slot.specs.declared.slot.SlotState.{SlotState}
use Rattle.startd_slot.specs.ActivateTable.{activate_row}
use Rattle.startd_slot.specs.AskTable.{ask_row, is_unclaimed}
use Rattle.startd_slot.specs.ReleaseTable.{is_busy, release_row}
use Rattle.startd_slot.specs.SlotStates.{offers_claim}

-- ---- the cue of a row
abbrev pub cue_of_ask : AskRow → Option Cue
cue_of_ask asked.NotOffered = None
cue_of_ask asked.NotMatched = None
cue_of_ask asked.Granted = Some cue.Grant
cue_of_ask (asked.RankTooLow old new) = None
cue_of_ask asked.HandedOver = Some cue.Handover
cue_of_ask asked.MadeRival = Some cue.Retire

abbrev pub cue_of_activate : ActivateRow → Option Cue
cue_of_activate (activation.NotHeld spent) = None
cue_of_activate (activation.Spent last) = None
cue_of_activate (activation.Occupied run) = None
cue_of_activate activation.Past = None
cue_of_activate activation.NotMatched = None
cue_of_activate activation.Starts = Some cue.Begin

abbrev pub cue_of_release : ReleaseRow → Option Cue
cue_of_release release.Finished = Some cue.Finish
cue_of_release release.Retiring = Some cue.Retire
cue_of_release release.RivalGone = None
cue_of_release release.Nothing = None

-- the cue of a mail
unfoldable pub cue_of_mail : ℕ → Slot → Mail → Option Judgement → ℕ → Option Cue
cue_of_mail boot slot (Matched found) judged reading =
    if is_unclaimed slot.state.pair && offers_claim slot.state found.claim
    then Some cue.Match
    else None
cue_of_mail boot slot (Ask claim job ad by_priority) judged reading = cue_of_ask
    (ask_row slot.state (record { claim = claim; job = job; by_priority = by_priority })
    (is_some judged) (rank_of slot.ad ad reading))
cue_of_mail boot slot (Activate run job ad until) judged reading = cue_of_activate
    (activate_row slot.state boot (record { run = run; job = job; until = until })
    (is_some judged) reading)
cue_of_mail boot slot (Release claim) judged reading =
    cue_of_release (release_row slot.state claim)
cue_of_mail boot slot _ judged reading = None

-- the cue of the end of a run outside Claimed/Busy
abbrev pub cue_of_last_run : Option Rival → Cue
cue_of_last_run None = cue.Finish
cue_of_last_run (Some rival) = cue.Handover

abbrev pub cue_of_end : SlotState → Cue
cue_of_end s = if is_busy s.pair then cue.Rest else cue_of_last_run s.rival

-- ---- where it leads
-- by the table of slot states, which knows the cue there; without cue the pair stays
abbrev pub LeadsTo : Option Cue → Pair → Pair → Type 0
LeadsTo None from to = to ≡ from
LeadsTo (Some by) from to = next_of from by ≡ Some to
