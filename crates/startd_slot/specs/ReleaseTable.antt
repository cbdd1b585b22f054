-- What becomes of a claim that is given up.
use Rattle.std.specs.Prelude.{ℕ, Bool, true, false, Option, Some, None, if◌then◌else◌}
use Rattle.claim_id.specs.declared.numbers.ClaimNo.{ClaimNo}
use Rattle.claim_id.specs.declared.pair.Cue.TheVariants.{Finish, Retire}
use Rattle.claim_id.specs.declared.pair.Pair.{Pair}
use Rattle.claim_id.specs.declared.pair.Pair.TheVariants.{ClaimedBusy}
use Rattle.startd_slot.specs.declared.ask.ReleaseRow.{ReleaseRow}
use Rattle.startd_slot.specs.declared.ask.ReleaseRow.TheVariants as row
use Rattle.startd_slot.specs.declared.held.Running.{Running}
use Rattle.startd_slot.specs.declared.reaction.Reaction.{Reaction}
use Rattle.startd_slot.specs.declared.slot.SlotState.{SlotState}
use Rattle.startd_slot.specs.Reactions.{becomes}
use Rattle.startd_slot.specs.SlotStates.{holds_claim, has_rival, running_of, after_cue, without_claim}

abbrev pub is_busy : Pair → Bool
is_busy ClaimedBusy = true
is_busy _ = false

-- the claim is held: without run, or with one in Claimed/Busy
abbrev pub held_row : Option Running → Pair → ReleaseRow
held_row None pair = row.Finished
held_row (Some running) pair = if is_busy pair then row.Retiring else row.Nothing

abbrev pub release_row : SlotState → ClaimNo → ReleaseRow
release_row s claim = if holds_claim s claim then held_row (running_of s) s.pair
    else (if has_rival s claim then row.RivalGone else row.Nothing)

abbrev pub after_release_row : ReleaseRow → ℕ → SlotState → SlotState
after_release_row row.Finished reading s = after_cue Finish reading (without_claim s)
after_release_row row.Retiring reading s = after_cue Retire reading s
after_release_row row.RivalGone reading s = record s { rival = None }
after_release_row row.Nothing reading s = s

abbrev pub after_release : ClaimNo → ℕ → SlotState → Reaction
after_release claim reading s = becomes (after_release_row (release_row s claim) reading s)
