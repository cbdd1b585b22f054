-- What becomes of an Alive and of a Stop: what is known here of the run, and what that does.
use Rattle.std.specs.Prelude.{ℕ, Bool, true, false, [], ◌∷◌, Option, Some, None, if◌then◌else◌}
use Rattle.claim_id.specs.declared.numbers.RunNo.{RunNo}
use Rattle.pool_mail.specs.declared.end.How.{How}
use Rattle.pool_mail.specs.declared.mail.Mail.TheVariants.{Ended, Gone, Seen}
use Rattle.pool_view.specs.Numbers.{same_run}
use Rattle.startd_slot.specs.declared.held.Held.{Held}
use Rattle.startd_slot.specs.declared.held.Running.{Running}
use Rattle.startd_slot.specs.declared.reaction.Reaction.{Reaction}
use Rattle.startd_slot.specs.declared.reaction.Task.TheVariants.{Kill}
use Rattle.startd_slot.specs.declared.run_mails.KnownRun.{KnownRun}
use Rattle.startd_slot.specs.declared.run_mails.KnownRun.TheVariants as known
use Rattle.startd_slot.specs.declared.slot.SlotState.{SlotState}
use Rattle.startd_slot.specs.Reactions.{says, becomes}
use Rattle.startd_slot.specs.SlotStates.{runs_on, running_of, held_of, is_spent, heard_of, with_number, with_running, lengthened, stopped}

-- ---- what is known of a run
-- of a claim that is held: its last ended run, or another
abbrev pub ended_or_other : Option (RunNo × How) → RunNo → KnownRun
ended_or_other None run = known.OfHeldClaim
ended_or_other (Some ended) run =
    if same_run ended.0 run then known.Ended ended.1 else known.OfHeldClaim

abbrev pub unheld_run : Bool → KnownRun
unheld_run spent = if spent then known.Spent else known.Unknown

abbrev pub known_by_claim : Option Held → Bool → RunNo → KnownRun
known_by_claim (Some held) spent run = ended_or_other held.ended run
known_by_claim None spent run = unheld_run spent

abbrev pub known_run : SlotState → ℕ → RunNo → KnownRun
known_run s boot run = if runs_on s run then known.Running
    else known_by_claim (held_of s run.claim) (is_spent s boot run) run

-- ---- a run that isn't here
abbrev pub after_word_of : KnownRun → RunNo → SlotState → Reaction
after_word_of known.Running run s = becomes s
after_word_of (known.Ended how) run s = says s (Ended run how ∷ [])
after_word_of known.OfHeldClaim run s = says (with_number run.number s) (Gone run true ∷ [])
after_word_of known.Spent run s = says s (Gone run false ∷ [])
after_word_of known.Unknown run s = becomes s

-- ---- an Alive
abbrev pub end_of_lease : Option Running → ℕ → ℕ
end_of_lease None until = until
end_of_lease (Some running) until = running.until

-- the end of the lease of the run on the slot
abbrev pub until_of : SlotState → ℕ → ℕ
until_of s until = end_of_lease (running_of s) until

-- a lease goes on, and it is told till when
abbrev pub seen_again : RunNo → ℕ → SlotState → Reaction
seen_again run until s = says s (Seen run (until_of s until) ∷ [])

abbrev pub after_alive_of : KnownRun → RunNo → ℕ → ℕ → SlotState → Reaction
after_alive_of known.Running run until reading s =
    seen_again run until (with_running (lengthened until reading) s)
after_alive_of (known.Ended how) run until reading s = after_word_of (known.Ended how) run s
after_alive_of known.OfHeldClaim run until reading s = after_word_of known.OfHeldClaim run s
after_alive_of known.Spent run until reading s = after_word_of known.Spent run s
after_alive_of known.Unknown run until reading s = after_word_of known.Unknown run s

-- its claim is heard of
abbrev pub after_alive : ℕ → RunNo → ℕ → ℕ → SlotState → Reaction
after_alive boot run until reading s =
    after_alive_of (known_run s boot run) run until reading (heard_of run.claim reading s)

-- ---- a Stop
abbrev pub after_stop_of : KnownRun → RunNo → SlotState → Reaction
after_stop_of known.Running run s = record {
  state = with_running stopped s;
  mails = [];
  task = Kill run;
}
after_stop_of (known.Ended how) run s = after_word_of (known.Ended how) run s
after_stop_of known.OfHeldClaim run s = after_word_of known.OfHeldClaim run s
after_stop_of known.Spent run s = after_word_of known.Spent run s
after_stop_of known.Unknown run s = after_word_of known.Unknown run s

abbrev pub after_stop : ℕ → RunNo → SlotState → Reaction
after_stop boot run s = after_stop_of (known_run s boot run) run s
