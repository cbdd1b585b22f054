-- A slot says only the run to be over that a mail names, or that has ended.
use Rattle.std.proofs.Common.{◌≡◌, ℕ, ℤ, Bool, true, false, List, [], ◌∷◌, Option, Some, None, is_some, refl, if◌then◌else◌}
use Rattle.ad_eval.specs.Judgement.{Judgement}
use Rattle.ad_eval.specs.Match.{rank_of}
use Rattle.claim_id.specs.declared.numbers.RunNo.{RunNo}
use Rattle.job_launch.specs.Launches.{launch_of}
use Rattle.pool_mail.specs.Ads.{owner_of}
use Rattle.pool_mail.specs.declared.end.Ending.{Ending}
use Rattle.pool_mail.specs.declared.end.How.{How}
use Rattle.pool_mail.specs.declared.mail.Mail.{Mail}
use Rattle.pool_mail.specs.declared.mail.Mail.TheVariants.{Update, Matched, Ask, Granted, Denied, Activate, Alive, Seen, Stop, Release, Gone, Ended, Remove, Hold, Resume}
use Rattle.pool_outer.specs.declared.spawner.Launch.{Launch}
use Rattle.claim_id.specs.declared.pair.Cue.TheVariants as cue
use Rattle.startd_slot.specs.declared.ask.AskRow.{AskRow}
use Rattle.startd_slot.specs.declared.ask.AskRow.TheVariants as asked_row
use Rattle.startd_slot.specs.declared.ask.Asked.{Asked}
use Rattle.startd_slot.specs.declared.held.Rival.{Rival}
use Rattle.startd_slot.specs.declared.run_mails.Activation.{Activation}
use Rattle.startd_slot.specs.declared.run_mails.ActivateRow.{ActivateRow}
use Rattle.startd_slot.specs.declared.run_mails.ActivateRow.TheVariants as row
use Rattle.startd_slot.specs.declared.run_mails.KnownRun.{KnownRun}
use Rattle.startd_slot.specs.declared.run_mails.KnownRun.TheVariants as known
use Rattle.startd_slot.specs.declared.slot.Slot.{Slot}
use Rattle.startd_slot.specs.declared.slot.SlotState.{SlotState}
use Rattle.startd_slot.specs.ActivateTable.{activate_row, after_activate_row, gone_where}
use Rattle.startd_slot.specs.AskTable.{ask_row, after_ask_row}
use Rattle.startd_slot.specs.EndingTable.{after_ending, after_last_run, how_of, mark_in}
use Rattle.startd_slot.specs.Mails.{reaction_to}
use Rattle.startd_slot.specs.Over.{SayOver, named_run}
use Rattle.startd_slot.specs.Reactions.{says}
use Rattle.startd_slot.specs.ReleaseTable.{is_busy}
use Rattle.startd_slot.specs.RunTable.{known_run, after_alive_of, after_stop_of}
use Rattle.startd_slot.specs.SlotStates.{after_cue, heard_of, running_of, without_claim, without_run}

-- ---- what holds of the run that is named holds of all that the rows say to be over
ask_names : (Is : RunNo → Type 0) (r : AskRow) (asked : Asked) (user : List ℕ) (rank : ℤ) (reading : ℕ) (s : SlotState) → SayOver Is (after_ask_row r asked user rank reading s).mails
ask_names Is asked_row.NotOffered asked user rank reading s = (tt, tt)
ask_names Is asked_row.NotMatched asked user rank reading s = (tt, tt)
ask_names Is asked_row.Granted asked user rank reading s = (tt, tt)
ask_names Is (asked_row.RankTooLow old new) asked user rank reading s = (tt, tt)
ask_names Is asked_row.HandedOver asked user rank reading s = (tt, tt)
ask_names Is asked_row.MadeRival asked user rank reading s = tt

gone_names : (Is : RunNo → Type 0) (spent : Bool) (run : RunNo) → Is run → SayOver Is (gone_where spent run)
gone_names Is true run is = (is, tt)
gone_names Is false run is = tt

activate_names : (Is : RunNo → Type 0) (r : ActivateRow) (a : Activation) (what : Launch) (judged : Option Judgement) (reading : ℕ) (s : SlotState) → Is a.run → SayOver Is (after_activate_row r a what judged reading s).mails
activate_names Is (row.NotHeld spent) a what judged reading s is = (tt, gone_names Is spent a.run is)
activate_names Is (row.Spent last) a what judged reading s is = (tt, tt)
activate_names Is (row.Occupied run) a what judged reading s is = (tt, (is, tt))
activate_names Is row.Past a what judged reading s is = (tt, (is, tt))
activate_names Is row.NotMatched a what judged reading s is = (tt, (is, tt))
activate_names Is row.Starts a what None reading s is = tt
activate_names Is row.Starts a what (Some judged) reading s is = (tt, tt)

alive_names : (Is : RunNo → Type 0) (k : KnownRun) (run : RunNo) (until reading : ℕ) (s : SlotState) → Is run → SayOver Is (after_alive_of k run until reading s).mails
alive_names Is known.Running run until reading s is = (tt, tt)
alive_names Is (known.Ended how) run until reading s is = (is, tt)
alive_names Is known.OfHeldClaim run until reading s is = (is, tt)
alive_names Is known.Spent run until reading s is = (is, tt)
alive_names Is known.Unknown run until reading s is = tt

stop_names : (Is : RunNo → Type 0) (k : KnownRun) (run : RunNo) (s : SlotState) → Is run → SayOver Is (after_stop_of k run s).mails
stop_names Is known.Running run s is = tt
stop_names Is (known.Ended how) run s is = (is, tt)
stop_names Is known.OfHeldClaim run s is = (is, tt)
stop_names Is known.Spent run s is = (is, tt)
stop_names Is known.Unknown run s is = tt

-- ---- mails
pub mail_names : (boot : ℕ) (slot : Slot) (mail : Mail) (judged : Option Judgement) (reading : ℕ) → SayOver (λ run. named_run mail ≡ Some run) (reaction_to boot slot mail judged reading).mails
unfolding reaction_to
mail_names boot slot (Matched found) judged reading = tt
mail_names boot slot (Ask claim job ad by_priority) judged reading =
    let asked : Asked = record { claim = claim; job = job; by_priority = by_priority } in
    ask_names (λ run. None ≡ Some run) (ask_row slot.state asked (is_some judged) (rank_of slot.ad ad reading)) asked (owner_of ad) (rank_of slot.ad ad reading) reading slot.state
mail_names boot slot (Activate run job ad until) judged reading =
    let a : Activation = record { run = run; job = job; until = until } in
    activate_names (λ x. Some run ≡ Some x) (activate_row slot.state boot a (is_some judged) reading) a (launch_of ad) judged reading (heard_of run.claim reading slot.state) refl
mail_names boot slot (Alive run until) judged reading =
    alive_names (λ x. Some run ≡ Some x) (known_run slot.state boot run) run until reading (heard_of run.claim reading slot.state) refl
mail_names boot slot (Stop run) judged reading = stop_names (λ x. Some run ≡ Some x) (known_run slot.state boot run) run slot.state refl
mail_names boot slot (Release claim) judged reading = tt
mail_names boot slot (Update s) judged reading = tt
mail_names boot slot (Granted claim job) judged reading = tt
mail_names boot slot (Denied claim run job why) judged reading = tt
mail_names boot slot (Seen run until) judged reading = tt
mail_names boot slot (Gone run kept) judged reading = tt
mail_names boot slot (Ended run how) judged reading = tt
mail_names boot slot (Remove job) judged reading = tt
mail_names boot slot (Hold job) judged reading = tt
mail_names boot slot (Resume job) judged reading = tt

-- ---- the end of a run
last_names : (o : Option Rival) (run : RunNo) (how : How) (reading : ℕ) (s : SlotState) → SayOver (λ x. x ≡ run) (after_last_run o (Ended run how) reading s).mails
last_names None run how reading s = (refl, tt)
last_names (Some rival) run how reading s = (refl, (tt, tt))

pub end_names : (s : SlotState) (ending : Ending) (reading : ℕ) → SayOver (λ run. run ≡ ending.run) (after_ending ending reading s).mails
end_names s ending reading = by_busy (is_busy s.pair) (how_of ending.end (mark_in (running_of s)))
  where
    by_busy : (busy : Bool) (how : How) → SayOver (λ run. run ≡ ending.run)
        (if busy then says (after_cue cue.Rest reading (without_run ending.run how reading s)) (Ended ending.run how ∷ []) else after_last_run s.rival (Ended ending.run how) reading (without_claim (without_run ending.run how reading s))).mails
    by_busy true how = (refl, tt)
    by_busy false how = last_names s.rival ending.run how reading (without_claim (without_run ending.run how reading s))
