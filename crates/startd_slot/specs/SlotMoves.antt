-- A slot as a part of the protocol, and the moves that its reactions are.
use Rattle.std.specs.Prelude.{◌≡◌, ℕ, ◌≤◌, Bool, List, [], ◌∷◌, Option, Some, None, is_some, option_map, nat_lt, if◌then◌else◌}
use Rattle.ad_tree.specs.Ad.{Attributes}
use Rattle.ad_eval.specs.Judgement.{Judgement}
use Rattle.ad_eval.specs.Match.{rank_of}
use Rattle.claim_id.specs.declared.numbers.ClaimId.{ClaimId}
use Rattle.claim_id.specs.declared.numbers.RunNo.{RunNo}
use Rattle.claim_id.specs.declared.numbers.SlotId.{SlotId}
use Rattle.pool_mail.specs.declared.end.Ending.{Ending}
use Rattle.pool_mail.specs.declared.end.How.{How}
use Rattle.pool_mail.specs.declared.mail.Mail.{Mail}
use Rattle.pool_mail.specs.declared.mail.Mail.TheVariants.{Ask, Activate, Alive, Stop, Release}
use Rattle.pool_view.specs.Protocol.{Lease, Protocol}
use Rattle.pool_view.specs.ProtocolMove.{ProtocolMove, EndClaim, ExtendRun, HoldClaim, Reboot, SayGone, StartRun, StopRun, UseNumber}
use Rattle.pool_view.specs.SlotPart.{SlotPart}
use Rattle.pool_view.specs.AbstractPool.{IsIn}
use Rattle.pool_view.specs.Ads.{core_of}
use Rattle.pool_view.specs.declared.mark.HeldClaim.{HeldClaim}
use Rattle.pool_view.specs.declared.mark.SlotMark.{SlotMark}
use Rattle.pool_view.specs.declared.run.Run.{Run}
use Rattle.startd_slot.specs.declared.ask.AskRow.{AskRow}
use Rattle.startd_slot.specs.declared.ask.AskRow.TheVariants as asked
use Rattle.startd_slot.specs.declared.ask.ReleaseRow.{ReleaseRow}
use Rattle.startd_slot.specs.declared.ask.ReleaseRow.TheVariants as release
use Rattle.startd_slot.specs.declared.held.Held.{Held}
use Rattle.startd_slot.specs.declared.held.Rival.{Rival}
use Rattle.startd_slot.specs.declared.held.Running.{Running}
use Rattle.startd_slot.specs.declared.run_mails.Activation.{Activation}
use Rattle.startd_slot.specs.declared.run_mails.ActivateRow.{ActivateRow}
use Rattle.startd_slot.specs.declared.run_mails.ActivateRow.TheVariants as activation
use Rattle.startd_slot.specs.declared.run_mails.KnownRun.{KnownRun}
use Rattle.startd_slot.specs.declared.run_mails.KnownRun.TheVariants as known
use Rattle.startd_slot.specs.declared.slot.Slot.{Slot}
use Rattle.startd_slot.specs.declared.slot.SlotState.{SlotState}
use Rattle.startd_slot.specs.ActivateTable.{activate_row, run_of}
use Rattle.startd_slot.specs.AskTable.{ask_row}
use Rattle.startd_slot.specs.EndingTable.{how_of, mark_in}
use Rattle.startd_slot.specs.ReleaseTable.{is_busy, release_row}
use Rattle.startd_slot.specs.RunTable.{known_run}
use Rattle.startd_slot.specs.SlotStates.{running_of}

-- ---- the part
abbrev pub held_mark : Held → HeldClaim
held_mark h = record { claim = h.claim.no; last = h.last }

abbrev pub mark_of : ℕ → SlotState → SlotMark
mark_of boot s = record { boot = boot; ended = s.passed; held = option_map held_mark s.held }

abbrev pub run_in_slot : SlotId → Running → Run
run_in_slot slot r =
    record { slot = slot; run = r.run; job = r.job; until = r.until; judged = r.judged }

abbrev pub part_of_state : ℕ → SlotId → Attributes → SlotState → SlotPart
part_of_state boot slot ad s = record {
  slot = slot;
  ad = ad;
  mark = mark_of boot s;
  run = option_map (run_in_slot slot) (running_of s);
}

abbrev pub part_of : ℕ → Slot → SlotPart
part_of boot slot = part_of_state boot slot.id slot.ad slot.state

-- ---- the moves of a row
-- the held claim ends, and then
abbrev pub claim_ends : Option Held → List ProtocolMove → List ProtocolMove
claim_ends None moves = moves
claim_ends (Some h) moves = EndClaim h.claim.no ∷ moves

abbrev pub moves_of_ask : AskRow → ClaimId → SlotState → List ProtocolMove
moves_of_ask asked.NotOffered claim s = []
moves_of_ask asked.NotMatched claim s = []
moves_of_ask asked.Granted claim s = HoldClaim claim.no ∷ []
moves_of_ask (asked.RankTooLow old new) claim s = []
moves_of_ask asked.HandedOver claim s = claim_ends s.held (HoldClaim claim.no ∷ [])
moves_of_ask asked.MadeRival claim s = []

-- the run's number is used up, and the run is said to be gone
abbrev pub burns : RunNo → List ProtocolMove
burns run = UseNumber run ∷ SayGone run ∷ []

abbrev pub says_gone_where : Bool → RunNo → List ProtocolMove
says_gone_where spent run = if spent then SayGone run ∷ [] else []

abbrev pub starts_by : Option Judgement → SlotId → Activation → List ProtocolMove
starts_by None slot a = []
starts_by (Some judged) slot a = StartRun (run_in_slot slot (run_of a judged)) ∷ []

abbrev pub moves_of_activate
    : ActivateRow → SlotId → Activation → Option Judgement → List ProtocolMove
moves_of_activate (activation.NotHeld spent) slot a judged = says_gone_where spent a.run
moves_of_activate (activation.Spent last) slot a judged = []
moves_of_activate (activation.Occupied run) slot a judged = burns a.run
moves_of_activate activation.Past slot a judged = burns a.run
moves_of_activate activation.NotMatched slot a judged = burns a.run
moves_of_activate activation.Starts slot a judged = starts_by judged slot a

-- a word of a run that isn't here
abbrev pub moves_of_word : KnownRun → RunNo → List ProtocolMove
moves_of_word known.Running run = []
moves_of_word (known.Ended how) run = []
moves_of_word known.OfHeldClaim run = burns run
moves_of_word known.Spent run = SayGone run ∷ []
moves_of_word known.Unknown run = []

-- the run on the slot goes on until then, unless that is past
abbrev pub goes_on : Option Running → SlotId → ℕ → ℕ → List ProtocolMove
goes_on None slot until reading = []
goes_on (Some r) slot until reading = if nat_lt reading until
    then ExtendRun (run_in_slot slot r) until ∷ []
    else []

abbrev pub moves_of_alive
    : KnownRun → SlotState → SlotId → RunNo → ℕ → ℕ → List ProtocolMove
moves_of_alive known.Running s slot run until reading =
    goes_on (running_of s) slot until reading
moves_of_alive (known.Ended how) s slot run until reading = moves_of_word (known.Ended how) run
moves_of_alive known.OfHeldClaim s slot run until reading = moves_of_word known.OfHeldClaim run
moves_of_alive known.Spent s slot run until reading = moves_of_word known.Spent run
moves_of_alive known.Unknown s slot run until reading = moves_of_word known.Unknown run

abbrev pub moves_of_release : ReleaseRow → SlotState → List ProtocolMove
moves_of_release release.Finished s = claim_ends s.held []
moves_of_release release.Retiring s = []
moves_of_release release.RivalGone s = []
moves_of_release release.Nothing s = []

-- the moves of a mail
unfoldable pub moves_of_mail
    : ℕ → Slot → Mail → Option Judgement → ℕ → List ProtocolMove
moves_of_mail boot slot (Ask claim job ad by_priority) judged reading = moves_of_ask
    (ask_row slot.state (record { claim = claim; job = job; by_priority = by_priority })
    (is_some judged) (rank_of slot.ad ad reading)) claim slot.state
moves_of_mail boot slot (Activate run job ad until) judged reading = moves_of_activate
    (activate_row slot.state boot (record { run = run; job = job; until = until })
    (is_some judged) reading)
    slot.id (record { run = run; job = job; until = until }) judged
moves_of_mail boot slot (Alive run until) judged reading =
    moves_of_alive (known_run slot.state boot run) slot.state slot.id run until reading
moves_of_mail boot slot (Stop run) judged reading =
    moves_of_word (known_run slot.state boot run) run
moves_of_mail boot slot (Release claim) judged reading =
    moves_of_release (release_row slot.state claim) slot.state
moves_of_mail boot slot _ judged reading = []

-- ---- the end of a run
-- the rival is held
abbrev pub rival_holds : Option Rival → List ProtocolMove
rival_holds None = []
rival_holds (Some rival) = HoldClaim rival.claim.no ∷ []

abbrev pub run_stops : Option Running → SlotId → Option How → List ProtocolMove → List ProtocolMove
run_stops None slot how moves = moves
run_stops (Some r) slot how moves = StopRun (run_in_slot slot r) how ∷ moves

-- outside Claimed/Busy the claim ends too
abbrev pub moves_of_end : Slot → Ending → List ProtocolMove
moves_of_end slot ending = run_stops (running_of slot.state) slot.id
    (Some (how_of ending.end (mark_in (running_of slot.state))))
    (if is_busy slot.state.pair
    then []
    else claim_ends slot.state.held (rival_holds slot.state.rival))

-- ---- a boot
abbrev pub moves_of_boot : ℕ → Slot → List ProtocolMove
moves_of_boot boot slot =
    run_stops (running_of slot.state) slot.id None (Reboot slot.id boot ∷ [])

-- ---- what was told
-- An Activate and an Alive that were sent have their lease.
abbrev pub IsTold : Protocol → Mail → Type 0
IsTold p (Activate run job ad until) = (l : Lease) × IsIn l p.leases
    × (l.run ≡ run) × (l.job ≡ job) × (l.core ≡ core_of ad) × (until ≤ l.until)
IsTold p (Alive run until) =
    (l : Lease) × IsIn l p.leases × (l.run ≡ run) × (until ≤ l.until)
IsTold p _ = Unit {0}

-- the match of a mail is that of the ad that it carries and the slot's
abbrev pub IsJudgedHere : Slot → Mail → Judgement → Type 0
IsJudgedHere slot (Activate run job ad until) j = (j.job ≡ ad) × (j.slot ≡ slot.ad)
IsJudgedHere slot _ j = Unit {0}
