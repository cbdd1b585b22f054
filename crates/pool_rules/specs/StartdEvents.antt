-- What an event of a startd makes of the parts of a pool, and the moves that it is.
use Rattle.std.specs.Prelude.{ℕ, ◌+◌, max, Bool, List, [], ◌∷◌, ◌++◌, slice_set, Option, Some, None, if◌then◌else◌}
use Rattle.ad_eval.specs.Judgement.{Judgement}
use Rattle.pool_mail.specs.declared.end.Ending.{Ending}
use Rattle.pool_mail.specs.declared.mail.Mail.{Mail}
use Rattle.pool_view.specs.ProtocolMove.{ProtocolMove}
use Rattle.pool_view.specs.declared.run.EndReport.{EndReport}
use Rattle.startd_slot.specs.declared.held.Running.{Running}
use Rattle.startd_slot.specs.declared.slot.Slot.{Slot}
use Rattle.startd_slot.specs.EndingTable.{how_of}
use Rattle.startd_slot.specs.Mails.{asked_claim}
use Rattle.startd_slot.specs.SlotMoves.{moves_of_boot, moves_of_end, moves_of_mail}
use Rattle.startd_slot.specs.SlotStates.{running_of, runs_on}
use Rattle.startd_core.specs.Startds.{After, StartdValue, slot_of, slot_of_claim}
use Rattle.startd_core.specs.TickTable.{slot_row}
use Rattle.startd_core.specs.TimeMoves.{moves_of_tick}
use Rattle.pool_rules.specs.PoolParts.{PoolParts}

-- a later reading was taken
abbrev pub parts_at_reading : ℕ → PoolParts → PoolParts
parts_at_reading reading a = record a { moment = max a.moment reading }

-- the startd of a machine stands so, has sent mails, and has said the ends of runs
abbrev pub parts_with_startd : ℕ → After → List EndReport → PoolParts → PoolParts
parts_with_startd machine after reports a = record a {
  startds = slice_set a.startds machine after.startd;
  mails = a.mails ++ after.step.mails;
  reports = reports ++ a.reports;
}

-- ---- a mail
abbrev pub moves_in_slot : ℕ → Option Slot → Mail → Option Judgement → ℕ → List ProtocolMove
moves_in_slot boot None mail judged reading = []
moves_in_slot boot (Some slot) mail judged reading = moves_of_mail boot slot mail judged reading

-- those of the slot of which it speaks
abbrev pub moves_of_startd_mail : StartdValue → Mail → Option Judgement → ℕ → List ProtocolMove
moves_of_startd_mail v mail judged reading =
    moves_in_slot v.machine.boot (slot_of_claim v (asked_claim mail)) mail judged reading

-- ---- the end of a run
-- that of the run that is there
abbrev pub end_report_of : Option Running → Ending → List EndReport
end_report_of None ending = []
end_report_of (Some r) ending = record {
  run = r.run;
  job = r.job;
  how = how_of ending.end r.mark;
} ∷ []

abbrev pub report_where : Bool → Slot → Ending → List EndReport
report_where here slot ending = if here then end_report_of (running_of slot.state) ending else []

abbrev pub reports_in_slot : Option Slot → Ending → List EndReport
reports_in_slot None ending = []
reports_in_slot (Some slot) ending = report_where (runs_on slot.state ending.run) slot ending

abbrev pub reports_of_end : StartdValue → Ending → List EndReport
reports_of_end v ending = reports_in_slot (slot_of v ending.run.claim.slot) ending

abbrev pub ends_where : Bool → Slot → Ending → List ProtocolMove
ends_where here slot ending = if here then moves_of_end slot ending else []

abbrev pub ends_in_slot : Option Slot → Ending → List ProtocolMove
ends_in_slot None ending = []
ends_in_slot (Some slot) ending = ends_where (runs_on slot.state ending.run) slot ending

abbrev pub moves_of_ended_run : StartdValue → Ending → List ProtocolMove
moves_of_ended_run v ending = ends_in_slot (slot_of v ending.run.claim.slot) ending

-- ---- ticks and boots
-- the slots move one after the other
abbrev pub moves_of_all : (Slot → List ProtocolMove) → List Slot → List ProtocolMove
moves_of_all moves [] = []
moves_of_all moves (slot ∷ slots) = moves slot ++ moves_of_all moves slots

abbrev pub moves_of_ticks : StartdValue → ℕ → List ProtocolMove
moves_of_ticks v reading =
    moves_of_all (λ slot. moves_of_tick (slot_row slot v.settings reading) slot.state) v.slots

abbrev pub moves_of_boots : StartdValue → List ProtocolMove
moves_of_boots v = moves_of_all (moves_of_boot (v.machine.boot + 1)) v.slots
