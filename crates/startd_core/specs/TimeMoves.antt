-- What a tick is to a slot: the cue that each row brings, and the moves of the protocol that it is.
use Rattle.std.specs.Prelude.{List, [], Option, Some, None}
use Rattle.pool_view.specs.ProtocolMove.{ProtocolMove}
use Rattle.claim_id.specs.declared.pair.Cue.{Cue}
use Rattle.claim_id.specs.declared.pair.Cue.TheVariants as cue
use Rattle.startd_slot.specs.declared.slot.SlotState.{SlotState}
use Rattle.startd_slot.specs.SlotMoves.{claim_ends}
use Rattle.startd_core.specs.declared.tick.TickRow.{TickRow}
use Rattle.startd_core.specs.declared.tick.TickRow.TheVariants as row

abbrev pub cue_of_tick : TickRow → Option Cue
cue_of_tick row.StartOn = Some cue.StartOn
cue_of_tick row.StartOff = Some cue.StartOff
cue_of_tick row.Lapse = Some cue.Lapse
cue_of_tick row.Finish = Some cue.Finish
cue_of_tick row.KillPast = Some cue.Kill
cue_of_tick row.Vacate = Some cue.Vacate
cue_of_tick row.KillVacating = Some cue.Kill
cue_of_tick row.Nothing = None

abbrev pub moves_of_tick : TickRow → SlotState → List ProtocolMove
moves_of_tick row.StartOn s = []
moves_of_tick row.StartOff s = []
moves_of_tick row.Lapse s = []
moves_of_tick row.Finish s = claim_ends s.held []
moves_of_tick row.KillPast s = []
moves_of_tick row.Vacate s = []
moves_of_tick row.KillVacating s = []
moves_of_tick row.Nothing s = []
