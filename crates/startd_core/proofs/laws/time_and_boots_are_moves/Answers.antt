use Rattle.startd_core.proofs.TimeRows.{slot_changes, slot_may, boot_changes, boot_moves_may}
use Rattle.startd_core.proofs.laws.time_and_boots_are_moves.Goals as goal

pub returns-clause-ticks : goal.returns-clause-ticks
returns-clause-ticks c = slot_changes

pub returns-clause-ticks_may : goal.returns-clause-ticks_may
returns-clause-ticks_may c = slot_may

pub returns-clause-boots : goal.returns-clause-boots
returns-clause-boots c = boot_changes

pub returns-clause-boots_may : goal.returns-clause-boots_may
returns-clause-boots_may c = boot_moves_may
