use Rattle.std.proofs.Common.{◌+◌, Option, ap, sym, ◌∙◌}
use Rattle.pool_state.specs.Readings.{boot_of}
use Rattle.pool_tables.specs.declared.states.DaemonState.{DaemonState}
use Rattle.pool_core.proofs.daemons.next_boot.Goals as goal

pub returns-in-Some-checked_add-clause-boot : goal.returns-in-Some-checked_add-clause-boot
returns-in-Some-checked_add-clause-boot c =
    c.in-Some-checked_add.ensures.1 ∙ ap (λ (o : Option DaemonState). boot_of o + 1) (sym c.in-Some.is ∙ c.get.ensures)
