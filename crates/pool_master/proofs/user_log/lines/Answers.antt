use Rattle.std.proofs.Common.{IfOk, string_bytes, subst, sym}
use Rattle.thin_pool.specs.declared.event.Event.{Event}
use Rattle.pool_master.specs.UserLog.{IsLines}
use Rattle.pool_master.proofs.user_log.lines.Goals as goal

pub returns-in-Start : goal.returns-in-Start
returns-in-Start c =
    subst (λ (e : Event). IfOk c.start_lines.result (λ t. IsLines c.args.slots.now c.args.last c.args.after.now e (string_bytes t))) (sym c.in-Start.is)
    (rw (c.never_starts-never.ensures, c.slot_name_at.ensures) at c.start_lines.ensures)
