use Rattle.std.proofs.Common.{string_bytes}
use Rattle.pool_master.proofs.user_log.submit_lines.Goals as goal

pub returns : goal.returns
returns c = (string_bytes c.in_ok-entries.entries, c.in_ok-format.ensures.ok, c.in_ok-entries.ensures)
