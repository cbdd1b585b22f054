use Rattle.pool_master.proofs.user_log.start_lines.Goals as goal

pub returns : goal.returns
returns c = rw c.if-never.false (rw (c.as_str.ensures.value, c.in_ok-what.ensures.ok) at c.job_entry.ensures)
