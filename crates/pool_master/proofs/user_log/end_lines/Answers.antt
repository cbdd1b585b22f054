use Rattle.pool_master.proofs.user_log.end_lines.Goals as goal

pub returns-in_ok-what-in-Exited : goal.returns-in_ok-what-in-Exited
returns-in_ok-what-in-Exited c = rw c.in-Exited.is (rw (c.as_str.ensures.value, c.in_ok-what-in-Exited.ensures.ok) at c.job_entry.ensures)

pub returns-in_ok-what-in-Signalled : goal.returns-in_ok-what-in-Signalled
returns-in_ok-what-in-Signalled c = rw c.in-Signalled.is (rw (c.as_str-in-Signalled.ensures.value, c.in_ok-what-in-Signalled.ensures.ok) at c.job_entry-in-Signalled.ensures)
