-- The parts of a pool that its copy is made of.
use Rattle.pool_state.specs.declared.copy.Actors.{Actors}
use Rattle.pool_state.specs.declared.copy.Jobs.{Jobs}
use Rattle.pool_state.specs.declared.copy.Marks.{Marks}
use Rattle.pool_state.specs.declared.opening.Tables.{Tables}
use Rattle.pool_state.specs.declared.state.PoolState.{PoolState}

abbrev pub tables_of : PoolState → Tables
tables_of s = record { daemons = s.daemons; mails = s.mails; orders = s.orders }

abbrev pub actors_of : PoolState → Actors
actors_of s = record { machines = s.machines; schedd = s.schedd; queue = s.queue }

abbrev pub jobs_of : PoolState → Jobs
jobs_of s = record {
  finished = s.finished;
  acked = s.acked;
  ordered = s.ordered;
  reports = s.reports;
}

abbrev pub marks_of : PoolState → Marks
marks_of s = record { pending = s.pending; log_mark = s.log_mark; end_marks = s.end_marks }

-- the pool with these parts in place of its own
abbrev pub pool_with : Tables → Actors → Jobs → Marks → PoolState → PoolState
pool_with t a j m s = record s {
  daemons = t.daemons;
  mails = t.mails;
  orders = t.orders;
  machines = a.machines;
  schedd = a.schedd;
  queue = a.queue;
  pending = m.pending;
  finished = j.finished;
  acked = j.acked;
  ordered = j.ordered;
  reports = j.reports;
  log_mark = m.log_mark;
  end_marks = m.end_marks;
}
