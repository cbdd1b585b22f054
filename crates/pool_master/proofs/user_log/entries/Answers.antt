use Rattle.std.proofs.Common.{◌≡◌, ◌-◌, ◌<◌, string_bytes, rules}
use Rattle.pool_master.proofs.UserLogs.{enters_on, enters_all}
use Rattle.pool_master.proofs.user_log.entries.Goals as goal

pub procs-preserved : goal.procs-preserved
procs-preserved c =
    let below : c.procs.proc < c.args.count = search rules in
    enters_on c.args.cluster c.args.count c.args.reading c.procs.proc (string_bytes c.procs.text) (string_bytes c.push_str.new.self) (string_bytes c.in_ok-entry.entry) below c.in_ok-entry.ensures (rw c.as_str.ensures.value at c.in_ok-push_str.ensures.bytes) c.procs.invariant

pub returns : goal.returns
returns c =
    let none : c.args.count - c.procs.proc ≡ 0 = search rules in
    enters_all c.args.cluster c.args.count c.args.reading c.procs.proc (string_bytes c.procs.text) none c.procs.invariant
