use Rattle.std.proofs.Common.{◌≢◌, map, false, true, rules}
use Rattle.pool_config.specs.Configuration.{machine_of, total_slots}
use Rattle.pool_config.proofs.Becoming.{slots_checked}
use Rattle.pool_config.proofs.config.Machine.set_slots.Goals as goal

pub returns-in-Some-2 : goal.returns-in-Some-2
returns-in-Some-2 c =
    let some : c.in-Some.n ≢ 0 = search rules in
    slots_checked (total_slots (map machine_of c.args.others.now)) c.args.line c.in-Some.n (machine_of c.args.self.now) _ false c.in-Some.ensures some c.if-are_above.ensures

pub returns-in-Some : goal.returns-in-Some
returns-in-Some c =
    let some : c.in-Some.n ≢ 0 = search rules in
    slots_checked (total_slots (map machine_of c.args.others.now)) c.args.line c.in-Some.n (machine_of c.args.self.now) _ true c.in-Some.ensures some c.if-are_above.ensures
