use Rattle.std.proofs.Common.{ap, map, option_map, sym, subst}
use Rattle.pool_config.specs.Configuration.{machine_of, total_slots}
use Rattle.pool_config.specs.Errors.{Becomes}
use Rattle.pool_config.specs.Settings.{machine_with, last_with}
use Rattle.pool_config.specs.SoFar.{so_far}
use Rattle.pool_config.proofs.Becoming.{last_becomes}
use Rattle.pool_config.proofs.settings.Settings.set_slots.Goals as goal

pub returns-in-Some : goal.returns-in-Some
returns-in-Some c =
    let s = c.args.self.now in
    let become = subst (λ ms. Becomes (machine_of c.set.new.self) c.set.result (machine_with c.args.word c.args.text.now c.args.line (total_slots (map machine_of ms)) (machine_of c.in-Some.machine))) c.as_slice-others.ensures c.set.ensures in
    last_becomes (so_far s) (machine_with c.args.word c.args.text.now c.args.line (total_slots (map machine_of s.config.machines))) c.args.line (machine_of c.in-Some.machine) (machine_of c.set.new.self) c.set.result (option_map machine_of s.last) (ap (option_map machine_of) (sym c.in-Some.is)) become

pub returns-in-None : goal.returns-in-None
returns-in-None c =
    let s = so_far c.args.self.now in
    ap (λ o. last_with (machine_with c.args.word c.args.text.now c.args.line (total_slots s.config.machines)) c.args.line s (option_map machine_of o)) (sym c.in-None.is)
