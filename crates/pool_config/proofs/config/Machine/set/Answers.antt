use Rattle.std.proofs.Common.{map, subst, sym}
use Rattle.pool_config.specs.Configuration.{machine_of, total_slots}
use Rattle.pool_config.specs.Errors.{Becomes}
use Rattle.pool_config.specs.Settings.{machine_with}
use Rattle.pool_config.proofs.config.Machine.set.Goals as goal

pub returns-in-Slots : goal.returns-in-Slots
returns-in-Slots c =
    subst (λ w. Becomes (machine_of c.set_slots.new.self) c.set_slots.result (machine_with w c.args.text.now c.args.line (total_slots (map machine_of c.args.others.now)) (machine_of c.args.self.now))) (sym c.in-Slots.is) c.set_slots.ensures

pub returns-in-Cpus : goal.returns-in-Cpus
returns-in-Cpus c =
    subst (λ w. Becomes (machine_of c.set_cpus.new.self) c.set_cpus.result (machine_with w c.args.text.now c.args.line (total_slots (map machine_of c.args.others.now)) (machine_of c.args.self.now))) (sym c.in-Cpus.is) c.set_cpus.ensures

pub returns-in-Memory : goal.returns-in-Memory
returns-in-Memory c =
    subst (λ w. Becomes (machine_of c.set_memory.new.self) c.set_memory.result (machine_with w c.args.text.now c.args.line (total_slots (map machine_of c.args.others.now)) (machine_of c.args.self.now))) (sym c.in-Memory.is) c.set_memory.ensures

pub returns-in-Disk : goal.returns-in-Disk
returns-in-Disk c =
    subst (λ w. Becomes (machine_of c.set_disk.new.self) c.set_disk.result (machine_with w c.args.text.now c.args.line (total_slots (map machine_of c.args.others.now)) (machine_of c.args.self.now))) (sym c.in-Disk.is) c.set_disk.ensures

pub returns-in-Start : goal.returns-in-Start
returns-in-Start c =
    subst (λ w. Becomes (machine_of c.set_start.new.self) c.set_start.result (machine_with w c.args.text.now c.args.line (total_slots (map machine_of c.args.others.now)) (machine_of c.args.self.now))) (sym c.in-Start.is) c.set_start.ensures

pub returns-in-Rank : goal.returns-in-Rank
returns-in-Rank c =
    subst (λ w. Becomes (machine_of c.set_rank.new.self) c.set_rank.result (machine_with w c.args.text.now c.args.line (total_slots (map machine_of c.args.others.now)) (machine_of c.args.self.now))) (sym c.in-Rank.is) c.set_rank.ensures
