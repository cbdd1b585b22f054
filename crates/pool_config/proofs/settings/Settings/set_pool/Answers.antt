use Rattle.std.proofs.Common.{subst, sym}
use Rattle.pool_config.specs.Errors.{Becomes}
use Rattle.pool_config.specs.Settings.{pool_with}
use Rattle.pool_config.specs.SoFar.{so_far}
use Rattle.pool_config.proofs.settings.Settings.set_pool.Goals as goal

pub returns-in-Spool : goal.returns-in-Spool
returns-in-Spool c =
    subst (λ w. Becomes (so_far c.set_spool.new.self) c.set_spool.result (pool_with w c.args.text.now c.args.line (so_far c.args.self.now))) (sym c.in-Spool.is) c.set_spool.ensures

pub returns-in-Owner : goal.returns-in-Owner
returns-in-Owner c =
    subst (λ w. Becomes (so_far c.set_owner.new.self) c.set_owner.result (pool_with w c.args.text.now c.args.line (so_far c.args.self.now))) (sym c.in-Owner.is) c.set_owner.ensures

pub returns-in-Seconds : goal.returns-in-Seconds
returns-in-Seconds c =
    subst (λ w. Becomes (so_far c.set_seconds.new.self) c.set_seconds.result (pool_with w c.args.text.now c.args.line (so_far c.args.self.now))) (sym c.in-Seconds.is) c.set_seconds.ensures

pub returns-in-PreemptionRequirements : goal.returns-in-PreemptionRequirements
returns-in-PreemptionRequirements c =
    subst (λ w. Becomes (so_far c.set_preemption.new.self) c.set_preemption.result (pool_with w c.args.text.now c.args.line (so_far c.args.self.now))) (sym c.in-PreemptionRequirements.is) c.set_preemption.ensures

pub returns-in-Machine : goal.returns-in-Machine
returns-in-Machine c =
    subst (λ w. Becomes (so_far c.begin_machine.new.self) c.begin_machine.result (pool_with w c.args.text.now c.args.line (so_far c.args.self.now))) (sym c.in-Machine.is) c.begin_machine.ensures
