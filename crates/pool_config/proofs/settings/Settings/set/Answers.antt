use Rattle.std.proofs.Common.{subst, sym}
use Rattle.pool_config.specs.Errors.{Becomes}
use Rattle.pool_config.specs.Keys.{sets_of}
use Rattle.pool_config.specs.Settings.{set_to}
use Rattle.pool_config.specs.SoFar.{so_far}
use Rattle.pool_config.proofs.settings.Settings.set.Goals as goal

pub returns-in-Pool : goal.returns-in-Pool
returns-in-Pool c =
    subst (λ k. Becomes (so_far c.set_pool.new.self) c.set_pool.result (set_to (sets_of k) c.args.text.now c.args.line (so_far c.args.self.now))) (sym c.in-Pool.is) c.set_pool.ensures

pub returns-in-Ceiling : goal.returns-in-Ceiling
returns-in-Ceiling c =
    subst (λ k. Becomes (so_far c.set_ceiling.new.self) c.set_ceiling.result (set_to (sets_of k) c.args.text.now c.args.line (so_far c.args.self.now))) (sym c.in-Ceiling.is) c.set_ceiling.ensures

pub returns-in-PrioFactor : goal.returns-in-PrioFactor
returns-in-PrioFactor c =
    subst (λ k. Becomes (so_far c.set_factor.new.self) c.set_factor.result (set_to (sets_of k) c.args.text.now c.args.line (so_far c.args.self.now))) (sym c.in-PrioFactor.is) c.set_factor.ensures

pub returns-in-Slots : goal.returns-in-Slots
returns-in-Slots c =
    subst (λ k. Becomes (so_far c.set_slots.new.self) c.set_slots.result (set_to (sets_of k) c.args.text.now c.args.line (so_far c.args.self.now))) (sym c.in-Slots.is) c.set_slots.ensures

pub returns-in-Attribute : goal.returns-in-Attribute
returns-in-Attribute c =
    subst (λ k. Becomes (so_far c.set_attribute.new.self) c.set_attribute.result (set_to (sets_of k) c.args.text.now c.args.line (so_far c.args.self.now))) (sym c.in-Attribute.is) c.set_attribute.ensures
