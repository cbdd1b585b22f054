use Rattle.std.proofs.Common.{◌∙◌, sym, ap}
use Rattle.pool_config.specs.Configuration.{configuration_of}
use Rattle.thin_pool.specs.Reactions.{opening_pool}
use Rattle.pool_input.proofs.Slots.{slots_once, slots_placed, slots_some}
use Rattle.pool_input.proofs.input.open.Goals as goal

pub open-requires : goal.open-requires
open-requires c = record {
  some = rw c.in_ok-slots.ensures (slots_some (configuration_of c.args.config.now) c.requires.within c.requires.each);
  once = rw c.in_ok-slots.ensures (slots_once (configuration_of c.args.config.now));
}

pub returns-clause-placed : goal.returns-clause-placed
returns-clause-placed c = rw (c.in_ok-course.ensures.opening, c.in_ok-slots.ensures) (slots_placed (configuration_of c.args.config.now) c.requires.within)

pub returns-clause-opening : goal.returns-clause-opening
returns-clause-opening c = c.in_ok-course.ensures.opening ∙ ap opening_pool c.in_ok-slots.ensures

pub returns-clause-pool : goal.returns-clause-pool
returns-clause-pool c = c.in_ok-course.ensures.pool ∙ sym c.in_ok-course.ensures.opening
