use Rattle.std.proofs.Common.{Option, None, subst}
use Rattle.schedd_state.specs.declared.looks.Look.{Look}
use Rattle.schedd_state.specs.Looks.{SetsTimes}
use Rattle.schedd_state.proofs.LooksKept.{times_removed}
use Rattle.schedd_state.proofs.looks.Looks.remove.Goals as goal

pub invariant_of-self : goal.invariant_of-self
invariant_of-self c =
    let es = c.self.inside.by_time in
    times_removed c.self.inside.by_job es c.self.invariant c.args.key.now c.give_up.new.times c.remove.new.self c.remove.ensures.sorted
    (subst (λ (o : Option Look). SetsTimes o None es c.give_up.new.times) c.last_look-lost.ensures c.give_up.ensures)
    c.remove.ensures.entries
