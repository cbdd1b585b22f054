use Rattle.std.proofs.Common.{Option, None, sym, subst}
use Rattle.schedd_state.specs.declared.looks.Look.{Look}
use Rattle.schedd_state.specs.Looks.{SetsTimes}
use Rattle.schedd_state.proofs.LooksKept.{given_up}
use Rattle.schedd_state.proofs.looks.give_up.Goals as goal

pub returns-in-Some : goal.returns-in-Some
returns-in-Some c =
    subst (λ (o : Option Look). SetsTimes o None c.args.times.now c.remove.new.self) (sym c.in-Some.is)
    (given_up c.in-Some.lost c.args.times.now c.remove.new.self c.remove.ensures.sorted c.remove.ensures.entries)
