use Rattle.std.proofs.Common.{Option, Some, None, ap, ◌∙◌, subst}
use Rattle.std.specs.Map.{lookup}
use Rattle.queue_tx.specs.Keys.{same_key}
use Rattle.schedd_state.specs.declared.looks.Look.{Look}
use Rattle.schedd_state.specs.Looks.{SetsTimes, look_of}
use Rattle.schedd_state.proofs.LooksKept.{times_put}
use Rattle.schedd_state.proofs.looks.Looks.put.Goals as goal

pub invariant_of-self : goal.invariant_of-self
invariant_of-self c =
    let jobs = c.self.inside.by_job in
    let es = c.self.inside.by_time in
    let lost = c.last_look-lost.ensures ∙ ap (λ key. look_of key (lookup (same_key key) jobs)) c.key.ensures in
    times_put jobs es c.self.invariant c.look.inside.entry.0 c.look.inside.entry.1 c.give_up.new.times c.take.new.times c.put.new.self
    (subst (λ (o : Option Look). SetsTimes o None es c.give_up.new.times) lost c.give_up.ensures)
    (subst (λ (o : Option Look). SetsTimes None o c.give_up.new.times c.take.new.times) (ap (λ l. Some l) c.look.invariant) c.take.ensures)
    c.put.ensures.entries
