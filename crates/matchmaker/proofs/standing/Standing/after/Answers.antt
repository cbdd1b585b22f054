use Rattle.std.proofs.Common.{ℕ, ap}
use Rattle.matchmaker.specs.declared.standing.Standing.{Standing}
use Rattle.matchmaker.proofs.standing.Standing.after.Goals as goal

pub returns-clause-after : goal.returns-clause-after
returns-clause-after c =
    let at_priority : ℕ → Standing = λ real. record c.args.self { real = real } in
    ap at_priority c.priority_after-real.ensures.ticks
