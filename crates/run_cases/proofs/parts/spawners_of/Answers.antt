use Rattle.std.proofs.Common.{◌≡◌, length, arith, length-append, ◌∷◌, []}
use Rattle.std.proofs.lemmas.List.Elements.{All-push}
use Rattle.run_cases.proofs.parts.spawners_of.Goals as goal

pub machines-preserved : goal.machines-preserved
machines-preserved c =
    let inv = c.machines.invariant in
    rw c.in_ok-push.ensures.items
    ((let len = length-append c.machines.spawners.items (c.in_ok-idle.idle ∷ []) in omega (arith, len, inv.0)), All-push (λ s. length s.inner.children.items ≡ 0) c.machines.spawners.items c.in_ok-idle.idle inv.1 c.in_ok-idle.ensures)
