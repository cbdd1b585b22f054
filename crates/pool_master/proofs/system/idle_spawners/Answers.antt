use Rattle.std.proofs.Common.{◌≡◌, ◌∙◌, ◌+◌, length, ap, arith, length-append, ◌∷◌, []}
use Rattle.std.proofs.lemmas.List.Elements.{All-push}
use Rattle.pool_master.proofs.system.idle_spawners.Goals as goal

pub machines-preserved : goal.machines-preserved
machines-preserved g c =
    let inv = c.machines.invariant in
    rw c.in_ok-push.ensures.items
    (length-append c.machines.spawners.items (c.new.result ∷ []) ∙ ap (λ n. n + 1) inv.0, All-push (λ s. length s.children.items ≡ 0) c.machines.spawners.items c.new.result inv.1 c.new.ensures.idle)

pub machines-init : goal.machines-init
machines-init g c =
    let none : length c.new-spawners.result.items ≡ 0 = ap length c.new-spawners.ensures.items in
    (none, λ k d below. absurd (omega (arith, none, below)))

pub returns-clause-idle : goal.returns-clause-idle
returns-clause-idle g c = c.machines.invariant.1
