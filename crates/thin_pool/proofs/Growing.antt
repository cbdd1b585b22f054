-- Histories grow by one event at a time.
use Rattle.std.proofs.Common.{◌≡◌, subst, refl, List, [], ◌∷◌, ◌++◌}
use Rattle.thin_pool.specs.declared.history.Step.{Step}
use Rattle.thin_pool.specs.PoolValue.{PoolValue as Pool}
use Rattle.thin_pool.specs.Reactions.{pool_after}
use Rattle.thin_pool.specs.Histories.{Reacts, LeadsTo}

pub leads_on : (p : Pool) (ss : List Step) (q : Pool) (s : Step) (r : Pool) → LeadsTo p ss q → Reacts q s.event s.kept r → LeadsTo p (ss ++ s ∷ []) r
leads_on p [] q s r leads next =
    subst (λ w. Reacts w s.event s.kept (pool_after w s.event) × (r ≡ pool_after w s.event)) leads (record { accepted = next.accepted; answer = next.answer; next = refl }, next.next)
leads_on p (x ∷ ss) q s r leads next = (leads.0, leads_on (pool_after p x.event) ss q s r leads.1 next)
