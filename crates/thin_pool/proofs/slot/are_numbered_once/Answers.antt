use Rattle.std.proofs.Common.{◌≡◌, ◌∙◌, ◌∷◌, ◌↔◌, List, Option, Some, None, IsTrue, true, false, true≢false, is_some, refl, sym, ap, subst}
use Rattle.std.specs.Option.{option_copied}
use denote.Bor.{Bor}
use Rattle.thin_pool.specs.declared.slot.PoolSlot.{PoolSlot}
use Rattle.thin_pool.specs.PoolValue.{AreNumberedOnce, slot_at}
use Rattle.thin_pool.proofs.Adding.{nothing_left}
use Rattle.thin_pool.proofs.slot.are_numbered_once.Goals as goal

there_too : (o : Option (Bor PoolSlot)) → is_some o ≡ is_some (option_copied o)
there_too None = refl
there_too (Some s) = refl

met_twice : {P : Type 0} (rest : List PoolSlot) (s : PoolSlot) (more : List PoolSlot) → P ↔ AreNumberedOnce rest → rest ≡ s ∷ more → true ≡ is_some (slot_at s.slot more) → IsTrue false ↔ P
met_twice rest s more same here again = (λ yes. absurd (true≢false (sym yes)), λ p. absurd (true≢false (again ∙ ap is_some (subst AreNumberedOnce here (same.0 p)).0)))

pub returns-then-is_some : goal.returns-then-is_some
returns-then-is_some c =
    met_twice c.slots.rest.now c.in-Some.first.now c.in-Some.after.now c.slots.invariant c.in-Some.ensures.cases.0 (c.if-is_some.ensures ∙ there_too c.slot_at.result ∙ ap is_some c.slot_at.ensures)

pub returns : goal.returns
returns c = (λ yes. c.slots.invariant.1 (subst AreNumberedOnce (sym (nothing_left c.slots.rest.now c.in_default.ensures.cases)) tt), λ p. refl)
