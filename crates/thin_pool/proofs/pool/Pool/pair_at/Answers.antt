use Rattle.std.proofs.Common.{◌≡◌, ◌∙◌, List, Some, sym, ap, subst}
use Rattle.thin_pool.specs.declared.slot.PoolSlot.{PoolSlot}
use Rattle.thin_pool.specs.Jobs.{idle_at}
use Rattle.thin_pool.specs.Pairs.{IsFirstFit}
use Rattle.thin_pool.proofs.Resting.{first_may_start}
use Rattle.thin_pool.proofs.pool.Pool.pair_at.Goals as goal

pub returns-in-Some-2-clause-accepted : goal.returns-in-Some-2-clause-accepted
returns-in-Some-2-clause-accepted c =
    let p = c.args.self.now in
    let slots : c.as_slice-slots.result.now ≡ p.slots = c.as_slice-slots.ensures ∙ ap (λ l. l) c.slots.ensures in
    let job : idle_at c.args.place p.jobs ≡ Some (c.in-Some.job, c.in-Some.ad.now) = sym c.in-Some.ensures in
    let fit : IsFirstFit p.slots c.in-Some.ad.now c.args.reading c.in-Some-2.slot c.in-Some-2.judged =
    subst (λ (l : List PoolSlot). IsFirstFit l c.in-Some.ad.now c.args.reading c.in-Some-2.slot c.in-Some-2.judged) slots (rw c.in-Some-2.is at c.in_ok-first_fit.ensures) in
    first_may_start p c.args.place c.in-Some.job c.in-Some.ad.now c.in-Some-2.slot c.in-Some-2.judged c.args.reading c.requires c.soundness.ensures.consistent.jobs_once c.soundness.ensures.slots_once job fit
