use Rattle.std.proofs.Common.{◌≡◌, ◌∙◌, Some, IsSome, slice_get, sym, ap, subst}
use Rattle.std.specs.Option.{option_map, option_copied}
use Rattle.thin_pool.specs.Jobs.{idle_jobs}
use Rattle.thin_pool.proofs.Resting.{some_job, some_slot, some_before, found_ads, may_start}
use Rattle.thin_pool.proofs.pool.Pool.pair_of.Goals as goal

pub unwrap-requires : goal.unwrap-requires
unwrap-requires c = some_before _ c.idle_job.result (subst IsSome (sym c.idle_job.ensures) (some_job c.args.self.now c.args.reading c.args.found c.requires.first))

pub unwrap-slot-requires : goal.unwrap-slot-requires
unwrap-slot-requires c =
    let slots = c.as_slice.ensures ∙ ap (λ l. l) c.slots.ensures in
    some_before _ c.slot_at_place.result (subst IsSome (sym (c.slot_at_place.ensures ∙ ap (λ l. slice_get l c.args.found.slot) slots)) (some_slot c.args.self.now c.args.reading c.args.found c.requires.first))

pub returns : goal.returns
returns c =
    let p = c.args.self.now in
    let slots = c.as_slice.ensures ∙ ap (λ l. l) c.slots.ensures in
    let job : slice_get (idle_jobs p.jobs) c.args.found.job ≡ Some (c.unwrap.result.0, c.unwrap.result.1.now) = sym c.idle_job.ensures ∙ ap (option_map (λ e. (e.0, e.1.now))) c.unwrap.ensures in
    let slot : slice_get p.slots c.args.found.slot ≡ Some c.unwrap-slot.result.now = sym (c.slot_at_place.ensures ∙ ap (λ l. slice_get l c.args.found.slot) slots) ∙ ap option_copied c.unwrap-slot.ensures in
    let is = found_ads p c.args.reading c.args.found c.unwrap.result.0 c.unwrap.result.1.now c.unwrap-slot.result.now c.requires.first job slot in
    may_start p c.args.found.job c.args.found.slot c.unwrap.result.0 c.unwrap.result.1.now c.unwrap-slot.result.now c.args.found.judged c.args.reading c.requires.resting c.soundness.ensures.consistent.jobs_once c.soundness.ensures.slots_once job slot is.0 is.1 c.requires.first.at_now
