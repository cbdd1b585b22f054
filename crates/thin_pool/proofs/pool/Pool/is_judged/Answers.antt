use Rattle.std.proofs.Common.{◌≡◌, ◌∙◌, ◌==◌, Some, sym, ap}
use Rattle.pool_view.specs.Numbers.{same_job}
use Rattle.thin_pool.specs.PoolValue.{PoolValue, job_at, slot_at}
use Rattle.thin_pool.specs.Reactions.{is_judged}
use Rattle.thin_pool.specs.Sameness.{same_ad}
use Rattle.thin_pool.proofs.Entries.{lookup-value_at}
use Rattle.thin_pool.proofs.Same.{second_fails}
use Rattle.thin_pool.proofs.pool.Pool.is_judged.Goals as goal

pub returns-else-is_same : goal.returns-else-is_same
returns-else-is_same c =
    let p = c.args.self.now in
    let judged = c.args.judged.now in
    let ad = c.in-Some.job.now.ad in
    let slot_ad = c.in-Some-slot_at.slot.now.ad in
    let job : job_at c.args.job p.jobs ≡ Some c.in-Some.job.now =
    ap (λ (q : PoolValue). job_at c.args.job q.jobs) (sym c.self.view_is) ∙ sym (lookup-value_at same_job c.args.job c.self.inside.jobs.entries) ∙ sym c.in-Some.ensures.value in
    let slot : slot_at c.args.slot p.slots ≡ Some c.in-Some-slot_at.slot.now =
    ap (λ (q : PoolValue). slot_at c.args.slot q.slots) (sym c.self.view_is) ∙ ap (slot_at c.args.slot) (sym c.as_slice.ensures) ∙ sym c.in-Some-slot_at.ensures in
    let told : c.is_same.result ≡ same_ad judged.job ad = c.is_same.ensures ∙ ap (λ x. same_ad x ad) c.job.ensures in
    let fails = second_fails (judged.at == c.args.reading) (same_ad judged.job ad) (same_ad judged.slot slot_ad) (sym told ∙ c.if-is_same.false) in
    told ∙ (fails ∙ sym (λ i. is_judged (job i) (slot i) c.args.reading judged))
