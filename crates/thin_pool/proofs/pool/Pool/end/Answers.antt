use Rattle.std.proofs.Common.{◌≡◌, Some, None, max, sym, ap, subst, ◌∙◌}
use Rattle.thin_pool.specs.declared.event.Event.TheVariants.{Ended}
use Rattle.thin_pool.specs.PoolValue.{PoolValue, pool_value, job_at}
use Rattle.thin_pool.specs.Reactions.{with_phase, phase_after, without_run, run_of_job, with_end_of, refusal}
use Rattle.thin_pool.specs.Sound.{IsSound}
use Rattle.thin_pool.proofs.Sound.{after_sound}
use Rattle.thin_pool.proofs.pool.Pool.end.Goals as goal

pub invariant_of-self : goal.invariant_of-self
invariant_of-self c =
    let old = c.self.inside in
    let job = c.args.job in
    let end = c.args.end in
    let reading = c.args.reading in
    let own = c.unwrap-own.result in
    let p : PoolValue = pool_value old.slots old.jobs.entries old.runs.entries old.last_cluster old.started old.latest old.closed in
    let accepted : refusal p (Ended job end reading) ≡ None = subst (λ (q : PoolValue). refusal q (Ended job end reading) ≡ None) (sym c.self.view_is) c.requires in
    let has : run_of_job (job_at job p.jobs) ≡ Some own = ap (λ (q : PoolValue). run_of_job (job_at job q.jobs)) c.self.view_is ∙ sym c.run_of.ensures ∙ c.unwrap-own.ensures in
    let jobs : c.set_phase.new.jobs.entries ≡ with_phase job (phase_after own end) p.jobs = c.set_phase.ensures ∙ ap (λ ph. with_phase job ph p.jobs) c.phase_after.ensures in
    let runs : c.remove_run.new.runs.entries ≡ without_run own.claim.slot p.runs = c.remove_run.ensures in
    let next : IsSound (record (with_end_of p job end (Some own)) { latest = max p.latest reading }) = subst (λ o. IsSound (record (with_end_of p job end o) { latest = max p.latest reading })) has (after_sound p (Ended job end reading) c.self.invariant accepted) in
    let latest : c.max-self-inside.result ≡ max old.latest reading = c.max-self-inside.ensures in
    subst IsSound (sym (λ i. pool_value old.slots (jobs i) (runs i) old.last_cluster old.started (latest i) old.closed)) next
