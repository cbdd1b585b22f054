use Rattle.std.proofs.Common.{◌<◌, List, IsSome, ◌≡◌, ◌++◌, ◌+◌, max, None, sym, ap, subst, ◌∙◌}
use Rattle.claim_id.specs.declared.numbers.JobId.{JobId}
use Rattle.thin_pool.specs.declared.job.Job.{Job}
use Rattle.thin_pool.specs.declared.event.Event.TheVariants.{Submit}
use Rattle.thin_pool.specs.PoolValue.{PoolValue, pool_value, job_at}
use Rattle.thin_pool.specs.Reactions.{numbered_jobs, last_cluster_after, refusal, pool_after}
use Rattle.thin_pool.specs.Sound.{IsSound}
use Rattle.thin_pool.proofs.Asked.{cluster_is_new}
use Rattle.thin_pool.proofs.Sound.{after_sound}
use Rattle.thin_pool.proofs.pool.Pool.submit.Goals as goal

pub invariant_of-self-2 : goal.invariant_of-self-2
invariant_of-self-2 c =
    let old = c.self.inside in
    let ads = c.args.ads.now in
    let p : PoolValue = pool_value old.slots old.jobs.entries old.runs.entries old.last_cluster old.started old.latest old.closed in
    let accepted : refusal p (Submit ads c.args.reading) ≡ None = subst (λ (q : PoolValue). refusal q (Submit ads c.args.reading) ≡ None) (sym c.self.view_is) c.requires in
    let added = c.into_vec.ensures ∙ c.in_ok-ads.ensures in
    let cluster : c.next_cluster-cluster.result ≡ p.last_cluster + 1 = c.next_cluster-cluster.ensures ∙ ap (λ (q : PoolValue). q.last_cluster + 1) (sym c.self.view_is) in
    let jobs : c.add_jobs.new.jobs.entries ≡ p.jobs ++ numbered_jobs (p.last_cluster + 1) 0 ads = c.add_jobs.ensures ∙ λ i. (c.in_ok-reserve.ensures.entries i) ++ numbered_jobs (cluster i) 0 (added i) in
    let last_cluster : c.last_cluster_after-last_cluster.result ≡ last_cluster_after p.last_cluster ads = c.last_cluster_after-last_cluster.ensures in
    let latest : c.max-self-inside.result ≡ max old.latest c.args.reading = c.max-self-inside.ensures in
    subst IsSound (sym (λ i. pool_value old.slots (jobs i) old.runs.entries (last_cluster i) old.started (latest i) old.closed)) (after_sound p (Submit ads c.args.reading) c.self.invariant accepted)

pub invariant_of-self : goal.invariant_of-self
invariant_of-self c =
    let old = c.self.inside in
    subst IsSound (sym (λ i. pool_value old.slots (c.in_err-reserve.ensures.entries i) old.runs.entries old.last_cluster old.started old.latest old.closed)) c.self.invariant

pub returns-clause-ok : goal.returns-clause-ok
returns-clause-ok c =
    let old = c.self.inside in
    let p : PoolValue = pool_value old.slots old.jobs.entries old.runs.entries old.last_cluster old.started old.latest old.closed in
    let added = c.into_vec.ensures ∙ c.in_ok-ads.ensures in
    let cluster : c.next_cluster-cluster.result ≡ p.last_cluster + 1 = c.next_cluster-cluster.ensures ∙ ap (λ (q : PoolValue). q.last_cluster + 1) (sym c.self.view_is) in
    let jobs : c.add_jobs.new.jobs.entries ≡ p.jobs ++ numbered_jobs (p.last_cluster + 1) 0 c.args.ads.now = c.add_jobs.ensures ∙ λ i. (c.in_ok-reserve.ensures.entries i) ++ numbered_jobs (cluster i) 0 (added i) in
    (λ i. pool_value old.slots (jobs i) old.runs.entries (c.last_cluster_after-last_cluster.ensures i) old.started (c.max-self-inside.ensures i) old.closed)
    ∙ ap (λ (q : PoolValue). pool_after q (Submit c.args.ads.now c.args.reading)) c.self.view_is

pub add_jobs-requires-clause-new : goal.add_jobs-requires-clause-new
add_jobs-requires-clause-new c =
    let cluster = c.next_cluster-cluster.ensures ∙ ap (λ (p : PoolValue). p.last_cluster + 1) (sym c.self.view_is) in
    let numbered = cluster_is_new c.self.inside.jobs.entries c.self.inside.last_cluster c.next_cluster-cluster.result c.self.invariant.consistent.numbered cluster in
    subst (λ (jobs : List (JobId × Job)). (id : JobId) → IsSome (job_at id jobs) → id.cluster < c.next_cluster-cluster.result) (sym c.in_ok-reserve.ensures.entries) numbered
