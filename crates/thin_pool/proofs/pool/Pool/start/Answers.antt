use Rattle.std.proofs.Common.{◌≡◌, ◌++◌, ◌+◌, max, [], ◌∷◌, None, sym, ap, subst, ◌∙◌}
use Rattle.claim_id.specs.declared.numbers.RunNo.{RunNo}
use Rattle.thin_pool.specs.declared.event.Event.TheVariants.{Start}
use Rattle.thin_pool.specs.declared.job.Phase.TheVariants.{Running}
use Rattle.thin_pool.specs.declared.job.SlotRun.{SlotRun}
use Rattle.thin_pool.specs.PoolValue.{PoolValue, pool_value, run_at, run_no}
use Rattle.thin_pool.specs.Reactions.{with_phase, refusal, pool_after}
use Rattle.thin_pool.specs.Sound.{IsSound}
use Rattle.thin_pool.proofs.Asked.{next_is_numbered, free_to_start}
use Rattle.thin_pool.proofs.Sound.{after_sound}
use Rattle.thin_pool.proofs.pool.Pool.start.Goals as goal

pub invariant_of-self-2 : goal.invariant_of-self-2
invariant_of-self-2 c =
    let old = c.self.inside in
    let judged = c.args.judged.now in
    let p : PoolValue = pool_value old.slots old.jobs.entries old.runs.entries old.last_cluster old.started old.latest old.closed in
    let accepted : refusal p (Start c.args.job c.args.slot judged c.args.reading) ≡ None = subst (λ (q : PoolValue). refusal q (Start c.args.job c.args.slot judged c.args.reading) ≡ None) (sym c.self.view_is) c.requires in
    let new : SlotRun = record { job = c.args.job; number = p.started + 1; judged = judged; until = c.args.reading } in
    let jobs : c.set_phase.new.jobs.entries ≡ with_phase c.args.job (Running (run_no c.args.slot (p.started + 1)) c.args.reading) p.jobs = c.set_phase.ensures ∙ ap (λ (r : RunNo). with_phase c.args.job (Running r c.args.reading) p.jobs) c.run_no-run.ensures in
    let runs : c.add_run.new.runs.entries ≡ p.runs ++ (c.args.slot, new) ∷ [] =
    c.add_run.ensures ∙ λ i. (c.in_ok-reserve.ensures.entries i) ++ (c.args.slot, record { job = c.args.job; number = p.started + 1; judged = c.in_ok-judged.ensures i; until = c.args.reading }) ∷ [] in
    let latest : c.max-self-inside.result ≡ max old.latest c.args.reading = c.max-self-inside.ensures in
    subst IsSound (sym (λ i. pool_value old.slots (jobs i) (runs i) old.last_cluster (old.started + 1) (latest i) old.closed)) (after_sound p (Start c.args.job c.args.slot judged c.args.reading) c.self.invariant accepted)

pub returns-clause-ok : goal.returns-clause-ok
returns-clause-ok c =
    let old = c.self.inside in
    let p : PoolValue = pool_value old.slots old.jobs.entries old.runs.entries old.last_cluster old.started old.latest old.closed in
    let new : SlotRun = record { job = c.args.job; number = p.started + 1; judged = c.args.judged.now; until = c.args.reading } in
    let jobs : c.set_phase.new.jobs.entries ≡ with_phase c.args.job (Running (run_no c.args.slot (p.started + 1)) c.args.reading) p.jobs = c.set_phase.ensures ∙ ap (λ (r : RunNo). with_phase c.args.job (Running r c.args.reading) p.jobs) c.run_no-run.ensures in
    let runs : c.add_run.new.runs.entries ≡ p.runs ++ (c.args.slot, new) ∷ [] =
    c.add_run.ensures ∙ λ i. (c.in_ok-reserve.ensures.entries i) ++ (c.args.slot, record { job = c.args.job; number = p.started + 1; judged = c.in_ok-judged.ensures i; until = c.args.reading }) ∷ [] in
    let latest : c.max-self-inside.result ≡ max old.latest c.args.reading = c.max-self-inside.ensures in
    (λ i. pool_value old.slots (jobs i) (runs i) old.last_cluster (old.started + 1) (latest i) old.closed)
    ∙ ap (λ (q : PoolValue). pool_after q (Start c.args.job c.args.slot c.args.judged.now c.args.reading)) c.self.view_is

pub overflow_add-number : goal.overflow_add-number
overflow_add-number c = record { fits = next_is_numbered c.self.inside.jobs.entries c.self.inside.started c.self.invariant.consistent.counted c.self.invariant.consistent.few }

pub add_run-requires-clause-free : goal.add_run-requires-clause-free
add_run-requires-clause-free c =
    ap (run_at c.args.slot) (c.in_ok-reserve.ensures.entries ∙ ap (λ (p : PoolValue). p.runs) c.self.view_is)
    ∙ free_to_start c.args.self.now c.args.job c.args.slot c.args.judged.now c.args.reading c.requires

pub invariant_of-self : goal.invariant_of-self
invariant_of-self c =
    let old = c.self.inside in
    subst IsSound (sym (λ i. pool_value old.slots old.jobs.entries (c.in_err-reserve.ensures.entries i) old.last_cluster old.started old.latest old.closed)) c.self.invariant
