-- What a look of the schedd makes of a pool.
use Rattle.std.proofs.Common.{◌≡◌, ◌∙◌, List, ap, subst}
use Rattle.claim_id.specs.declared.numbers.JobId.{JobId}
use Rattle.pool_parts.specs.declared.answer.Stepped.{Stepped}
use Rattle.pool_parts.specs.Plans.{ordered_job}
use Rattle.pool_rules.specs.Deeds.{at_rest, schedd_acts, schedd_answer}
use Rattle.pool_rules.specs.Schedds.{IsLook, jobs_in}
use Rattle.pool_state.specs.declared.state.PoolState.{PoolState}
use Rattle.schedd_state.specs.DueChecks.{Passes}
use Rattle.schedd_state.specs.Schedds.{After, ScheddValue}
use Rattle.schedd_state.specs.declared.answer.ScheddStep.{ScheddStep}

-- so it acted, and its mark moved on
pub looked_so : (old t : PoolState) (a : After) (v m : ScheddValue) (step : ScheddStep) (jobs : List JobId) (r : Stepped)
    → at_rest t ≡ schedd_acts v step jobs old → v ≡ a.schedd → step ≡ a.step → jobs ≡ jobs_in (ordered_job a.step.plan)
    → m ≡ record t.schedd { passed = m.passed } → Passes t.queue t.schedd.checked t.schedd.passed m.passed → r ≡ schedd_answer old step
    → IsLook (at_rest old) a (at_rest (record t { schedd = m })) r
looked_so old t a v m step jobs r acts schedd steps orders moves passes answers =
    let ordered = jobs_in (ordered_job a.step.plan) in
    let pool : at_rest t ≡ schedd_acts a.schedd a.step ordered old =
    acts
    ∙ ap (λ (x : ScheddValue). schedd_acts x step jobs old) schedd
    ∙ ap (λ (x : ScheddStep). schedd_acts a.schedd x jobs old) steps
    ∙ ap (λ (x : List JobId). schedd_acts a.schedd a.step x old) orders in
    record {
      mark = m.passed;
      passes = subst (λ (s : PoolState). Passes s.queue s.schedd.checked s.schedd.passed m.passed) pool passes;
      pool = ap (λ (x : ScheddValue). at_rest (record t { schedd = x })) moves ∙ ap (λ (s : PoolState). record s { schedd = record s.schedd { passed = m.passed } }) pool;
      answer = answers ∙ ap (λ (x : ScheddStep). schedd_answer old x) steps;
    }
