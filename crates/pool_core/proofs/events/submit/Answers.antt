use Rattle.std.proofs.Common.{Option, Some, ap, refl, subst, ℕ, ◌∙◌, ◌≤◌}
use Rattle.pool_parts.specs.declared.pending.Pending.{Pending}
use Rattle.pool_parts.specs.declared.size.TheConstants.{MAX_BYTES}
use Rattle.pool_rules.specs.Answers.{answered, answer_with}
use Rattle.pool_rules.specs.Deeds.{at_rest}
use Rattle.pool_rules.specs.Happens.{submission_of}
use Rattle.pool_tables.specs.declared.refusal.StepError.TheVariants as error
use Rattle.schedd_steps.proofs.Refused.{at_err, is_limit, no_bytes, no_err, no_ok, not_done}
use Rattle.pool_core.proofs.events.submit.Goals as goal

pub returns-in_err-_bytes-clause-large : goal.returns-in_err-_bytes-clause-large
returns-in_err-_bytes-clause-large c = λ is.
    let s = at_rest c.args.state.now in
    let begun = submission_of c.cluster-cluster.result c.args.jobs.now s in
    record {
      new = record s { pending = Some begun };
      answer = answered (answer_with (Some begun));
      makes = record { cluster = c.cluster-cluster.result; next = c.cluster-cluster.ensures; pool = refl; answer = refl };
      above = c.in_err-_bytes.ensures.large;
    }

pub returns-in_err-begun : goal.returns-in_err-begun
returns-in_err-begun c =
    let r = c.from_residual-in_err-begun.result in
    let memory = c.from_residual-in_err-begun.ensures.1 in
    record {
      submitted = no_ok _ error.Memory r memory;
      within = not_done _ error.Memory r memory;
      large = λ is. no_bytes _ r memory is;
      refused = is_limit r memory;
      kept = at_err r refl;
    }

pub returns : goal.returns
returns c =
    let s = c.args.state.now in
    let begun = c.in_ok-begun.ensures in
    let bytes = c.in_ok-_bytes.ensures in
    record {
      submitted = record {
        cluster = c.cluster-cluster.result;
        next = c.cluster-cluster.ensures;
        pool = ap (λ (o : Option Pending). at_rest (record s { pending = o })) (c.put.ensures.pending ∙ ap (λ (p : Pending). Some p) begun);
        answer = c.put.ensures.answer ∙ ap (λ (p : Pending). answered (answer_with (Some p))) begun;
      };
      within = subst (λ (n : ℕ). n ≤ MAX_BYTES) bytes.same bytes.within;
      large = λ is. no_err _ error.Bytes is;
      refused = tt;
      kept = tt;
    }
