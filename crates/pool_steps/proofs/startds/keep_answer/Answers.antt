use Rattle.std.proofs.Common.{List, ap, sym, ◌∙◌}
use Rattle.claim_id.specs.declared.numbers.RunNo.{RunNo}
use Rattle.pool_parts.specs.Answers.{kept_of}
use Rattle.pool_parts.specs.declared.answer.Kept.TheVariants as kept
use Rattle.pool_rules.specs.Answers.{answer_of_startd}
use Rattle.startd_core.specs.declared.answer.StartdAnswer.{StartdAnswer}
use Rattle.pool_steps.proofs.startds.keep_answer.Goals as goal

pub returns-in_ok-copied_runs-in-Kill : goal.returns-in_ok-copied_runs-in-Kill
returns-in_ok-copied_runs-in-Kill c =
    ap (λ (runs : List RunNo). kept.Kill runs) (c.in_ok-copied_runs-in-Kill.ensures ∙ c.as_slice.ensures) ∙ ap (λ (a : StartdAnswer). kept_of (answer_of_startd a)) (sym c.in-Kill.is)
