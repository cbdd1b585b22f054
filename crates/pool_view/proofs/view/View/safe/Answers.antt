use Rattle.std.proofs.Common.{◌≡◌, true, false, sym, ◌∙◌}
use Rattle.pool_view.proofs.SafeParts.{safe_of_parts, runs_of_safe, jobs_of_safe}
use Rattle.pool_view.proofs.view.View.safe.Goals as goal

pub returns-then-are_runs_safe : goal.returns-then-are_runs_safe
returns-then-are_runs_safe c = (
  λ is. safe_of_parts c.args.self.now (c.are_runs_safe.ensures.0 c.if-are_runs_safe.true) (c.are_jobs_safe.ensures.0 is),
  λ safe. c.are_jobs_safe.ensures.1 (jobs_of_safe c.args.self.now safe),
)

pub returns-else-are_runs_safe : goal.returns-else-are_runs_safe
returns-else-are_runs_safe c = (
  λ is. absurd (let no : ⊥ = cc in no),
  λ safe. (let no : true ≡ false = sym (c.are_runs_safe.ensures.1 (runs_of_safe c.args.self.now safe)) ∙ c.if-are_runs_safe.false in cc),
)
