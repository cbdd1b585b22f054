use Rattle.std.proofs.Common.{◌++◌, List, ap, ◌∙◌}
use Rattle.claim_id.specs.declared.numbers.JobId.{JobId}
use Rattle.pool_state.proofs.opening.list_jobs.Goals as goal

pub returns : goal.returns
returns c =
    let idle = c.in_ok-push_kind.ensures in
    let held = c.in_ok-push_kind-2.ensures in
    let under = c.in_ok-push_kind-3.ensures in
    let first = idle.2 ∙ ap (λ (l : List JobId). l ++ idle.0) c.new-listed.ensures in
    let second = held.2 ∙ ap (λ (l : List JobId). l ++ held.0) first in
    (idle.0, held.0, under.0, idle.1, held.1, under.1, under.2 ∙ ap (λ (l : List JobId). l ++ under.0) second)
