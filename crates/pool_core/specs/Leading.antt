-- Histories as they are kept.
use Rattle.std.specs.Prelude.{◌≡◌, List, Some, map}
use Rattle.pool_core.specs.declared.history.History.{History}
use Rattle.pool_core.specs.declared.history.Step.{Step}
use Rattle.pool_rules.specs.Histories as accepted
use Rattle.pool_rules.specs.Histories.{LeadsTo}
use Rattle.pool_state.specs.declared.state.PoolState.{PoolState}

-- an accepted event with its answer, as a history keeps it
abbrev pub kept_step : accepted.Step → Step
kept_step s = record { event = s.event; kept = s.answer.kept }

-- A history's list leads from its opening to a pool: there are answers of which it keeps what it
-- has, such that its events, with these answers, do.
pub record LeadsFromOpening (h : History) (s : PoolState) : Type 0 where
  pub opening : PoolState
  pub opened : h.opening ≡ Some opening
  pub steps : List accepted.Step
  pub kept : h.list ≡ map kept_step steps
  pub leads : LeadsTo opening steps s
