-- A mail that is received, also where the pool would have too many bytes of ads.
use Rattle.std.proofs.Common.{◌≡◌, ℕ, Bool, true, Option, Some, None, Result, IfSome, IfOk, IsSomeAnd, subst}
use Rattle.ad_eval.specs.Judgement.{Judgement}
use Rattle.pool_parts.specs.declared.answer.Stepped.{Stepped}
use Rattle.pool_outer.specs.declared.gate.Daemon.{Daemon}
use Rattle.pool_outer.specs.declared.gate.Daemon.TheVariants.{Schedd}
use Rattle.pool_state.specs.declared.state.PoolState.{PoolState}
use Rattle.pool_tables.specs.declared.refusal.StepError.{StepError}
use Rattle.pool_tables.specs.declared.sent.Sent.{Sent}
use Rattle.pool_tables.specs.MailLists.{may_receive_sent}
use Rattle.pool_rules.specs.Deeds.{receives}
use Rattle.pool_rules.specs.Happens.{IsDone, Receives, is_known}
use Rattle.pool_rules.specs.Limits.{IsTooLarge}
use Rattle.pool_rules.specs.Schedds.{ScheddReceives}
use Rattle.pool_core.specs.Made.{IsMade}

-- what a daemon makes of a mail that is there
abbrev pub received_by : Option Sent → ℕ → ℕ → Option Judgement → PoolState → Daemon → PoolState → Stepped → Type 0
received_by o index reading judged s who new r = IsSomeAnd o (λ sent. Receives who index sent.mail reading judged s new r)

-- ---- where the pool would have too many bytes
pub known_large : (o : Option Sent) (index : ℕ) (known : Bool) (reading : ℕ) (judged : Option Judgement) (s : PoolState)
    → IfSome o (λ sent. known ≡ is_known sent.mail s) → IsTooLarge (λ new r. IsSomeAnd o (λ sent. ScheddReceives s index sent.mail known reading new r)) → IsTooLarge (λ new r. IsSomeAnd o (λ sent. Receives Schedd index sent.mail reading judged s new r))
known_large (Some sent) index known reading judged s same h = subst (λ k. IsTooLarge (λ new r. ScheddReceives s index sent.mail k reading new r)) same h
known_large None index known reading judged s same h = h

pub there_large : (o : Option Sent) (index times : ℕ) (s : PoolState) → may_receive_sent o times ≡ true → IsTooLarge (IsMade (receives index s)) → IsTooLarge (λ new r. IsSomeAnd o (λ sent. (new ≡ receives index s) × IsDone r))
there_large (Some sent) index times s may h = h
there_large None index times s may h = absurd (cc)

-- ---- where it is received
pub known_received : (o : Option Sent) (index : ℕ) (known : Bool) (reading : ℕ) (judged : Option Judgement) (s new : PoolState) (result : Result Stepped StepError)
    → IfSome o (λ sent. known ≡ is_known sent.mail s) → IfOk result (λ r. IsSomeAnd o (λ sent. ScheddReceives s index sent.mail known reading new r)) → IfOk result (λ r. IsSomeAnd o (λ sent. Receives Schedd index sent.mail reading judged s new r))
known_received (Some sent) index known reading judged s new result same h = subst (λ k. IfOk result (λ r. ScheddReceives s index sent.mail k reading new r)) same h
known_received None index known reading judged s new result same h = h

pub there_received : (o : Option Sent) (index times : ℕ) (s new : PoolState) (result : Result Stepped StepError)
    → may_receive_sent o times ≡ true → IfOk result (IsMade (receives index s) new) → IfOk result (λ r. IsSomeAnd o (λ sent. (new ≡ receives index s) × IsDone r))
there_received (Some sent) index times s new result may h = h
there_received None index times s new result may h = absurd (cc)
