-- What is unfinished in a pool, and whether that can be logged.
use Rattle.std.specs.Prelude.{IfSome}
use Rattle.pool_parts.specs.Loggable.{CanBeLogged, HasShortNumbers}
use Rattle.pool_parts.specs.declared.pending.Unfinished.{Unfinished}
use Rattle.pool_parts.specs.declared.pending.Unfinished.TheVariants.{Submission, Plan}
use Rattle.pool_state.specs.declared.state.PoolState.{PoolState}

-- what is unfinished, if anything, can be logged over the queue
abbrev pub CanFinish : PoolState → Type 0
CanFinish s = IfSome s.pending (λ p. CanBeLogged p.tx s.queue)

-- the numbers of a plan that is to be logged can be printed
abbrev pub IsShort : Unfinished → Type 0
IsShort (Submission cluster count) = Unit {0}
IsShort (Plan p) = HasShortNumbers p

abbrev pub ArePlansShort : PoolState → Type 0
ArePlansShort s = IfSome s.pending (λ p. IsShort p.what)
