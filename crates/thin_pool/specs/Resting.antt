-- A pool in which nothing runs, and what it does next.
use Rattle.std.specs.Prelude.{◌≡◌, ℕ, [], false, None, length}
use Rattle.ad_eval.specs.Judgement.{Judgement}
use Rattle.claim_id.specs.declared.numbers.JobId.{JobId}
use Rattle.claim_id.specs.declared.numbers.SlotId.{SlotId}
use Rattle.thin_pool.specs.declared.event.Event.{Event}
use Rattle.thin_pool.specs.declared.event.Event.TheVariants.{Start, Close}
use Rattle.thin_pool.specs.declared.next.Next.{Next}
use Rattle.thin_pool.specs.declared.next.Next.TheVariants as next
use Rattle.thin_pool.specs.PoolValue.{PoolValue}
use Rattle.thin_pool.specs.Reactions.{refusal, idle_ads, pool_after}

-- the pool is open, and nothing runs in it
pub record IsResting (p : PoolValue) : Type 0 where
  pub is_open : p.closed ≡ false
  pub no_runs : p.runs ≡ []

-- of every pool in which nothing runs, of the pool after the start of a job, and of that job
abbrev pub StartsThen : (PoolValue → PoolValue → JobId → Type 0) → Type 0
StartsThen P = (p : PoolValue) (job : JobId) (slot : SlotId) (judged : Judgement) (reading : ℕ)
    → IsResting p → refusal p (Start job slot judged reading) ≡ None
    → P p (pool_after p (Start job slot judged reading)) job

-- how many jobs are idle
abbrev pub idle_count : PoolValue → ℕ
idle_count p = length (idle_ads p.jobs)

-- what comes next, at a reading
abbrev pub event_of : ℕ → Next → Event
event_of reading (next.Close none) = Close reading none
event_of reading (next.Start pair) = Start pair.job pair.slot pair.judged reading
