use Rattle.std.proofs.Common.{◌≡◌, ℕ, ◌+◌, ◌<◌, ◌≤◌, min, Result, Ok, Err, IfOk, OnErr, arith}
use Rattle.pool_parts.specs.Sizes.{mails_count}
use Rattle.pool_parts.specs.declared.size.TheConstants.{MAX_BYTES}
use Rattle.pool_tables.specs.declared.refusal.StepError.{StepError}
use Rattle.pool_steps.proofs.limits.bytes_with.Goals as goal

summed : (r : Result ℕ StepError) (bytes count sum : ℕ) → sum ≡ min (bytes + min count 18446744073709551615) 18446744073709551615 → IfOk r (λ all. all ≡ sum) → IfOk r (λ all. all ≤ MAX_BYTES)
    → IfOk r (λ all. all ≡ bytes + count)
summed (Ok all) bytes count sum is same within = omega (arith, is, same, within)
summed (Err e) bytes count sum is same within = tt

above : (r : Result ℕ StepError) (bytes count sum : ℕ) → sum ≡ min (bytes + min count 18446744073709551615) 18446744073709551615 → OnErr r (MAX_BYTES < sum) → OnErr r (MAX_BYTES < bytes + count)
above (Ok all) bytes count sum is large = tt
above (Err e) bytes count sum is large = omega (arith, is, large)

pub returns-clause-sum : goal.returns-clause-sum
returns-clause-sum c =
    summed c.limited.result c.args.bytes (mails_count c.args.mails.now) c.saturating_add.result (omega arith) c.limited.ensures.same c.limited.ensures.within

pub returns-clause-large : goal.returns-clause-large
returns-clause-large c =
    above c.limited.result c.args.bytes (mails_count c.args.mails.now) c.saturating_add.result (omega arith) c.limited.ensures.large
