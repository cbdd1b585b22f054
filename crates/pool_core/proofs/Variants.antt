-- What is made by a value, once it is known which one it is.
use Rattle.std.proofs.Common.{◌≡◌, Result, Err, IfOk, sym, subst}
use Rattle.pool_parts.specs.declared.answer.Stepped.{Stepped}
use Rattle.pool_rules.specs.Limits.{IsTooLarge}
use Rattle.pool_state.specs.declared.state.PoolState.{PoolState}
use Rattle.pool_tables.specs.declared.refusal.StepError.{StepError}
use Rattle.pool_tables.specs.declared.refusal.StepError.TheVariants as error

-- what happens
pub made_as : {A : Type 0} (Makes : A → PoolState → Stepped → Type 0) {a b : A} (new : PoolState) (r : Result Stepped StepError) → a ≡ b → IfOk r (Makes b new) → IfOk r (Makes a new)
made_as Makes new r is made = subst (λ x. IfOk r (Makes x new)) (sym is) made

-- what would have too many bytes
pub large_as : {A : Type 0} (Makes : A → PoolState → Stepped → Type 0) {a b : A} (r : Result Stepped StepError) → a ≡ b → (r ≡ Err error.Bytes → IsTooLarge (Makes b)) → r ≡ Err error.Bytes → IsTooLarge (Makes a)
large_as Makes r is large = subst (λ x. r ≡ Err error.Bytes → IsTooLarge (Makes x)) (sym is) large
