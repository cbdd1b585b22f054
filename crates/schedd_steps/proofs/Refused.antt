-- What is known of a result that is refused, by the error that it is.
use Rattle.std.proofs.Common.{◌≡◌, ◌∙◌, Result, Ok, Err, IfOk, IfErr, OnOk, OnErr, inr, ap, sym, subst}
use Rattle.std.specs.Result.{IsErrAnd}
use Rattle.pool_rules.specs.Limits.{IsLimit}
use Rattle.pool_tables.specs.declared.refusal.StepError.{StepError}
use Rattle.pool_tables.specs.declared.refusal.StepError.TheVariants as error

-- what is done isn't refused
pub no_err : {T : Type 0} {P : Type 0} (x : T) (e : StepError) → Ok x ≡ Err e → P
no_err x e is = cc

module _ {T : Type 0} where
  abbrev error_of : Result T StepError → StepError
  error_of (Ok x) = error.Memory
  error_of (Err e) = e

  pub no_ok : (P : T → Type 0) (e : StepError) (r : Result T StepError) → IsErrAnd r (λ y. y ≡ e) → IfOk r P
  no_ok P e (Ok x) is = absurd is
  no_ok P e (Err y) is = tt

  pub not_done : (P : Type 0) (e : StepError) (r : Result T StepError) → IsErrAnd r (λ y. y ≡ e) → OnOk r P
  not_done P e (Ok x) is = absurd is
  not_done P e (Err y) is = tt

  pub same_error : (e other : StepError) (r : Result T StepError) → IsErrAnd r (λ y. y ≡ e) → r ≡ Err other → e ≡ other
  same_error e other (Ok x) is gives = absurd is
  same_error e other (Err y) is gives = sym is ∙ ap error_of gives

  pub no_bytes : (P : Type 0) (r : Result T StepError) → IsErrAnd r (λ y. y ≡ error.Memory) → r ≡ Err error.Bytes → P
  no_bytes P r is gives = let both : error.Memory ≡ error.Bytes = same_error error.Memory error.Bytes r is gives in cc

  pub limit_passed : (e : StepError) (r : Result T StepError) → IsErrAnd r (λ y. y ≡ e) → IsLimit e → IfErr r IsLimit
  limit_passed e (Ok x) is limit = absurd is
  limit_passed e (Err y) is limit = subst IsLimit (sym is) limit

  pub is_limit : (r : Result T StepError) → IsErrAnd r (λ y. y ≡ error.Memory) → IfErr r IsLimit
  is_limit (Ok x) memory = absurd memory
  is_limit (Err e) memory = inr memory

  pub at_err : {P : Type 0} (r : Result T StepError) → P → OnErr r P
  at_err (Ok x) kept = tt
  at_err (Err e) kept = kept
