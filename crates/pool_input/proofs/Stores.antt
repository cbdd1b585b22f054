-- What a store's calls leave of its faults and its files, where a file is read.
use Rattle.std.proofs.Common.{◌≡◌, ◌∙◌, ℕ, Bool, true, false, true≢false, Result, Ok, Err, refl, sym, ap, subst, arith}
use Rattle.std.specs.Prelude.{IsErr, IsErrAnd, IsErrOf}
use Rattle.pool_outer.specs.Cause.{HasCause}
use Rattle.pool_outer.specs.Files.{Contents, Lengths, SameFiles}
use Rattle.pool_outer.specs.declared.store.StoreError.{StoreError}
use Rattle.pool_outer.specs.declared.store.StoreError.TheVariants as store
use Rattle.pool_input.specs.declared.files.ReadError.{ReadError}
use Rattle.pool_input.specs.declared.files.ReadError.TheVariants as read
use Rattle.pool_input.specs.ReadErrors.{read_error}

-- what was read is refused by nothing
pub not_refused : {T A : Type 0} (x : T) (e : ReadError) → IsErrOf (Ok x) e → A
not_refused x e refused = cc

-- the store didn't fail, since it has no more faults than before
pub quiet_so_far : {T : Type 0} (before now : ℕ) (x : T) → now ≡ before → HasCause read.Failed before now (Ok x)
quiet_so_far before now x quiet = record {
  later = omega arith;
  rose = λ failed. not_refused x read.Failed failed;
  quiet = λ right. quiet;
}

no_failure : {T : Type 0} → IsErrOf {T = T} (Err read.TooLong) read.Failed → ⊥
no_failure failed = cc

pub no_rise : {T : Type 0} (before now : ℕ) → now ≡ before → HasCause {T = T} read.Failed before now (Err read.TooLong)
no_rise before now quiet = record {
  later = omega arith;
  rose = λ failed. absurd (no_failure failed);
  quiet = λ right. quiet;
}

-- ---- a store's error is handed on as a reader's

no_limit : (e : StoreError) → read_error e ≡ read.TooLong → ⊥
no_limit store.Missing is = cc
no_limit store.Failed is = cc
no_limit store.Memory is = cc

failed_too : (e : StoreError) → read_error e ≡ read.Failed → e ≡ store.Failed
failed_too store.Missing is = cc
failed_too store.Failed is = refl
failed_too store.Memory is = cc

missing_too : (e : StoreError) → read_error e ≡ read.Missing → e ≡ store.Missing
missing_too store.Missing is = refl
missing_too store.Failed is = cc
missing_too store.Memory is = cc

error_of : {T : Type 0} (r : Result T ReadError) (e : StoreError) (x : ReadError) → IsErrAnd r (λ y. y ≡ read_error e) → IsErrOf r x → read_error e ≡ x
error_of (Ok v) e x handed is = absurd handed
error_of (Err y) e x handed is = let same : y ≡ x = cc in sym handed ∙ same

pub not_too_long : {T A : Type 0} (r : Result T ReadError) (e : StoreError) → IsErr r × IsErrAnd r (λ y. y ≡ read_error e) → IsErrOf r read.TooLong → A
not_too_long r e handed is = absurd (no_limit e (error_of r e read.TooLong handed.1 is))

pub cause_handed : {T U : Type 0} (r : Result T ReadError) (e : StoreError) (before since now : ℕ) → IsErr r × IsErrAnd r (λ y. y ≡ read_error e) → since ≡ before → HasCause {T = U} store.Failed since now (Err e) → HasCause read.Failed before now r
cause_handed (Ok v) e before since now handed quiet cause = absurd handed.1
cause_handed (Err x) e before since now handed quiet cause =
    let later = cause.later in
    record {
      later = omega arith;
      rose = λ failed. let rose = cause.rose (ap Err (failed_too e (error_of (Err x) e read.Failed handed.1 failed))) in omega arith;
      quiet = λ right. absurd (true≢false (sym right));
    }

-- a name that is known isn't missed
pub not_missed : {T U A : Type 0} (r : Result T ReadError) (e : StoreError) (known : Bool) → IsErr r × IsErrAnd r (λ y. y ≡ read_error e) → known ≡ true → (IsErrOf {T = U} (Err e) store.Missing → known ≡ false) → IsErrOf r read.Missing → A
not_missed r e known handed there unknown is = absurd (true≢false (sym there ∙ unknown (ap Err (missing_too e (error_of r e read.Missing handed.1 is)))))

-- ---- the files, of a store that was handed on

pub same_after : {S : Type 0} (file : S → Contents) (solid : S → Lengths) (old now after : S) → after ≡ now → SameFiles (file old) (file now) (solid old) (solid now) → SameFiles (file old) (file after) (solid old) (solid after)
same_after file solid old now after is same = subst (λ s. SameFiles (file old) (file s) (solid old) (solid s)) (sym is) same

pub same_twice : {S : Type 0} (file : S → Contents) (solid : S → Lengths) (old now next : S) → SameFiles (file old) (file now) (solid old) (solid now) → SameFiles (file now) (file next) (solid now) (solid next) → SameFiles (file old) (file next) (solid old) (solid next)
same_twice file solid old now next first second name = let a = first name in let b = second name in (b.0 ∙ a.0, b.1 ∙ a.1)
