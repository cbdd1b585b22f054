-- Facts of a result, one from another.
use Rattle.std.proofs.Common.{Result, Ok, Err, IfOk, IfErr, OnOk, OnErr}

module _ {T E : Type 0} where
  pub on_ok2 : {P Q R : Type 0} (r : Result T E) → OnOk r P → OnOk r Q → (P → Q → R) → OnOk r R
  on_ok2 (Ok x) p q f = f p q
  on_ok2 (Err e) p q f = tt

  pub on_ok : {P R : Type 0} (r : Result T E) → OnOk r P → (P → R) → OnOk r R
  on_ok (Ok x) p f = f p
  on_ok (Err e) p f = tt

  pub on_err : {P R : Type 0} (r : Result T E) → OnErr r P → (P → R) → OnErr r R
  on_err (Ok x) p f = tt
  on_err (Err e) p f = f p

  pub at_err : {P : Type 0} (r : Result T E) → P → OnErr r P
  at_err (Ok x) p = tt
  at_err (Err e) p = p

  pub at_ok : {P : Type 0} (r : Result T E) → P → OnOk r P
  at_ok (Ok x) p = p
  at_ok (Err e) p = tt

  pub if_ok : {P Q : T → Type 0} (r : Result T E) → IfOk r P → ((x : T) → P x → Q x) → IfOk r Q
  if_ok (Ok x) p f = f x p
  if_ok (Err e) p f = tt

  pub if_err : {P Q : E → Type 0} (r : Result T E) → IfErr r P → ((e : E) → P e → Q e) → IfErr r Q
  if_err (Ok x) p f = tt
  if_err (Err e) p f = f e p
