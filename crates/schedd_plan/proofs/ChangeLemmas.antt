-- A change that was made where there was no error.
use Rattle.std.proofs.Common.{◌≡◌, false, true≢false, Result, Ok, Err, sym}
use Rattle.std.specs.Result.{OnOk, is_err}

pub told_at_ok : {T E : Type 0} (r : Result T E) (P : Type 0) → false ≡ is_err r → OnOk r P → P
told_at_ok (Ok v) P h told = told
told_at_ok (Err e) P h told = absurd (true≢false (sym h))
