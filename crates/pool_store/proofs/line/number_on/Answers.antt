use Rattle.std.proofs.Common.{subst, sym}
use Rattle.std.specs.Str.{IsUtf8}
use Rattle.std.proofs.lemmas.Str.{IsUtf8-from_ascii}
use Rattle.std.proofs.lemmas.Fmt.{IsAscii-decimal}
use Rattle.pool_store.proofs.line.number_on.Goals as goal

pub returns-in-Err : goal.returns-in-Err
returns-in-Err c = λ n. (λ h. absurd (cc h), λ is. absurd (c.in-Err.ensures.cases.0 (subst (λ bs. IsUtf8 bs) (sym is.1) (IsUtf8-from_ascii _ (IsAscii-decimal n is.0)))))
