-- The value that an Option has.
use Rattle.std.proofs.Common.{◌≡◌, Option, Some, sym, ◌∙◌, ap}
use Rattle.std.specs.Prelude.{unwrap_or}

pub same_value : {A : Type 0} (x y : A) {o : Option A} → o ≡ Some x → o ≡ Some y → x ≡ y
same_value x y is_x is_y = ap (λ o. unwrap_or o x) (sym is_x ∙ is_y)
