-- Results that fit, and those that do not.
use Rattle.std.proofs.Common.{◌≡◌, ℤ, pos, negsuc, Bool, true, false, true≢false, if◌then◌else◌, Option, Some, None, refl, ap, sym, w64, rules, tests}
use Rattle.std.specs.Option.{SomeIff}
use Rattle.std.specs.Prelude.{FitsSigned, int_div}
use Rattle.std.specs.Int.{CanDivide, IsNonZero}
use Rattle.ad_value.specs.Content.{error, integer}
use Rattle.ad_eval.specs.Operators.{is_in_range, integer_or_error}
use Rattle.ad_eval.specs.Checked.{checked_value}

pub fits_is : (z : ℤ) → (FitsSigned w64 z → is_in_range z ≡ true) × (is_in_range z ≡ true → FitsSigned w64 z)
fits_is (pos n) = (λ h. search (rules, tests), λ h. search (rules, tests))
fits_is (negsuc n) = (λ h. search (rules, tests), λ h. search (rules, tests))

by_test : (b : Bool) (z : ℤ) (r : Option ℤ) → SomeIff r (FitsSigned w64 z) z → (FitsSigned w64 z → b ≡ true) → (b ≡ true → FitsSigned w64 z) → checked_value r ≡ (if b then integer z else error)
by_test true z (Some n) h to from = ap integer h.1
by_test true z None h to from = absurd (h (from refl))
by_test false z (Some n) h to from = absurd (true≢false (sym (to h.0)))
by_test false z None h to from = refl

pub checked_is : (r : Option ℤ) (z : ℤ) → SomeIff r (FitsSigned w64 z) z → checked_value r ≡ integer_or_error z
checked_is r z h = by_test (is_in_range z) z r h (fits_is z).0 (fits_is z).1

-- a quotient by a divisor that is not 0
pub quotient_is : (r : Option ℤ) (a b : ℤ) → SomeIff r (CanDivide w64 a b) (int_div a b) → IsNonZero w64 b → checked_value r ≡ integer_or_error (int_div a b)
quotient_is (Some n) a b h z = checked_is (Some n) (int_div a b) (h.0.1, h.1)
quotient_is None a b h z = checked_is None (int_div a b) (λ f. h (z, f))
