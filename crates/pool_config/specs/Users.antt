-- Users as the entries of a table show them.
use Rattle.std.specs.Prelude.{ℕ, List, map, String, string_bytes}
use Rattle.ad_value.specs.declared.user_number.UserNumber.{UserNumber}

abbrev pub users_of : {A : Type 0} → List (String A × ℕ) → List UserNumber
users_of es = map (λ e. record { user = string_bytes e.0; number = e.1 }) es
