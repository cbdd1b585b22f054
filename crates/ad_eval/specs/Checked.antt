-- A result that may be out of range.
use Rattle.std.specs.Prelude.{ℤ, Option, Some, None}
use Rattle.ad_value.specs.Content.{Content, error, integer}

abbrev pub checked_value : Option ℤ → Content
checked_value None = error
checked_value (Some n) = integer n
