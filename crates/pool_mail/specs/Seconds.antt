-- How long a pool may wait.
use Rattle.std.specs.Prelude.{ℕ, ◌<◌, ◌≤◌}
use Rattle.pool_mail.specs.declared.settings.TheConstants.{MAX_SECONDS}

abbrev pub IsSeconds : ℕ → Type 0
IsSeconds n = (0 < n) × (n ≤ MAX_SECONDS)
