-- A name that is set is a macro too.
use Rattle.std.proofs.Common.{◌≡◌, List, ℕ, Result, Ok, Err, ap, ◌∙◌}
use Rattle.ad_value.specs.Names.{lowercase}
use Rattle.line_text.specs.Macros.{Macros, with_macro}
use Rattle.pool_config.specs.declared.error.ConfigError.{ConfigError}
use Rattle.pool_config.specs.Errors.{UnlessMemory}
use Rattle.pool_config.specs.Lines.{LinesSoFar, and_macro}
use Rattle.pool_config.specs.Settings.{SoFar}
use Rattle.pool_config.proofs.Readings.{unless_map}

module _ (name x : List ℕ) (t : Macros) (q : Result SoFar ConfigError) where
  pub kept : (s : SoFar) (u : Macros) → Ok s ≡ q → u ≡ with_macro (lowercase name) x t → Ok (record { settings = s; table = u }) ≡ and_macro name x t q
  kept s u is more =
      ap (λ (u : Macros). Ok (record { settings = s; table = u })) more ∙ ap (and_macro name x t) is

  pub not_kept : (e : ConfigError) → UnlessMemory (λ p. p ≡ q) (Err e) → UnlessMemory (λ p. p ≡ and_macro name x t q) (Err e)
  not_kept e =
      unless_map (λ (p : Result SoFar ConfigError). p ≡ q) (λ (p : Result LinesSoFar ConfigError). p ≡ and_macro name x t q) e (λ is. ap (and_macro name x t) is)
