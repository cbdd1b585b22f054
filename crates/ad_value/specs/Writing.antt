-- Texts that are written piece by piece.
use Rattle.std.specs.Prelude.{◌≡◌, ℕ, List, ◌++◌, String, string_bytes}

-- a text that is written into has more bytes at its end, and all of its own
abbrev pub AddsText : {A : Type 0} → String A → String A → List ℕ → Type 0
AddsText old new more = string_bytes new ≡ string_bytes old ++ more
