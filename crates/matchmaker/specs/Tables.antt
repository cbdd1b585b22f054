-- How the entries of a table show the users.
use Rattle.std.specs.Prelude.{ℕ, List, String, map, string_bytes}
use Rattle.matchmaker.specs.declared.standing.Standing.{Standing}
use Rattle.matchmaker.specs.Accounts.{Users, AreUsers, standing_after}

-- names and standings, apart from where they lie in memory
abbrev pub named_users : {A : Type 0} → List (String A × Standing) → Users
named_users es = map (λ e. (string_bytes e.0, e.1)) es

abbrev pub IsUserTable : {A : Type 0} → List (String A × Standing) → Type 0
IsUserTable es = AreUsers (named_users es)

-- every user so many ticks later
abbrev pub entry_after : {N : Type 0} → ℕ → N × Standing → N × Standing
entry_after ticks e = (e.0, standing_after ticks e.1)
