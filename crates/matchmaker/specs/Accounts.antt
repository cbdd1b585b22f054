-- What an accountant keeps.
use Rattle.std.specs.Prelude.{◌≡◌, ◌≤◌, ◌-◌, ℕ, List, [], ◌∷◌, All, length, map, Option, Some, None, unwrap_or, if◌then◌else◌, bytes_eq}
use Rattle.matchmaker.specs.declared.standing.Standing.{Standing}
use Rattle.matchmaker.specs.declared.accountant.TheConstants.{MAX_USERS}
use Rattle.matchmaker.specs.declared.priority.TheConstants.{BEST, WORST}
use Rattle.matchmaker.specs.declared.standing.TheConstants.{MAX_SLOTS, MAX_FACTOR, NEW_FACTOR}
use Rattle.matchmaker.specs.Priority.{priority_after}

-- users in the order in which they came, no name twice
abbrev pub Users : Type 0
Users = List (List ℕ × Standing)

pub record Accounts : Type 0 where
  pub at_tick : ℕ
  pub users : Users

abbrev pub new_standing : Standing
new_standing = record { real = BEST; in_use = 0; factor = NEW_FACTOR; ceiling = None }

-- what stands of a user, if anything does
abbrev pub lookup : List ℕ → Users → Option Standing
lookup user [] = None
lookup user (u ∷ us) = if bytes_eq user u.0 then Some u.1 else lookup user us

-- how a user stands, known or not
abbrev pub standing_of : List ℕ → Users → Standing
standing_of user us = unwrap_or (lookup user us) new_standing

-- a user stands so; a new one comes last
abbrev pub with_standing : List ℕ → Standing → Users → Users
with_standing user s [] = (user, s) ∷ []
with_standing user s (u ∷ us) =
    if bytes_eq user u.0 then (u.0, s) ∷ us else u ∷ with_standing user s us

-- a new user would be one too many
abbrev pub IsFullFor : List ℕ → Users → Type 0
IsFullFor user us = (lookup user us ≡ None) × (length us ≡ MAX_USERS)

-- a user stands so many ticks later
abbrev pub standing_after : ℕ → Standing → Standing
standing_after ticks s = record s { real = priority_after ticks s.in_use s.real }

abbrev pub accounts_at : ℕ → Accounts → Accounts
accounts_at tick a = record {
  at_tick = tick;
  users = map (λ u. (u.0, standing_after (tick - a.at_tick) u.1)) a.users;
}

-- what a user is charged, and is given
abbrev pub charged : ℕ → Standing → Standing
charged slots s = record s { in_use = slots }

abbrev pub with_factor : ℕ → Standing → Standing
with_factor factor s = record s { factor = factor }

abbrev pub with_ceiling : ℕ → Standing → Standing
with_ceiling slots s = record s { ceiling = Some slots }

-- the accounts once a user's standing has changed so
abbrev pub changed_for : List ℕ → (Standing → Standing) → Accounts → Accounts
changed_for user change a =
    record a { users = with_standing user (change (standing_of user a.users)) a.users }

-- ---- what always holds

pub record IsStanding (s : Standing) : Type 0 where
  pub best : BEST ≤ s.real
  pub worst : s.real ≤ WORST
  pub slots : s.in_use ≤ MAX_SLOTS
  pub least : 1 ≤ s.factor
  pub most : s.factor ≤ MAX_FACTOR

abbrev pub AreUsers : Users → Type 0
AreUsers us = All (λ u. IsStanding u.1) us × (length us ≤ MAX_USERS)
