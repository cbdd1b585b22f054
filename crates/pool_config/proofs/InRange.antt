-- The times, and the numbers of users, of a configuration are within their ranges.
use Rattle.std.proofs.Common.{◌≡◌, ◌≤◌, ◌⊎◌, inl, inr, ℕ, Bool, true, false, cond, List, [], ◌∷◌, All, Ok, sym, arith}
use Rattle.std.proofs.lemmas.List.Elements.{All-nil, All-cons, All-head, All-tail}
use Rattle.std.specs.Str.{bytes_eq}
use Rattle.ad_value.specs.declared.user_number.UserNumber.{UserNumber}
use Rattle.line_text.specs.Lines.{logical_lines}
use Rattle.pool_config.specs.declared.setting_word.Interval.{Interval}
use Rattle.pool_config.specs.declared.setting_word.Interval.TheVariants as interval
use Rattle.pool_config.specs.declared.value.TheConstants.{MAX_SECONDS, MAX_CEILING, MAX_FACTOR}
use Rattle.pool_config.specs.Configuration.{Configuration, plain_configuration}
use Rattle.pool_config.specs.Keys.{least_seconds}
use Rattle.pool_config.specs.Laws.{CountsLast, seconds_of}
use Rattle.pool_config.specs.Lines.{IsConfiguration}
use Rattle.pool_config.specs.Ranges.{HasSeconds, HasUsers, IsBetween, IsCeiling, IsFactor}
use Rattle.pool_config.specs.Settings.{with_seconds, with_user}
use Rattle.pool_config.proofs.Throughout.{IsUnbroken, between, throughout}
use Rattle.pool_config.proofs.Times.{last_counts}
use Rattle.submit_lines.specs.Numbers.{decimal}

-- ---- times

plain_seconds : HasSeconds plain_configuration
plain_seconds interval.ClassadLifetime = (omega arith, omega arith)
plain_seconds interval.UpdateInterval = (omega arith, omega arith)
plain_seconds interval.NegotiatorInterval = (omega arith, omega arith)
plain_seconds interval.AliveInterval = (omega arith, omega arith)
plain_seconds interval.JobLease = (omega arith, omega arith)
plain_seconds interval.ClaimLease = (omega arith, omega arith)
plain_seconds interval.MatchTimeout = (omega arith, omega arith)
plain_seconds interval.PeriodicExprInterval = (omega arith, omega arith)
plain_seconds interval.DecayTick = (omega arith, omega arith)
plain_seconds interval.MaxJobRetirementTime = (omega arith, omega arith)
plain_seconds interval.MachineMaxVacateTime = (omega arith, omega arith)

module _ (text : List ℕ) (i : Interval) where
  counted : (was n : ℕ) → IsBetween (least_seconds i) MAX_SECONDS was → CountsLast (logical_lines text) i was n → IsBetween (least_seconds i) MAX_SECONDS n
  counted was n first (inl none) = rw none.1 first
  counted was n first (inr last) = between (least_seconds i) MAX_SECONDS n (decimal last.expansion) last.is

pub seconds_fit : (text : List ℕ) (c : Configuration) → IsConfiguration text (Ok c) → HasSeconds c
seconds_fit text c is = λ i. counted text i (seconds_of i plain_configuration) (seconds_of i c) (plain_seconds i) (last_counts text c i is)

-- ---- users

-- what holds of the numbers of users, and of one more, holds of them with that one
module _ (P : ℕ → Type 0) where
  abbrev Fits : UserNumber → Type 0
  Fits x = P x.number

  fit_with : (u : List ℕ) (n : ℕ) (xs : List UserNumber) → P n → All Fits xs → All Fits (with_user u n xs)
  fit_with u n [] one all = All-cons Fits (record { user = u; number = n }) [] one (All-nil Fits)
  fit_with u n (x ∷ xs) one all = by (bytes_eq u x.user) (fit_with u n xs one (All-tail Fits x xs all))
    where
      by : (b : Bool) → All Fits (with_user u n xs) → All Fits (cond b (record { user = x.user; number = n } ∷ xs) (x ∷ with_user u n xs))
      by true rest = All-cons Fits (record { user = x.user; number = n }) xs one (All-tail Fits x xs all)
      by false rest = All-cons Fits x (with_user u n xs) (All-head Fits x xs all) rest

with_time : (i : Interval) (k : ℕ) (c : Configuration) → HasUsers c → HasUsers (with_seconds i k c)
with_time interval.ClassadLifetime k c has = record { ceilings = has.ceilings; factors = has.factors }
with_time interval.UpdateInterval k c has = record { ceilings = has.ceilings; factors = has.factors }
with_time interval.NegotiatorInterval k c has = record { ceilings = has.ceilings; factors = has.factors }
with_time interval.AliveInterval k c has = record { ceilings = has.ceilings; factors = has.factors }
with_time interval.JobLease k c has = record { ceilings = has.ceilings; factors = has.factors }
with_time interval.ClaimLease k c has = record { ceilings = has.ceilings; factors = has.factors }
with_time interval.MatchTimeout k c has = record { ceilings = has.ceilings; factors = has.factors }
with_time interval.PeriodicExprInterval k c has = record { ceilings = has.ceilings; factors = has.factors }
with_time interval.DecayTick k c has = record { ceilings = has.ceilings; factors = has.factors }
with_time interval.MaxJobRetirementTime k c has = record { ceilings = has.ceilings; factors = has.factors }
with_time interval.MachineMaxVacateTime k c has = record { ceilings = has.ceilings; factors = has.factors }

stay_fit : IsUnbroken HasUsers
stay_fit = record {
  machines = λ ms c has. record { ceilings = has.ceilings; factors = has.factors };
  spool = λ x c has. record { ceilings = has.ceilings; factors = has.factors };
  owner = λ x c is has. record { ceilings = has.ceilings; factors = has.factors };
  seconds = with_time;
  preemption = λ e c has. record { ceilings = has.ceilings; factors = has.factors };
  ceiling = λ u k c range has. record {
    ceilings = fit_with (λ n. n ≤ MAX_CEILING) u k c.ceiling range has.ceilings;
    factors = has.factors;
  };
  factor = λ u k c range has. record {
    ceilings = has.ceilings;
    factors = fit_with (IsBetween 1 MAX_FACTOR) u k c.prio_factor range has.factors;
  };
}

plain_users : HasUsers plain_configuration
plain_users = record { ceilings = All-nil IsCeiling; factors = All-nil IsFactor }

pub users_fit : (text : List ℕ) (c : Configuration) → IsConfiguration text (Ok c) → HasUsers c
users_fit = throughout HasUsers stay_fit plain_users
