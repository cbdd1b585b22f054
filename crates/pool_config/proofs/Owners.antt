-- The owner of a configuration is a name.
use Rattle.std.proofs.Common.{◌≡◌, ℕ, List, true, Ok, refl, ap, ◌∙◌}
use Rattle.ad_token.specs.Names.{is_name, word_of}
use Rattle.pool_config.specs.declared.setting_word.Interval.{Interval}
use Rattle.pool_config.specs.declared.setting_word.Interval.TheVariants as interval
use Rattle.pool_config.specs.Configuration.{Configuration, plain_configuration}
use Rattle.pool_config.specs.Lines.{IsConfiguration}
use Rattle.pool_config.specs.Settings.{with_seconds}
use Rattle.pool_config.proofs.Throughout.{IsUnbroken, throughout}

abbrev IsNamed : Configuration → Type 0
IsNamed c = is_name c.owner ≡ true

same_owner : (i : Interval) (k : ℕ) (c : Configuration) → (with_seconds i k c).owner ≡ c.owner
same_owner interval.ClassadLifetime k c = refl
same_owner interval.UpdateInterval k c = refl
same_owner interval.NegotiatorInterval k c = refl
same_owner interval.AliveInterval k c = refl
same_owner interval.JobLease k c = refl
same_owner interval.ClaimLease k c = refl
same_owner interval.MatchTimeout k c = refl
same_owner interval.PeriodicExprInterval k c = refl
same_owner interval.DecayTick k c = refl
same_owner interval.MaxJobRetirementTime k c = refl
same_owner interval.MachineMaxVacateTime k c = refl

stays_named : IsUnbroken IsNamed
stays_named = record {
  machines = λ ms c named. named;
  spool = λ x c named. named;
  owner = λ x c is named. is;
  seconds = λ i k c named. ap is_name (same_owner i k c) ∙ named;
  preemption = λ e c named. named;
  ceiling = λ u k c range named. named;
  factor = λ u k c range named. named;
}

first_named : is_name plain_configuration.owner ≡ true
unfolding is_name word_of
first_named = refl

pub owner_named : (text : List ℕ) (c : Configuration) → IsConfiguration text (Ok c) → is_name c.owner ≡ true
owner_named = throughout IsNamed stays_named first_named
