-- A part that becomes something, and the whole around it.
use Rattle.std.proofs.Common.{◌≡◌, ◌≢◌, ◌+◌, ℕ, Bool, true, false, cond, List, [], ◌∷◌, ◌++◌, map, Option, Some, None, is_some, option_map, Result, Ok, Err, refl, ap, sym, ◌∙◌, subst}
use Rattle.std.proofs.lemmas.Bool.{ne_eqb}
use Rattle.std.proofs.lemmas.List.{map-append}
use Rattle.std.specs.Prelude.{◌&&◌, not, nat_le, nat_lt, OnOk}
use Rattle.ad_value.specs.declared.user_number.UserNumber.{UserNumber}
use Rattle.ad_tree.specs.Ad.{Attributes, with_attribute, IsFullFor}
use Rattle.ad_tree.specs.Tree.{Tree}
use Rattle.pool_config.specs.declared.config.Machine.{Machine}
use Rattle.pool_config.specs.declared.config.TheConstants.{MAX_MACHINE_ATTRIBUTES, MAX_SLOTS}
use Rattle.pool_config.specs.declared.error.ConfigError.{ConfigError}
use Rattle.pool_config.specs.declared.error.ConfigError.TheVariants as error
use Rattle.pool_config.specs.declared.setting_word.Interval.{Interval}
use Rattle.pool_config.specs.declared.setting_word.Interval.TheVariants as interval
use Rattle.pool_config.specs.declared.setting_word.PoolWord.TheVariants as pool
use Rattle.pool_config.specs.declared.value.TheConstants.{MAX_SECONDS}
use Rattle.pool_config.specs.Configuration.{Configuration, ConfiguredMachine, machine_of, plain_machine}
use Rattle.pool_config.specs.Errors.{Becomes}
use Rattle.pool_config.specs.Keys.{least_seconds}
use Rattle.pool_config.specs.Settings.{SoFar, with_value, number_within, with_seconds, with_config, pool_with, slots_with, is_full, attributes_with, attribute_with, with_last, last_with, and_last, with_machines, whole, machine_check, begin_if, begin_behind}
use Rattle.pool_config.proofs.Readings.{unless, unless_map}

module _ {X Y : Type 0} (f : X → Y) where
  mapped : Result X ConfigError → Result Y ConfigError
  mapped (Ok x) = Ok (f x)
  mapped (Err e) = Err e

  becomes : (new : X) (r : Result (Unit {0}) ConfigError) (q : Result X ConfigError) (p : Result Y ConfigError) → mapped q ≡ p → Becomes new r q → Becomes (f new) r p
  unfolding mapped
  becomes new (Ok u) q p is h = ap mapped h ∙ is
  becomes new (Err e) q p is h =
      unless_map (λ (k : Result X ConfigError). k ≡ q) (λ (k : Result Y ConfigError). k ≡ p) e (λ h. ap mapped h ∙ is) h

module _ {X : Type 0} (f : Tree → X) where
  valued : (n : ℕ) (o : Option Tree) → mapped f (with_value n (λ e. e) o) ≡ with_value n f o
  unfolding mapped
  valued n (Some e) = refl
  valued n None = refl

  pub value_becomes : (new : Tree) (n : ℕ) (r : Result (Unit {0}) ConfigError) (o : Option Tree) → Becomes new r (with_value n (λ e. e) o) → Becomes (f new) r (with_value n f o)
  value_becomes new n r o = becomes f new r (with_value n (λ e. e) o) (with_value n f o) (valued n o)

-- the machine whose attributes become something
module _ (x : List ℕ) (n : ℕ) (m : ConfiguredMachine) (e : Tree) where
  abbrev with_attrs : Attributes → ConfiguredMachine
  with_attrs ad = record m { attrs = ad }

  attributed : (b : Bool) → mapped with_attrs (cond b (Err (error.Full n)) (Ok (with_attribute x e m.attrs))) ≡ cond b (Err (error.Full n)) (Ok (with_attrs (with_attribute x e m.attrs)))
  unfolding mapped
  attributed true = refl
  attributed false = refl

  pub attribute_becomes : (new : Attributes) (r : Result (Unit {0}) ConfigError) (o : Option Tree) → Some e ≡ o → Becomes new r (attributes_with x n e m.attrs) → Becomes (with_attrs new) r (attribute_with x n m o)
  attribute_becomes new r o is h =
      subst (λ o. Becomes (with_attrs new) r (attribute_with x n m o)) is
      (becomes with_attrs new r (attributes_with x n e m.attrs) (attribute_with x n m (Some e)) (attributed (is_full x m.attrs)) h)

-- a machine that begins once the last one is kept, or may not begin
pub machine_begins : (x : List ℕ) (n : ℕ) (s kept : SoFar) (m : ConfiguredMachine) → kept ≡ record { config = whole s; last = None } → machine_check x n kept.config.machines ≡ Ok tt → m ≡ plain_machine x → Ok (record kept { last = Some m }) ≡ begin_behind x n (whole s)
machine_begins x n s kept m is checked plain =
    ap (λ m. Ok (record kept { last = Some m })) plain
    ∙ ap (λ (k : SoFar). Ok (record k { last = Some (plain_machine x) })) is
    ∙ ap (begin_if x (whole s)) (sym checked ∙ ap (λ (k : SoFar). machine_check x n k.config.machines) is)

pub machine_refused : (x : List ℕ) (n : ℕ) (s kept new : SoFar) (e : ConfigError) → kept ≡ record { config = whole s; last = None } → machine_check x n kept.config.machines ≡ Err e → Becomes new (Err e) (begin_behind x n (whole s))
machine_refused x n s kept new e is refused =
    unless (λ (q : Result SoFar ConfigError). q ≡ begin_behind x n (whole s)) (Err e)
    (ap (begin_if x (whole s)) (sym refused ∙ ap (λ (k : SoFar). machine_check x n k.config.machines) is))

-- ---- the last machine

module _ (s : SoFar) where
  last_is : ConfiguredMachine → SoFar
  last_is m = record s { last = Some m }

  set_last : (q : Result ConfiguredMachine ConfigError) → mapped last_is q ≡ with_last s q
  unfolding mapped last_is
  set_last (Ok m) = refl
  set_last (Err e) = refl

  pub last_becomes : (f : ConfiguredMachine → Result ConfiguredMachine ConfigError) (n : ℕ) (m new : ConfiguredMachine) (r : Result (Unit {0}) ConfigError) (o : Option ConfiguredMachine) → Some m ≡ o → Becomes new r (f m) → Becomes (record s { last = Some new }) r (last_with f n s o)
  unfolding last_is
  last_becomes f n m new r o is h =
      subst (λ o. Becomes (record s { last = Some new }) r (last_with f n s o)) is
      (becomes last_is new r (f m) (with_last s (f m)) (set_last (f m)) h)

-- it is kept behind the others, or there is none
module _ (c : Configuration) where
  state : List ConfiguredMachine → Option ConfiguredMachine → SoFar
  state ms o = record { config = with_machines ms c; last = o }

  abbrev IsKept : (ms : List Machine) (o after : Option Machine) (new : List Machine) → Type 0
  IsKept ms o after new = ◌≡◌ {A = SoFar} (record { config = with_machines (map machine_of new) c; last = option_map machine_of after }) (record { config = with_machines (and_last (map machine_of ms) (option_map machine_of o)) c; last = None })

  kept_behind : (ms new : List Machine) (m : Machine) (o after : Option Machine) → Some m ≡ o → after ≡ None → new ≡ ms ++ m ∷ [] → IsKept ms o after new
  unfolding state
  kept_behind ms new m o after is none put =
      (λ i. state (map machine_of (put i)) (option_map machine_of (none i)))
      ∙ ap (λ l. state l None) (map-append machine_of ms (m ∷ []))
      ∙ ap (λ o. state (and_last (map machine_of ms) (option_map machine_of o)) None) is

  pub last_kept : {T E : Type 0} (r : Result T E) (ms new : List Machine) (m : Machine) (o after : Option Machine) → Some m ≡ o → after ≡ None → OnOk r (new ≡ ms ++ m ∷ []) → OnOk r (IsKept ms o after new)
  last_kept (Ok x) ms new m o after is none put = kept_behind ms new m o after is none put
  last_kept (Err e) ms new m o after is none put = tt

  pub none_kept : (o after : Option Machine) → None ≡ o → after ≡ None →
      ◌≡◌ {A = SoFar} (record { config = c; last = option_map machine_of after }) (record { config = with_machines (and_last c.machines (option_map machine_of o)) c; last = None })
  unfolding state
  none_kept o after is none = ap (λ o. state c.machines (option_map machine_of o)) none ∙ ap (λ o. state (and_last c.machines (option_map machine_of o)) None) is

-- ---- seconds, beside the users' numbers

beside : (i : Interval) (k : ℕ) (c : Configuration) (a b : List UserNumber) → record (with_seconds i k c) { ceiling = a; prio_factor = b } ≡ with_seconds i k (record c { ceiling = a; prio_factor = b })
beside interval.ClassadLifetime k c a b = refl
beside interval.UpdateInterval k c a b = refl
beside interval.NegotiatorInterval k c a b = refl
beside interval.AliveInterval k c a b = refl
beside interval.JobLease k c a b = refl
beside interval.ClaimLease k c a b = refl
beside interval.MatchTimeout k c a b = refl
beside interval.PeriodicExprInterval k c a b = refl
beside interval.DecayTick k c a b = refl
beside interval.MaxJobRetirementTime k c a b = refl
beside interval.MachineMaxVacateTime k c a b = refl

pub seconds_become : (i : Interval) (k n least : ℕ) (x : List ℕ) (c new : Configuration) (a b : List UserNumber) (o : Option ConfiguredMachine) → new ≡ with_seconds i k c → least ≡ least_seconds i → Some k ≡ number_within least MAX_SECONDS x →
    Ok (record { config = record new { ceiling = a; prio_factor = b }; last = o }) ≡ pool_with (pool.Seconds i) x n (record { config = record c { ceiling = a; prio_factor = b }; last = o })
seconds_become i k n least x c new a b o is from told =
    let s : SoFar = record { config = record c { ceiling = a; prio_factor = b }; last = o } in
    ap (λ (d : Configuration). Ok (with_config (record d { ceiling = a; prio_factor = b }) s)) is
    ∙ ap (λ (d : Configuration). Ok (with_config d s)) (beside i k c a b)
    ∙ ap (with_value n (λ k. with_config (with_seconds i k s.config) s)) (told ∙ ap (λ m. number_within m MAX_SECONDS x) from)

-- ---- a number of slots that was looked at, and an attribute that an ad has no room for

pub slots_checked : (others n k : ℕ) (m : ConfiguredMachine) (o : Option ℕ) (b : Bool) → Some k ≡ o → k ≢ 0 → b ≡ nat_lt MAX_SLOTS (others + k) → cond b (Err (error.Slots n)) (Ok (record m { slots = k })) ≡ slots_with others n m o
slots_checked others n k m o b is some high =
    let put : Result ConfiguredMachine ConfigError = Ok (record m { slots = k }) in
    ap (λ b. cond b (Err (error.Slots n)) put) high
    ∙ ap (λ b. cond b (Err (error.BadValue n)) (cond (nat_lt MAX_SLOTS (others + k)) (Err (error.Slots n)) put)) (sym (ne_eqb k 0 some))
    ∙ ap (slots_with others n m) is

pub full_refused : (x : List ℕ) (n : ℕ) (e : Tree) (ad : Attributes) → IsFullFor x ad → Err (error.Full n) ≡ attributes_with x n e ad
full_refused x n e ad full =
    let room : is_full x ad ≡ true = λ i. nat_le MAX_MACHINE_ATTRIBUTES (full.1 i) && not (is_some (full.0 i)) in
    ap (λ b. cond b (Err (error.Full n)) (Ok (with_attribute x e ad))) (sym room)
