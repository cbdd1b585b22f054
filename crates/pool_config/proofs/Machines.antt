-- Machines as the program keeps them.
use Rattle.std.proofs.Common.{◌≡◌, ◌<◌, ◌≤◌, ◌+◌, ◌-◌, ◌^◌, ℕ, suc, true, List, [], ◌∷◌, length, map, drop, get_or, refl, ap, sym, ◌∙◌, arith}
use Rattle.std.proofs.Math.Seq.{drop-cons}
use Rattle.std.proofs.lemmas.Bool.{lt-ltb}
use Rattle.std.specs.Prelude.{◌||◌, nat_lt}
use Rattle.std.specs.List.{list_any}
use Rattle.std.specs.Str.{bytes_eq}
use Rattle.pool_config.specs.declared.config.Machine.{Machine}
use Rattle.pool_config.specs.declared.config.TheConstants.{MAX_MACHINES, MAX_SLOTS}
use Rattle.pool_config.specs.Configuration.{machine_of, total_slots}
use Rattle.pool_config.specs.Settings.{has_machine}

pub any_machine : (x : List ℕ) (ms : List Machine) → list_any (λ m. bytes_eq x m.name) ms ≡ has_machine x (map machine_of ms)
any_machine x [] = refl
any_machine x (m ∷ ms) = ap (λ b. bytes_eq x m.name || b) (any_machine x ms)

pub as_many : (ms : List Machine) → length (map machine_of ms) ≡ length ms
as_many [] = refl
as_many (m ∷ ms) = ap suc (as_many ms)

-- the place of the next machine is small
pub next_is_small : (ms : List Machine) (i place : ℕ) → length (map machine_of ms) ≤ MAX_MACHINES → i < length ms → place ≡ i → place + 1 < 2 ^ 16
next_is_small ms i place few inside at = omega (arith, as_many ms, few, inside, at)

-- ---- the slots of the machines that are left

left_slots : List Machine → ℕ → ℕ
left_slots ms i = total_slots (map machine_of (drop i ms))

slots_cut : (ms : List Machine) (i : ℕ) (m : Machine) → i < length ms → m ≡ get_or ms i m → left_slots ms i ≡ m.slots + left_slots ms (i + 1)
unfolding left_slots
slots_cut ms i m inside is =
    let one : suc i ≡ i + 1 = omega arith in
    ap (λ l. total_slots (map machine_of l)) (drop-cons ms i m inside ∙ ap (λ k. k ∷ drop (suc i) ms) (sym is)) ∙ ap (λ k. m.slots + total_slots (map machine_of (drop k ms))) one

module _ (most all now later left slots : ℕ) where
  above_by : (more : ℕ) → now ≡ slots + later → left + all ≡ most + now → left < slots → most < all + more
  above_by more cut so_far over = omega arith

  less_by : now ≡ slots + later → left + all ≡ most + now → slots ≤ left → left - slots + all ≡ most + later
  less_by cut so_far within = omega arith

module _ (ms : List Machine) (i : ℕ) (m : Machine) (left slots : ℕ) where
  -- they are too many
  pub above_left : (more : ℕ) → i < length ms → m ≡ get_or ms i m → slots ≡ m.slots → left + total_slots (map machine_of ms) ≡ MAX_SLOTS + total_slots (map machine_of (drop i ms)) → left < slots → true ≡ nat_lt MAX_SLOTS (total_slots (map machine_of ms) + more)
  unfolding left_slots
  above_left more inside is told so_far over =
      let all = total_slots (map machine_of ms) in
      sym (lt-ltb MAX_SLOTS (all + more) (above_by MAX_SLOTS all (left_slots ms i) (left_slots ms (i + 1)) left slots more (slots_cut ms i m inside is ∙ ap (λ k. k + left_slots ms (i + 1)) (sym told)) so_far over))

  -- they are not, yet
  pub within_left : i < length ms → m ≡ get_or ms i m → slots ≡ m.slots → left + total_slots (map machine_of ms) ≡ MAX_SLOTS + total_slots (map machine_of (drop i ms)) → slots ≤ left → left - slots + total_slots (map machine_of ms) ≡ MAX_SLOTS + total_slots (map machine_of (drop (i + 1) ms))
  unfolding left_slots
  within_left inside is told so_far within =
      less_by MAX_SLOTS (total_slots (map machine_of ms)) (left_slots ms i) (left_slots ms (i + 1)) left slots (slots_cut ms i m inside is ∙ ap (λ k. k + left_slots ms (i + 1)) (sym told)) so_far within
