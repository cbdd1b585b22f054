-- When jobs were looked at last, by the job and by the time.
use Rattle.std.specs.Prelude.{◌≡◌, ◌≤◌, ℕ, Bool, true, false, List, Option, Some, None, is_some, MatchOption, if◌then◌else◌}
use Rattle.std.specs.Cmp.{IsTotalOrder, then_total, on_total, nat_cmp_total, eq_by_cmp_equiv, partial_equiv_from_equiv, partial_order_from_total, IsEquivalence, IsPartialEquivalence, IsPartialOrder}
use Rattle.std.specs.Map.{lookup}
use Rattle.std.specs.Ordering.{nat_cmp, on, then_cmp, as_partial_cmp, eq_by_cmp, is_gt}
use Rattle.std.specs.declared.cmp.Ordering.{Ordering}
use Rattle.std.specs.declared.ops.Bound.{Bound}
use denote.Ref.{Bor}
use Rattle.ordered_map.specs.Trees.{is_past}
use Rattle.queue_tx.specs.declared.key.Key.{Key}
use Rattle.queue_tx.specs.Keys.{key_cmp, key_cmp_total, same_key}
use Rattle.schedd_state.specs.declared.looks.Look.{Look}
use Rattle.schedd_state.specs.declared.looks.Noted.{Noted}

-- ---- their order
abbrev pub time_of : Look → ℕ
time_of l = l.at

abbrev pub key_in : Look → Key
key_in l = l.key

-- by time, then by key
abbrev pub look_cmp : Look → Look → Ordering
look_cmp = then_cmp (on time_of nat_cmp) (on key_in key_cmp)

abbrev pub same_look : Look → Look → Bool
same_look = eq_by_cmp look_cmp

pub look_cmp_total : IsTotalOrder look_cmp
look_cmp_total = then_total (on_total time_of nat_cmp_total) (on_total key_in key_cmp_total)

pub same_look_laws : IsEquivalence same_look
same_look_laws = eq_by_cmp_equiv look_cmp_total

pub same_look_partial : IsPartialEquivalence same_look
same_look_partial = partial_equiv_from_equiv same_look_laws

pub look_order_laws : IsPartialOrder same_look (as_partial_cmp look_cmp)
look_order_laws = partial_order_from_total look_cmp_total

-- ---- which there are
abbrev pub look_of : Key → Option ℕ → Option Look
look_of key None = None
look_of key (Some at) = Some (record { at = at; key = key })

abbrev pub is_look : Option Look → Look → Bool
is_look None l = false
is_look (Some m) l = same_look m l

abbrev pub has_look : Look → List (Look × Noted) → Bool
has_look l times = is_some (lookup (same_look l) times)

-- one look is given up, another is taken, and the others are as they were
abbrev pub SetsTimes
    : Option Look → Option Look → List (Look × Noted) → List (Look × Noted) → Type 0
SetsTimes lost come old new = (l : Look) → has_look l new
    ≡ (if is_look come l then true else (if is_look lost l then false else has_look l old))

-- the looks are the last ones at the jobs
abbrev pub AreTimes : List (Look × Noted) → List (Key × ℕ) → Type 0
AreTimes times jobs = (l : Look)
    → has_look l times ≡ is_look (look_of l.key (lookup (same_key l.key) jobs)) l

-- ---- the job whose last look is the longest ago
abbrev pub IsOldest : List (Key × ℕ) → Option (Key × ℕ) → Type 0
IsOldest jobs found = MatchOption found
    ((key : Key) → lookup (same_key key) jobs ≡ None)
    (λ f. (lookup (same_key f.0) jobs ≡ Some f.1)
    × ((key : Key) (at : ℕ) → lookup (same_key key) jobs ≡ Some at → f.1 ≤ at))

-- ---- one look after the other
abbrev pub IsLookOf : List (Key × ℕ) → Look → Type 0
IsLookOf jobs l = lookup (same_key l.key) jobs ≡ Some l.at

-- the first look past a bound
pub record IsFirstLook (jobs : List (Key × ℕ)) (start : Bound (Bor Look)) (look : Look)
    : Type 0 where
  pub is : IsLookOf jobs look
  pub past : is_past look_cmp start look ≡ true
  pub first : (other : Look) → IsLookOf jobs other → is_past look_cmp start other ≡ true
      → is_gt (look_cmp look other) ≡ false

abbrev pub FirstLook : List (Key × ℕ) → Bound (Bor Look) → Option Look → Type 0
FirstLook jobs start found = MatchOption found
    ((look : Look) → IsLookOf jobs look → is_past look_cmp start look ≡ false)
    (λ look. IsFirstLook jobs start look)
