-- The ads that a collector keeps (HTCondor manual, The Collector Daemon).
use Rattle.std.specs.Prelude.{◌≡◌, ℕ, ◌+◌, ◌-◌, ◌<◌, ◌≤◌, nat_le, ◌==◌, Bool, true, false, not, ◌&&◌, List, ◌∷◌, ◌++◌, length, map, filter, take, drop, Result, Ok, Err}
use Rattle.std.specs.List.{list_any}
use Rattle.std.specs.List.Sorted.{IsStrictlySortedBy}
use Rattle.std.specs.declared.cmp.Ordering.{Ordering}
use Rattle.std.specs.Ordering.{is_lt, is_eq, is_gt, nat_cmp}
use Rattle.std.specs.Cmp.Lexicographic.{slice_cmp}
use Rattle.claim_id.specs.declared.numbers.SlotId.{SlotId}
use Rattle.pool_mail.specs.declared.slot_ad.SlotAd.{SlotAd}
use Rattle.matchmaker.specs.declared.kept.KeptAd.{KeptAd}
use Rattle.matchmaker.specs.declared.kept.TheConstants.{MAX_NAMES}

-- what a collector keeps, in order of name, one ad of each
pub record Contents : Type 0 where
  pub lifetime : ℕ
  pub kept : List KeptAd

-- how its name stands to another one, by bytes
abbrev pub name_order : List ℕ → KeptAd → Ordering
name_order name k = slice_cmp nat_cmp k.ad.name name

abbrev pub IsInOrder : List KeptAd → Type 0
IsInOrder ks = IsStrictlySortedBy (λ j k. name_order k.ad.name j) ks

abbrev pub AreKept : List KeptAd → Type 0
AreKept ks = IsInOrder ks × (length ks ≤ MAX_NAMES)

abbrev pub has_name : List ℕ → KeptAd → Bool
has_name name k = is_eq (name_order name k)

-- with one ad more, which takes the place of the one of its name
abbrev pub with_ad : KeptAd → List KeptAd → List KeptAd
with_ad one ks =
    filter (λ k. is_lt (name_order one.ad.name k)) ks
    ++ one ∷ filter (λ k. is_gt (name_order one.ad.name k)) ks

-- a new name would be one too many
abbrev pub IsFullFor : List ℕ → List KeptAd → Type 0
IsFullFor name ks = (list_any (has_name name) ks ≡ false) × (length ks ≡ MAX_NAMES)

-- ---- ages

-- the age is 0 where the update is later
abbrev pub is_fresh : ℕ → ℕ → KeptAd → Bool
is_fresh lifetime now k = nat_le (now - k.updated) lifetime

abbrev pub fresh_ads : ℕ → ℕ → List KeptAd → List SlotAd
fresh_ads lifetime now ks = map (λ k. k.ad) (filter (is_fresh lifetime now) ks)

-- ---- slots

abbrev pub is_of : SlotId → KeptAd → Bool
is_of slot k = (k.ad.slot.machine == slot.machine) && (k.ad.slot.slot == slot.slot)

abbrev pub without_slot : SlotId → List KeptAd → List KeptAd
without_slot slot ks = filter (λ k. not (is_of slot k)) ks

-- ---- where a name stands

-- those before it are before the place, and those after it from the place on, or behind it
abbrev pub IsPlaceOf : List ℕ → List KeptAd → Result ℕ ℕ → Type 0
IsPlaceOf name ks (Ok i) =
    (i < length ks)
    × (list_any (has_name name) ks ≡ true)
    × (filter (λ k. is_lt (name_order name k)) ks ≡ take i ks)
    × (filter (λ k. is_gt (name_order name k)) ks ≡ drop (i + 1) ks)
IsPlaceOf name ks (Err i) =
    (i ≤ length ks)
    × (list_any (has_name name) ks ≡ false)
    × (filter (λ k. is_lt (name_order name k)) ks ≡ take i ks)
    × (filter (λ k. is_gt (name_order name k)) ks ≡ drop i ks)
