-- Fields that say a slot: `M:S`.
use Rattle.std.specs.Prelude.{◌==◌, ◌^◌, ◌<◌, ℕ, Bool, List, length}
use Rattle.std.specs.List.{after_first, before_first, position_or_len}
use Rattle.std.specs.Str.Parse.{IsNumeral, without_leading_plus}
use Rattle.claim_id.specs.declared.numbers.SlotId.{SlotId}
use Rattle.daemon_texts.specs.NumberTexts.{number_of}

abbrev pub is_colon : ℕ → Bool
is_colon byte = byte == 58

-- a number of 16 bits, where there may be a plus or zeros in front
abbrev pub IsShort : List ℕ → Type 0
IsShort text = IsNumeral 10 (without_leading_plus text) × (number_of text < 2 ^ 16)

-- there is a colon, and before the first one, and after it, stands such a number
pub record IsSlotField (field : List ℕ) : Type 0 where
  pub colon : position_or_len is_colon field < length field
  pub machine : IsShort (before_first is_colon field)
  pub slot : IsShort (after_first is_colon field)

-- the slot that such a field says
abbrev pub slot_of : List ℕ → SlotId
slot_of field = record {
  machine = number_of (before_first is_colon field);
  slot = number_of (after_first is_colon field);
}
