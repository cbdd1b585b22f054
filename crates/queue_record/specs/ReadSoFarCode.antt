-- A code of readings, by which a proof tells them apart.
use Rattle.std.specs.Prelude.{◌≡◌, ◌⊎◌, ℕ, List, Option, refl}
use Rattle.std.specs.Coded.{Coded, code_by, coded×, coded⊎, coded_list, coded_option, coded_ℕ}
use base.Stored.{coded_unit}
use mathlib.Core.Logic.{inl, inr}
use Rattle.queue_tx.specs.Operations.{Operation}
use Rattle.queue_tx.specs.OperationCode.{operations_code}
use Rattle.queue_tx.specs.Queues.{KeyedAds, queue_code}
use Rattle.queue_record.specs.declared.error.RecordError.{RecordError}
use Rattle.queue_record.specs.declared.error.RecordError.TheVariants.{BadRecord, TooLong, Memory}
use Rattle.queue_record.specs.ReadSoFar.{ReadSoFar}

abbrev pub ErrorParts : Type 0
ErrorParts = ℕ ⊎ (ℕ ⊎ Unit {0})

abbrev pub parts_of_error : RecordError → ErrorParts
parts_of_error (BadRecord n) = inl n
parts_of_error (TooLong n) = inr (inl n)
parts_of_error Memory = inr (inr tt)

abbrev pub error_of_parts : ErrorParts → RecordError
error_of_parts (inl n) = BadRecord n
error_of_parts (inr (inl n)) = TooLong n
error_of_parts (inr (inr u)) = Memory

pub error_back : (e : RecordError) → error_of_parts (parts_of_error e) ≡ e
error_back (BadRecord n) = refl
error_back (TooLong n) = refl
error_back Memory = refl

abbrev pub error_code : Coded RecordError
error_code =
    code_by ErrorParts (coded⊎ coded_ℕ (coded⊎ coded_ℕ coded_unit))
    parts_of_error error_of_parts error_back

-- what was read, and where it stands
abbrev pub Read : Type 0
Read = List (List Operation) × (KeyedAds × Option (List Operation))

abbrev pub Place : Type 0
Place = ℕ × (ℕ × (List ℕ × (ℕ × (ℕ × (ℕ × Option RecordError)))))

abbrev pub parts_of_reading : ReadSoFar → Read × Place
parts_of_reading r = (
  (r.list, (r.queue, r.opened)),
  (r.begun, (r.line, (r.part, (r.size, (r.whole, (r.sequence, r.refusal)))))),
)

abbrev pub reading_of_parts : Read × Place → ReadSoFar
reading_of_parts p = record {
  list = p.0.0;
  queue = p.0.1.0;
  opened = p.0.1.1;
  begun = p.1.0;
  line = p.1.1.0;
  part = p.1.1.1.0;
  size = p.1.1.1.1.0;
  whole = p.1.1.1.1.1.0;
  sequence = p.1.1.1.1.1.1.0;
  refusal = p.1.1.1.1.1.1.1;
}

pub reading_back : (r : ReadSoFar) → reading_of_parts (parts_of_reading r) ≡ r
reading_back r = refl

abbrev pub read_code : Coded Read
read_code = coded× (coded_list operations_code) (coded× queue_code (coded_option operations_code))

abbrev pub place_code : Coded Place
place_code =
    coded× coded_ℕ (coded× coded_ℕ (coded× (coded_list coded_ℕ)
    (coded× coded_ℕ (coded× coded_ℕ (coded× coded_ℕ (coded_option error_code))))))

abbrev pub read_so_far_code : Coded ReadSoFar
read_so_far_code =
    code_by (Read × Place) (coded× read_code place_code)
    parts_of_reading reading_of_parts reading_back
