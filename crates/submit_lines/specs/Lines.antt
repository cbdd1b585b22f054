-- What a line of a submit file says (HTCondor manual, "Submitting a job").
use Rattle.ad_value.specs.Bytes.{code}
use Rattle.std.specs.Prelude.{ℕ, ◌==◌, ◌&&◌, not, nat_eq, Bool, List, length, drop, codes, slice_index, slice_get, true, Option, Some, None, Result, Ok, Err, if◌then◌else◌}
use Rattle.std.specs.Option.{option_map_or}
use Rattle.ad_value.specs.Names.{same_name}
use Rattle.ad_token.specs.Lexing.{is_blank}
use Rattle.ad_token.specs.Blanks.{trimmed_text}
use Rattle.submit_lines.specs.declared.line.SubmitLine.{SubmitLine}
use Rattle.submit_lines.specs.declared.line.SubmitLine.TheVariants as line
use Rattle.submit_lines.specs.declared.line.LineFault.{LineFault}
use Rattle.submit_lines.specs.declared.line.LineFault.TheVariants as fault
use Rattle.submit_lines.specs.Names.{macro_name, after_name, is_reserved, is_unsupported, past_my}
use Rattle.ad_token.specs.Names.{is_name}

-- a name and its value, the same of an attribute's own line, or a queue statement
pub data LineMeaning : Type 0 where
  setting : List ℕ → List ℕ → LineMeaning
  attribute : List ℕ → List ℕ → LineMeaning
  queue : List ℕ → LineMeaning

abbrev pub LineResult : Type 0
LineResult = Result LineMeaning LineFault

-- what a line of the program's says
abbrev pub meaning_of : SubmitLine → LineMeaning
meaning_of (line.Setting name value) = setting name.now value.now
meaning_of (line.Attribute name value) = attribute name.now value.now
meaning_of (line.Queue text) = queue text.now

abbrev pub line_result_of : Result SubmitLine LineFault → LineResult
line_result_of (Ok l) = Ok (meaning_of l)
line_result_of (Err f) = Err f

-- the value after `=`, without blanks at its ends
abbrev pub value_of : List ℕ → Option (List ℕ)
value_of bs = if slice_index bs 0 == code "=" then Some (trimmed_text (drop 1 bs)) else None

-- an attribute's own line
abbrev pub attribute_line : List ℕ → List ℕ → LineResult
attribute_line name value =
    if is_name name && not (is_reserved name) then Ok (attribute name value)
    else Err fault.Bad

-- what follows `+`
abbrev pub plus_with : List ℕ → Option (List ℕ) → LineResult
plus_with name None = Err fault.Bad
plus_with name (Some value) = attribute_line name value

abbrev pub plus_line : List ℕ → LineResult
plus_line bs = plus_with (macro_name bs) (value_of (after_name bs))

-- `name = value`, where `MY.Name` is an attribute's own
abbrev pub plain_line : List ℕ → List ℕ → LineResult
plain_line name value =
    if nat_eq (length name) 0 then Err fault.Bad
    else (if is_unsupported name then Err fault.Unsupported
    else Ok (setting name value))

abbrev pub named_with : Option (List ℕ) → List ℕ → List ℕ → LineResult
named_with (Some own) name value = attribute_line own value
named_with None name value = plain_line name value

abbrev pub named_line : List ℕ → List ℕ → LineResult
named_line name value = named_with (past_my name) name value

-- a blank or nothing stands at a place
abbrev pub ends_at : ℕ → List ℕ → Bool
ends_at place bs = option_map_or is_blank (slice_get bs place) true

-- the word `queue` alone, or with a blank behind it
abbrev pub queue_line : List ℕ → List ℕ → LineResult
queue_line name text =
    if same_name name (codes "queue") && ends_at (length name) text
    then Ok (queue text)
    else Err fault.Bad

-- a line without `+`: its name, and the value where a sign follows
abbrev pub word_line : List ℕ → List ℕ → Option (List ℕ) → LineResult
word_line text name None = queue_line name text
word_line text name (Some value) = named_line name value

abbrev pub trimmed_line : List ℕ → LineResult
trimmed_line bs =
    if slice_index bs 0 == code "+" then plus_line (drop 1 bs)
    else word_line bs (macro_name bs) (value_of (after_name bs))

abbrev pub line_of : List ℕ → LineResult
line_of bs = trimmed_line (trimmed_text bs)
