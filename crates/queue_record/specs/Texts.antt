-- The one text that is written of a transaction.
use Rattle.std.specs.Prelude.{◌≡◌, ℕ, ◌+◌, ◌||◌, not, nat_lt, nat_le, Bool, true, List, [], ◌∷◌, ◌++◌, length, codes, Option, Some, None, option_map, if◌then◌else◌}
use Rattle.std.specs.Str.{IsUtf8}
use Rattle.ad_value.specs.Bytes.{code}
use Rattle.ad_parse.specs.Canon.{canon}
use Rattle.queue_tx.specs.Operations.{Operation, new_ad, destroy_ad, set_attr, delete_attr}
use Rattle.queue_record.specs.declared.entry.TheConstants.{MAX_LINE}
use Rattle.queue_record.specs.declared.error.PrintError.{PrintError}
use Rattle.queue_record.specs.declared.error.PrintError.TheVariants.{TooLong, Memory}
use Rattle.queue_record.specs.declared.print.TheConstants.{MAX_EXPRESSION}
use Rattle.queue_record.specs.Keys.{key_text}

-- a word behind one blank
abbrev pub word_text : List ℕ → List ℕ
word_text word = codes " " ++ word

-- the line of an operation, without its newline
abbrev pub op_line : Operation → List ℕ
op_line (new_ad key kind other) = codes "101 " ++ key_text key ++ word_text kind ++ word_text other
op_line (destroy_ad key) = codes "102 " ++ key_text key
op_line (set_attr key name e) =
    codes "103 " ++ key_text key ++ word_text name ++ word_text (canon e)
op_line (delete_attr key name) = codes "104 " ++ key_text key ++ word_text name

-- the expression is short enough
abbrev pub prints_short : Operation → Bool
prints_short (set_attr key name e) = nat_le (length (canon e)) MAX_EXPRESSION
prints_short o = true

-- the line would be too long, or its expression
abbrev pub is_long : Operation → Bool
is_long o = not (prints_short o) || nat_lt MAX_LINE (length (op_line o))

-- the place of the first such operation
abbrev pub first_long : List Operation → Option ℕ
first_long [] = None
first_long (o ∷ os) = if is_long o then Some 0 else option_map (λ n. n + 1) (first_long os)

-- each line is UTF-8
abbrev pub AreTexts : List Operation → Type 0
AreTexts [] = Unit {0}
AreTexts (o ∷ os) = IsUtf8 (op_line o) × AreTexts os

-- the lines of operations, each with its newline
abbrev pub ops_text : List Operation → List ℕ
ops_text [] = []
ops_text (o ∷ os) = op_line o ++ code "\n" ∷ ops_text os

-- the text of a transaction
abbrev pub tx_text : List Operation → List ℕ
tx_text os = codes "105\n" ++ (ops_text os ++ codes "106\n")

-- why a transaction has no text
abbrev pub IsTooLong : List Operation → PrintError → Type 0
IsTooLong os (TooLong op) = first_long os ≡ Some op
IsTooLong os Memory = Unit {0}
