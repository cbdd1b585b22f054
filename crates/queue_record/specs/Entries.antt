-- What a line of a log says, as a function of its bytes.
use Rattle.std.specs.Prelude.{ℕ, ◌&&◌, not, nat_le, nat_eq, Bool, List, [], length, codes, Option, Some, None, option_map, option_and_then, Result, Ok, Err, if◌then◌else◌}
use Rattle.std.specs.Char.{is_ascii_digit}
use Rattle.std.specs.List.{list_all}
use Rattle.std.specs.Str.{bytes_eq, is_utf8}
use Rattle.std.specs.Str.Parse.{digits_value}
use Rattle.ad_tree.specs.Tree.{Tree}
use Rattle.ad_token.specs.Names.{is_name}
use Rattle.ad_parse.specs.declared.error.ParseError.{ParseError}
use Rattle.ad_token.specs.Blanks.{past_blanks}
use Rattle.ad_parse.specs.ExprText.{expression_at}
use Rattle.queue_tx.specs.declared.key.Key.{Key}
use Rattle.queue_tx.specs.Operations.{Operation, new_ad, destroy_ad, set_attr, delete_attr, operation}
use Rattle.queue_record.specs.declared.stamp.TheConstants.{LAST_SEQUENCE}
use Rattle.queue_record.specs.declared.entry.LogEntry.{LogEntry}
use Rattle.queue_record.specs.declared.entry.LogEntry.TheVariants as line
use Rattle.queue_record.specs.Words.{first_word, past_word, begins_blank, are_blanks, with_word, at_end}
use Rattle.queue_record.specs.Keys.{key_at}

-- what a line says, apart from where it lies in memory
pub data Entry : Type 0 where
  begins : Entry
  ends : Entry
  does : Operation → Entry
  stamped : ℕ → Entry

abbrev pub entry : LogEntry → Entry
entry line.Begin = begins
entry line.End = ends
entry (line.Operation op) = does (operation op)
entry (line.Stamp sequence) = stamped sequence

-- ---- operations: what the words behind the code say

-- the key behind one blank, and what follows it
abbrev pub next_key : List ℕ → Option (Key × List ℕ)
next_key bs = with_word bs (λ word after. option_map (λ key. (key, after)) (key_at word))

-- what is made of the two
abbrev pub with_key : {A : Type 0} → List ℕ → (Key → List ℕ → Option A) → Option A
with_key bs f = option_and_then (λ p. f p.0 p.1) (next_key bs)

abbrev pub new_from : Key → List ℕ → List ℕ → Option Operation
new_from key kind after =
    if are_blanks after then Some (new_ad key kind [])
    else with_word after (λ other rest. at_end rest (new_ad key kind other))

abbrev pub new_with : Key → List ℕ → Option Operation
new_with key after =
    if are_blanks after then Some (new_ad key [] [])
    else with_word after (new_from key)

-- `101 KEY`, and no word, one or two
unfoldable pub new_at : List ℕ → Option Operation
new_at after = with_key after new_with

-- `102 KEY`
unfoldable pub destroy_at : List ℕ → Option Operation
destroy_at after = with_key after (λ key rest. at_end rest (destroy_ad key))

abbrev pub tree_in : Result Tree ParseError → Option Tree
tree_in (Ok e) = Some e
tree_in (Err f) = None

abbrev pub set_to : Key → List ℕ → List ℕ → Option Operation
set_to key name text = option_map (set_attr key name) (tree_in (expression_at text))

abbrev pub set_from : Key → List ℕ → List ℕ → Option Operation
set_from key name after =
    if is_name name && begins_blank after then set_to key name (past_blanks after)
    else None

abbrev pub set_with : Key → List ℕ → Option Operation
set_with key after = with_word after (set_from key)

-- `103 KEY NAME EXPRESSION`: the expression is the rest of the line, without the blanks before it
unfoldable pub set_at : List ℕ → Option Operation
set_at after = with_key after set_with

abbrev pub delete_from : Key → List ℕ → List ℕ → Option Operation
delete_from key name after =
    if is_name name then at_end after (delete_attr key name)
    else None

abbrev pub delete_with : Key → List ℕ → Option Operation
delete_with key after = with_word after (delete_from key)

-- `104 KEY NAME`
unfoldable pub delete_at : List ℕ → Option Operation
delete_at after = with_key after delete_with

-- ---- the stamp

-- digits, and at least one
abbrev pub is_numeral : List ℕ → Bool
is_numeral word = not (nat_eq (length word) 0) && list_all is_ascii_digit word

-- a number, or 0 where it is above the greatest that is counted on
abbrev pub counted_on : ℕ → ℕ
counted_on n = if nat_le n LAST_SEQUENCE then n else 0

abbrev pub sequence_of : List ℕ → ℕ
sequence_of digits = counted_on (digits_value 10 digits)

abbrev pub stamp_of : List ℕ → List ℕ → List ℕ → List ℕ → Option ℕ
stamp_of number word time rest =
    if bytes_eq word (codes "CreationTimestamp")
    && (is_numeral number && (is_numeral time && are_blanks rest))
    then Some (sequence_of number)
    else None

-- `107 N CreationTimestamp T`
unfoldable pub stamp_at : List ℕ → Option ℕ
stamp_at after =
    with_word after (λ number bs.
    with_word bs (λ word cs.
    with_word cs (stamp_of number word)))

-- ---- a line

-- what a line says by its first word and what follows it; behind `106` any text may follow a blank
unfoldable pub entry_by : List ℕ → List ℕ → Option Entry
entry_by word after =
    if bytes_eq word (codes "101") then option_map does (new_at after)
    else (if bytes_eq word (codes "102") then option_map does (destroy_at after)
    else (if bytes_eq word (codes "103") then option_map does (set_at after)
    else (if bytes_eq word (codes "104") then option_map does (delete_at after)
    else (if bytes_eq word (codes "105") then at_end after begins
    else (if bytes_eq word (codes "106") then Some ends
    else (if bytes_eq word (codes "107") then option_map stamped (stamp_at after)
    else None))))))

-- what a line says; none where it is no record
unfoldable pub entry_at : List ℕ → Option Entry
entry_at bytes = if is_utf8 bytes then entry_by (first_word bytes) (past_word bytes) else None
