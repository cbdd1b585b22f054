-- What a line of a log says (HTCondor manual, "The job queue log"), also in the forms that are read
-- and never written: with tabs, with more blanks at the end or before an expression, a new ad
-- without its words, text behind `106`, a line `107`.
use Rattle.std.specs.Prelude.{◌≡◌, ◌≤◌, ◌<◌, ℕ, IsTrue, not, Bool, true, List, [], ◌∷◌, ◌++◌, length, codes}
use Rattle.std.specs.Str.{IsUtf8}
use Rattle.std.specs.List.{list_all}
use Rattle.ad_tree.specs.Tree.{Tree}
use Rattle.ad_token.specs.Lexing.{is_blank}
use Rattle.ad_token.specs.Names.{is_name}
use Rattle.ad_parse.specs.ExprText.{IsExprText}
use Rattle.queue_tx.specs.declared.key.Key.{Key}
use Rattle.queue_tx.specs.Operations.{new_ad, destroy_ad, set_attr, delete_attr}
use Rattle.queue_record.specs.declared.entry.TheConstants.{MAX_LINE}
use Rattle.queue_record.specs.declared.error.RecordError.{RecordError}
use Rattle.queue_record.specs.declared.error.RecordError.TheVariants as refusal
use Rattle.queue_record.specs.Keys.{IsKeyWord}
use Rattle.queue_record.specs.Words.{are_blanks}
use Rattle.queue_record.specs.Entries.{Entry, begins, ends, does, stamped, is_numeral, sequence_of}

-- ---- the words of a line

abbrev pub AreBlanks : List ℕ → Type 0
AreBlanks bs = IsTrue (are_blanks bs)

-- a word may end before a blank, and at the end of the line
abbrev pub may_end_before : List ℕ → Bool
may_end_before [] = true
may_end_before (b ∷ bs) = is_blank b

-- a word without blanks, and what follows it
pub record IsWordBefore (text word after : List ℕ) : Type 0 where
  pub parts : text ≡ word ++ after
  pub solid : IsTrue (list_all (λ b. not (is_blank b)) word)
  pub ended : IsTrue (may_end_before after)

-- the same behind one blank
pub record IsNextWord (text word after : List ℕ) : Type 0 where
  pub blank : ℕ
  pub rest : List ℕ
  pub parts : text ≡ blank ∷ rest
  pub divides : IsTrue (is_blank blank)
  pub word_is : IsWordBefore rest word after

-- words, each behind one blank, and what follows the last
abbrev pub AreWordsBefore : List ℕ → List (List ℕ) → List ℕ → Type 0
AreWordsBefore text [] after = text ≡ after
AreWordsBefore text (word ∷ words) after =
    (rest : List ℕ) × (IsNextWord text word rest × AreWordsBefore rest words after)

-- words, each behind one blank, and only blanks behind the last
abbrev pub AreWords : List ℕ → List (List ℕ) → Type 0
AreWords text words = (after : List ℕ) × (AreWordsBefore text words after × AreBlanks after)

-- a key, words, and only blanks behind the last
abbrev pub AreKeyAndWords : List ℕ → Key → List (List ℕ) → Type 0
AreKeyAndWords text key words =
    (word : List ℕ) × (IsKeyWord word key × AreWords text (word ∷ words))

-- ---- what follows the first word

-- the words of a new ad; those that are not there are empty
pub data AreKinds : List (List ℕ) → List ℕ → List ℕ → Type 0 where
  neither : AreKinds [] [] []
  one : {kind : List ℕ} → AreKinds (kind ∷ []) kind []
  both : {kind other : List ℕ} → AreKinds (kind ∷ other ∷ []) kind other

-- a key, a name, at least one blank, and a text that says the expression
pub record IsSetting (text : List ℕ) (key : Key) (name : List ℕ) (e : Tree) : Type 0 where
  pub word : List ℕ
  pub after : List ℕ
  pub blank : ℕ
  pub blanks : List ℕ
  pub expression : List ℕ
  pub key_is : IsKeyWord word key
  pub words : AreWordsBefore text (word ∷ name ∷ []) after
  pub name_fits : IsTrue (is_name name)
  pub parts : after ≡ blank ∷ (blanks ++ expression)
  pub divides : IsTrue (is_blank blank)
  pub are_blanks : AreBlanks blanks
  pub says : IsExprText expression e

-- a number, the word, and the time, each of digits alone
pub record IsStamp (text : List ℕ) (sequence : ℕ) : Type 0 where
  pub number : List ℕ
  pub time : List ℕ
  pub words : AreWords text (number ∷ codes "CreationTimestamp" ∷ time ∷ [])
  pub number_fits : IsTrue (is_numeral number)
  pub time_fits : IsTrue (is_numeral time)
  pub says : sequence ≡ sequence_of number

-- the first word of a line
abbrev pub code_of : Entry → List ℕ
code_of (does (new_ad key kind other)) = codes "101"
code_of (does (destroy_ad key)) = codes "102"
code_of (does (set_attr key name e)) = codes "103"
code_of (does (delete_attr key name)) = codes "104"
code_of begins = codes "105"
code_of ends = codes "106"
code_of (stamped sequence) = codes "107"

-- and what may follow it
abbrev pub SaysAfter : Entry → List ℕ → Type 0
SaysAfter (does (new_ad key kind other)) after =
    (words : List (List ℕ)) × (AreKeyAndWords after key words × AreKinds words kind other)
SaysAfter (does (destroy_ad key)) after = AreKeyAndWords after key []
SaysAfter (does (set_attr key name e)) after = IsSetting after key name e
SaysAfter (does (delete_attr key name)) after =
    AreKeyAndWords after key (name ∷ []) × IsTrue (is_name name)
SaysAfter begins after = AreBlanks after
SaysAfter ends after = Unit {0}
SaysAfter (stamped sequence) after = IsStamp after sequence

-- ---- a line

pub record Record (line : List ℕ) (e : Entry) : Type 0 where
  pub is_text : IsUtf8 line
  pub after : List ℕ
  pub code : IsWordBefore line (code_of e) after
  pub says : SaysAfter e after

abbrev pub IsShort : List ℕ → Type 0
IsShort line = length line ≤ MAX_LINE

-- why a line is refused that has this number
abbrev pub IsRefused : List ℕ → ℕ → RecordError → Type 0
IsRefused line number (refusal.TooLong n) = (n ≡ number) × (MAX_LINE < length line)
IsRefused line number (refusal.BadRecord n) =
    (n ≡ number) × IsShort line × ((e : Entry) → Record line e → ⊥)
IsRefused line number refusal.Memory = Unit {0}
