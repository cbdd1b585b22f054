-- What a script's lines say, and the script of them.
use Rattle.std.specs.Prelude.{◌≡◌, ℕ, ◌≤◌, Bool, false, true, ◌&&◌, List, [], ◌∷◌, ◌++◌, length, Some, filter_map, slice_get, ⊤}
use Rattle.std.specs.List.{AllZip, list_any}
use Rattle.std.specs.List.Sorted.{IsPermutation, IsSortedByKey, IsStableByKey}
use Rattle.std.specs.Ordering.{nat_cmp}
use Rattle.claim_id.specs.declared.order.Wish.{Wish}
use Rattle.line_text.specs.declared.logical.Line.{Line}
use Rattle.line_text.specs.Lines.{logical_lines}
use Rattle.line_text.specs.Words.{words_of}
use Rattle.script_plan.specs.declared.entry.Entry.{Entry}
use Rattle.script_plan.specs.declared.error.ScriptError.{ScriptError}
use Rattle.script_plan.specs.declared.error.ScriptError.TheVariants as error
use Rattle.script_plan.specs.declared.script.Script.{Script}
use Rattle.script_plan.specs.Entries.{Says, wish_in, lost_in, repeated_in, late_in, crash_in, load_in, is_load}

-- what a line says: its words are divided by blanks, as those of Args are
abbrev pub LineSays : List (List ℕ) → Line → Entry → Type 0
LineSays machines line e =
    (words : List (List ℕ)) × (words_of false line.text ≡ Some words) × Says machines words e

abbrev pub has_load : List Entry → Bool
has_load entries = list_any is_load entries

-- a load behind another
abbrev pub is_second_load : List Entry → Entry → Bool
is_second_load before e = is_load e && has_load before

-- what lines say, a line each, with at most one load
pub record AreSaid (machines : List (List ℕ)) (lines : List Line) (entries : List Entry)
    : Type 0 where
  pub said : AllZip (LineSays machines) lines entries
  pub one_load : length (filter_map load_in entries) ≤ 1

-- the orders by time, and those of one time as they were given
pub record IsByTime (given wishes : List Wish) : Type 0 where
  pub same : IsPermutation given wishes
  pub by_time : IsSortedByKey (λ w. w.at) nat_cmp wishes
  pub by_line : IsStableByKey (λ w. w.at) nat_cmp given wishes

-- the script of what lines say
pub record Holds (entries : List Entry) (s : Script) : Type 0 where
  pub wishes : IsByTime (filter_map wish_in entries) s.wishes
  pub lose : s.lose ≡ filter_map lost_in entries
  pub repeat : s.repeat ≡ filter_map repeated_in entries
  pub late : s.late ≡ filter_map late_in entries
  pub crash : s.crash ≡ filter_map crash_in entries
  pub load : s.load ≡ slice_get (filter_map load_in entries) 0

-- the script that a text is
pub record IsScript (machines : List (List ℕ)) (text : List ℕ) (s : Script) : Type 0 where
  pub entries : List Entry
  pub said : AreSaid machines (logical_lines text) entries
  pub held : Holds entries s

-- The number of the first line that, with the lines before it, says nothing, while the lines before
-- it are a script.
pub record IsFirstBad (machines : List (List ℕ)) (lines : List Line) (number : ℕ) : Type 0 where
  pub before : List Line
  pub bad : Line
  pub after : List Line
  pub whole : lines ≡ before ++ bad ∷ after
  pub entries : List Entry
  pub said : AreSaid machines before entries
  pub unsaid : (es : List Entry) → ¬ AreSaid machines (before ++ bad ∷ []) es
  pub numbered : number ≡ bad.number

-- when lines are refused
abbrev pub IsRefusedIn : List (List ℕ) → List Line → ScriptError → Type 0
IsRefusedIn machines lines (error.BadLine number) = IsFirstBad machines lines number
IsRefusedIn machines lines error.Memory = ⊤

-- when a text is refused
abbrev pub IsRefused : List (List ℕ) → List ℕ → ScriptError → Type 0
IsRefused machines text e = IsRefusedIn machines (logical_lines text) e

-- what a line says behind lines that say these entries
pub record SaidNext (machines : List (List ℕ)) (before : List Entry) (line : Line) (e : Entry)
    : Type 0 where
  pub said : LineSays machines line e
  pub lone : is_second_load before e ≡ false

-- when a line is refused behind lines that say these entries
abbrev pub IsRefusedNext : List (List ℕ) → List Entry → Line → ScriptError → Type 0
IsRefusedNext machines before line (error.BadLine number) =
    (number ≡ line.number)
    × ((e : Entry) → LineSays machines line e → is_second_load before e ≡ true)
IsRefusedNext machines before line error.Memory = ⊤
