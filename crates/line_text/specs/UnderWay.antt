-- What holds while a text is expanded.
use Rattle.std.specs.Prelude.{◌≡◌, ◌≤◌, ◌<◌, ℕ, ◌+◌, Bool, true, false, List, [], ◌∷◌, ◌++◌, length, take, drop, map, slice_get, Option, Some, None, reverse}
use Rattle.line_text.specs.declared.error.MacroError.{MacroError}
use Rattle.line_text.specs.declared.expansion.Progress.{Progress}
use Rattle.line_text.specs.declared.expansion.Progress.TheVariants.{Untouched, Open, Done}
use Rattle.line_text.specs.declared.expansion.Suspended.{Suspended}
use Rattle.line_text.specs.declared.expansion.Expansion.{Expansion}
use Rattle.line_text.specs.Macros.{Macros, value_at}
use Rattle.line_text.specs.References.{reference_at}
use Rattle.line_text.specs.References as refs
use Rattle.line_text.specs.Expansion.{Expands, Reaches, contains, macro_of}
use Rattle.line_text.specs.Above.{between}

-- ---- the texts that are being expanded

-- a text, what is left of it, the place of the name whose value it is, and how many pieces were
-- written before it
pub record Frame : Type 0 where
  pub whole : List ℕ
  pub rest : List ℕ
  pub place : Option ℕ
  pub from : ℕ

abbrev pub frame_of : Suspended → Frame
frame_of s = record { whole = s.whole.now; rest = s.rest.now; place = s.place; from = s.from }

-- a text at its beginning
abbrev pub begun_frame : List ℕ → Option ℕ → ℕ → Frame
begun_frame whole place from = record { whole = whole; rest = whole; place = place; from = from }

-- the innermost first
abbrev pub frames : List Suspended → List Frame
frames ss = reverse (map frame_of ss)

abbrev pub with_place : Option ℕ → List ℕ → List ℕ
with_place None around = around
with_place (Some p) around = p ∷ around

-- the places of the names in whose expansion the innermost text stands
abbrev pub places_around : List Frame → List ℕ
places_around [] = []
places_around (f ∷ fs) = with_place f.place (places_around fs)

-- ---- what is known of the innermost text, and of those that wait for it

-- Of the pieces that are written, those since the text was begun are what it gives so far; and
-- where its rest stops, the whole stops.
pub record IsTop (t : Macros) (text around : List ℕ) (f : Frame) (written : List (List ℕ))
    : Type 0 where
  pub gives : (ts : List (List ℕ))
      → Expands t f.rest ts → Expands t f.whole (drop f.from written ++ ts)
  pub stops : (ts : List (List ℕ)) (stop : Option MacroError)
      → Reaches t around f.whole f.rest ts stop → Reaches t [] text text (written ++ ts) stop
  pub from_within : f.from ≤ length written

-- The same, once another text is expanded whole.
pub record Waits (t : Macros) (text other around : List ℕ) (f : Frame) (written : List (List ℕ))
    : Type 0 where
  pub gives : (us ts : List (List ℕ)) → Expands t other us → Expands t f.rest ts
      → Expands t f.whole (drop f.from written ++ (us ++ ts))
  pub stops : (us ts : List (List ℕ)) (stop : Option MacroError)
      → Expands t other us → Reaches t around f.whole f.rest ts stop
      → Reaches t [] text text (written ++ (us ++ ts)) stop
  pub from_within : f.from ≤ length written

-- the texts below one that was begun with these pieces written
abbrev pub AreBelow : Macros → List ℕ → List Frame → List ℕ → List (List ℕ) → Type 0
AreBelow t text [] other written = (other ≡ text) × (written ≡ [])
AreBelow t text (f ∷ fs) other written =
    Waits t text other (places_around (f ∷ fs)) f written
    × AreBelow t text fs f.whole (take f.from written)

abbrev pub AreSuspended : Macros → List ℕ → List Frame → List (List ℕ) → Type 0
AreSuspended t text [] written = Expands t text written
AreSuspended t text (f ∷ fs) written =
    IsTop t text (places_around (f ∷ fs)) f written
    × AreBelow t text fs f.whole (take f.from written)

-- ---- what is known of the names

abbrev pub IsValueOf : Macros → Option ℕ → List ℕ → Type 0
IsValueOf t None whole = Unit {0}
IsValueOf t (Some p) whole = whole ≡ value_at t p

abbrev pub AreValues : Macros → List Frame → Type 0
AreValues t [] = Unit {0}
AreValues t (f ∷ fs) = IsValueOf t f.place f.whole × AreValues t fs

abbrev pub AreApart : List ℕ → Type 0
AreApart [] = Unit {0}
AreApart (p ∷ around) = (contains p around ≡ false) × AreApart around

abbrev pub is_open : Option Progress → Bool
is_open (Some Open) = true
is_open progress = false

-- the pieces from a place up to another are what a name stands for
pub record IsDone (t : Macros) (p from to : ℕ) (written : List (List ℕ)) : Type 0 where
  pub ordered : from ≤ to
  pub within : to ≤ length written
  pub gives : Expands t (value_at t p) (between from to written)

pub record IsUnderWay (t : Macros) (text : List ℕ) (progress : List Progress) (fs : List Frame)
    (written : List (List ℕ)) : Type 0 where
  pub texts : AreSuspended t text fs written
  pub values : AreValues t fs
  pub done : (p from to : ℕ)
      → slice_get progress p ≡ Some (Done from to) → IsDone t p from to written
  pub marks : (p : ℕ) → is_open (slice_get progress p) ≡ contains p (places_around fs)
  pub apart : AreApart (places_around fs)
  pub known : length progress ≡ length t

-- an expansion as it stands, and one from which a text was taken
abbrev pub IsSound : Expansion → Type 0
IsSound e =
    IsUnderWay e.table.now e.given.now e.progress.items
    (frames e.suspended.items) e.written

abbrev pub IsSoundWith : Expansion → Suspended → Type 0
IsSoundWith e s =
    IsUnderWay e.table.now e.given.now e.progress.items
    (frame_of s ∷ frames e.suspended.items) e.written

-- ---- what is left to do

abbrev pub weight : Progress → List ℕ → ℕ
weight Untouched value = length value + 2
weight progress value = 0

abbrev pub work : List Progress → Macros → ℕ
work [] ms = 0
work (p ∷ ps) [] = 0
work (p ∷ ps) (m ∷ ms) = weight p m.1 + work ps ms

abbrev pub left_of : List Frame → ℕ
left_of [] = 0
left_of (f ∷ fs) = (length f.rest + 1) + left_of fs

abbrev pub work_left : Expansion → ℕ
work_left e = work e.progress.items e.table.now + left_of (frames e.suspended.items)

-- ---- a reference

-- a text begins with a reference to a name of this place and value
pub record IsReferenceTo (t : Macros) (text name rest : List ℕ) (place : ℕ) (value : List ℕ)
    : Type 0 where
  pub default : List ℕ
  pub refers : reference_at text ≡ refs.refers name default rest
  pub found : macro_of t name ≡ Some (place, value)
  pub within : place < length t
