-- A launcher: what was given to it, its children, and its endings.
use Rattle.std.specs.Prelude.{◌≡◌, ◌≢◌, ℕ, ◌+◌, ◌<◌, ◌≤◌, All, Bool, false, true, ◌&&◌, cond, List, [], ◌∷◌, ◌++◌, count_by, filter, length, map, slice_get, Option, Some, Vec, vec_len, vec_capacity}
use Rattle.std.specs.List.{items_where_true, list_any}
use Rattle.claim_id.specs.declared.numbers.RunNo.{RunNo}
use Rattle.pool_mail.specs.declared.end.End.{End}
use Rattle.pool_mail.specs.declared.end.End.TheVariants.{NotStarted}
use Rattle.pool_mail.specs.declared.end.Ending.{Ending}
use Rattle.pool_outer.specs.Cause.{Rose}
use Rattle.pool_outer.specs.declared.spawner.Launch.{Launch}
use Rattle.pool_view.specs.Numbers.{same_run}
use Rattle.receipt_roll.specs.Values.{ReceiptValue, RollMark}
use Rattle.receipt_roll.specs.declared.error.RollError.{RollError}
use Rattle.receipt_roll.specs.declared.error.RollError.TheVariants as roll_error
use Rattle.starter.specs.declared.children.Child.{Child}
use Rattle.starter.specs.declared.given.Fate.{Fate}
use Rattle.starter.specs.declared.given.Fate.TheVariants as fate
use Rattle.starter.specs.declared.given.Given.{Given}
use Rattle.starter.specs.declared.given.LaunchError.{LaunchError}
use Rattle.starter.specs.declared.given.LaunchError.TheVariants as launch_error
use Rattle.starter.specs.declared.given.Launched.{Launched}
use Rattle.starter.specs.declared.given.Launched.TheVariants as launched
use Rattle.starter.specs.ChildTables.{ChildTable}
use Rattle.starter.specs.Spawners.{SpawnerValue, state_of}

abbrev pub launch_error_of : RollError → LaunchError
launch_error_of roll_error.Full = launch_error.Roll
launch_error_of roll_error.Memory = launch_error.Memory

-- ---- what was given

abbrev pub is_started : Fate → Bool
is_started fate.Started = true
is_started _ = false

-- the run ends at once, as not started
abbrev pub is_unstarted : Fate → Bool
is_unstarted fate.Refused = true
is_unstarted fate.Declined = true
is_unstarted _ = false

abbrev pub is_refused : Fate → Bool
is_refused fate.Refused = true
is_refused _ = false

-- those of which a child was started, in order: child k of the spawner is that of the k-th
abbrev pub those_started : List Given → List Given
those_started given = filter (λ g. is_started g.fate) given

abbrev pub what_was_started : List Given → List Launch
what_was_started given = map (λ g. g.what) (those_started given)

abbrev pub run_of_child : ℕ → List Given → Option RunNo
run_of_child k given = slice_get (map (λ g. g.run) (those_started given)) k

-- of each in order, whether a child was started
abbrev pub which_started : List Given → List Bool
which_started given = map (λ g. is_started g.fate) given

-- what was to be started, of those of which a list of truths says so
abbrev pub whats_where : List Bool → List Given → List Launch
whats_where truths given = items_where_true truths (map (λ g. g.what) given)

abbrev pub is_given : RunNo → List Given → Bool
is_given run given = list_any (λ g. same_run g.run run) given

abbrev pub times_given : RunNo → List Given → ℕ
times_given run given = count_by (λ g. same_run g.run run) given

-- ---- counts of runs that pass a test: of one run, or of all

abbrev pub is_run : RunNo → RunNo → Bool
is_run run other = same_run other run

abbrev pub every_run : RunNo → Bool
every_run run = true

-- how many such runs were given with such a fate
abbrev pub count_given : (Fate → Bool) → (RunNo → Bool) → List Given → ℕ
count_given kind of given = count_by (λ g. kind g.fate && of g.run) given

abbrev pub count_children : (RunNo → Bool) → List Child → ℕ
count_children of children = count_by (λ c. of c.run) children

-- how many such runs ended so
abbrev pub count_endings : (End → Bool) → (RunNo → Bool) → List Ending → ℕ
count_endings kind of endings = count_by (λ e. kind e.end && of e.run) endings

abbrev pub is_not_started : End → Bool
is_not_started NotStarted = true
is_not_started _ = false

abbrev pub is_seen_end : End → Bool
is_seen_end NotStarted = false
is_seen_end _ = true

abbrev pub every_end : End → Bool
every_end end = true

abbrev pub one_if : Bool → ℕ
one_if b = cond b 1 0

-- ---- the launcher

pub record LauncherValue (P : Type 0) : Type 0 where
  pub spawner : P
  pub given : List Given
  pub children : List Child
  pub endings : List Ending
  pub mark : RollMark
  -- there is room for one permit more
  pub ready : Bool

-- the end is the one that was seen of the run's child
pub record WasSeen (s : SpawnerValue) (given : List Given) (e : Ending) : Type 0 where
  pub number : ℕ
  pub of : run_of_child number given ≡ Some e.run
  pub seen : s.seen number ≡ state_of e.end

abbrev pub IsTrueEnding : SpawnerValue → List Given → Ending → Type 0
IsTrueEnding s given e = e.end ≢ NotStarted → WasSeen s given e

abbrev pub IsChildOf : List Given → Child → Type 0
IsChildOf given c = run_of_child c.number given ≡ Some c.run

-- What always holds of a launcher. A run is given once. One of which a child was started has it
-- still, or the end that was seen of it; one that was refused or declined has an ending that says
-- so; one that was lost has neither.
pub record IsLauncher (s : SpawnerValue) (given : List Given) (children : List Child)
    (endings : List Ending) : Type 0 where
  pub count : s.count ≡ length (those_started given)
  pub launched : s.tells ≡ true → s.launches ≡ what_was_started given
  pub running : All (IsChildOf given) children
  pub ended : s.tells ≡ true → All (IsTrueEnding s given) endings
  pub once : (run : RunNo) → times_given run given ≤ 1
  pub of_started : (test : RunNo → Bool) → count_given is_started test given
      ≡ count_children test children + count_endings is_seen_end test endings
  pub of_unstarted : (test : RunNo → Bool) → count_given is_unstarted test given
      ≡ count_endings is_not_started test endings

-- each child has room for its ending, and a launcher that is ready has room for one permit more
pub record HasRoom {A : Type 0} (ready : Bool) (given : Vec Given A) (children : ChildTable)
    (spare : ℕ) : Type 0 where
  pub endings : length children.list ≤ spare
  pub one_given : ready ≡ true → vec_len given < vec_capacity given
  pub one_child : ready ≡ true → 0 < children.spare
  pub one_ending : ready ≡ true → length children.list < spare

-- ---- what the calls leave

abbrev pub given_as : RunNo → Launch → Fate → Given
given_as run what f = record { run = run; what = what; fate = f }

abbrev pub ending_of : RunNo → End → Ending
ending_of run end = record { run = run; end = end }

abbrev pub fate_of : Launched → Fate
fate_of launched.Started = fate.Started
fate_of (launched.Refused receipt) = fate.Refused
fate_of launched.Lost = fate.Lost

-- the child of a run, with its number, where one was started
abbrev pub new_children : RunNo → ℕ → Launched → List Child
new_children run number launched.Started =
    record { run = run; number = number; doomed = false } ∷ []
new_children run number _ = []

-- the receipt's ending is put on the roll
pub record GainsEnding {P : Type 0} (old new : LauncherValue P) (receipt : ReceiptValue Ending)
    : Type 0 where
  pub longer : new.endings ≡ old.endings ++ receipt.item ∷ []
  pub number : receipt.number ≡ length old.endings
  pub mark : receipt.mark ≡ old.mark

-- A run that is refused ends at once, as not started, and the spawner's faults rose. No other
-- ending is put on the roll.
abbrev pub EndsIfRefused : {P : Type 0} → RunNo → LauncherValue P → LauncherValue P → ℕ → ℕ
    → Launched → Type 0
EndsIfRefused run old new before now launched.Started = new.endings ≡ old.endings
EndsIfRefused run old new before now (launched.Refused receipt) = GainsEnding old new receipt
    × (receipt.item ≡ ending_of run NotStarted)
    × Rose before now
EndsIfRefused run old new before now launched.Lost = new.endings ≡ old.endings
