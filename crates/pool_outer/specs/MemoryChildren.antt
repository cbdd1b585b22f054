-- Child programs in memory.
use Rattle.std.specs.Prelude.{◌≡◌, ◌≢◌, ◌≤◌, ◌<◌, ◌-◌, ℕ, zero, suc, Bool, true, false, List, Option, length, pos, slice_get, find, unwrap_or, refl}
use Rattle.std.specs.Option.{option_map_or}
use Rattle.std.specs.Str.{bytes_eq}
use Rattle.std.proofs.lemmas.Option.{slice_get_past}
use Rattle.pool_outer.specs.declared.spawner.ChildState.{ChildState}
use Rattle.pool_outer.specs.declared.spawner.ChildState.TheVariants.{Running, Exited, Signalled}
use Rattle.pool_outer.specs.declared.spawner.memory.ChildEnd.{ChildEnd}
use Rattle.pool_outer.specs.declared.spawner.memory.ChildEnd.TheVariants as end
use Rattle.pool_outer.specs.declared.spawner.memory.MemChild.{MemChild}
use Rattle.pool_outer.specs.declared.spawner.memory.Script.{Script}
use Rattle.pool_outer.specs.declared.spawner.memory.TheConstants.{SIGKILL}

-- an ending, as a look finds it
abbrev pub state_of : ChildEnd → ChildState
state_of (end.Exited code) = Exited code
state_of (end.Signalled signal) = Signalled signal

-- how a child was last seen; one that isn't there is running
abbrev pub last_seen : List MemChild → ℕ → ChildState
last_seen children k = option_map_or (λ child. child.state) (slice_get children k) Running

-- whether a child was to be killed
abbrev pub is_killed : List MemChild → ℕ → Bool
is_killed children k = option_map_or (λ child. child.killed) (slice_get children k) false

-- a child as it starts, which runs on for so many looks and then has that ending
abbrev pub new_child : ℕ → ChildEnd → MemChild
new_child looks ending = record { state = Running; looks = looks; end = ending; killed = false }

-- the first script of a program
abbrev pub script_of : List Script → List ℕ → Option Script
script_of scripts program = find (λ script. bytes_eq script.program program) scripts

-- the child of a program, by its first script; one without exits with 0 at its first look
abbrev pub child_of : List Script → List ℕ → MemChild
child_of scripts program =
    option_map_or (λ script. new_child script.looks script.end)
    (script_of scripts program)
    (new_child 0 (end.Exited (pos 0)))

-- the child of that number
abbrev pub child_at : List MemChild → ℕ → MemChild
child_at children k = unwrap_or (slice_get children k) (new_child 0 (end.Exited (pos 0)))

-- What a look does to a child: one that was seen to end stays as it is, a killed one has ended by
-- the signal, and another runs on for one look less, or has its ending where none is left.
pub record Looks (old new : MemChild) : Type 0 where
  pub ended : old.state ≢ Running → new ≡ old
  pub killed : old.state ≡ Running → old.killed ≡ true → new.state ≡ Signalled SIGKILL
  pub ends :
      old.state ≡ Running → old.killed ≡ false → old.looks ≡ 0 → new.state ≡ state_of old.end
  pub runs :
      old.state ≡ Running → old.killed ≡ false → 0 < old.looks
      → new ≡ record old { looks = old.looks - 1 }
  pub spared : new.killed ≡ old.killed

-- so many looks at a child, one after the other
abbrev pub LooksMany : ℕ → MemChild → MemChild → Type 0
LooksMany zero old new = new ≡ old
LooksMany (suc n) old new = (between : MemChild) × (LooksMany n old between × Looks between new)

-- a look at the child of that number, and at no other
pub record LooksAt (child : ℕ) (old new : List MemChild) : Type 0 where
  pub look : Looks (child_at old child) (child_at new child)
  pub others : (k : ℕ) → k ≢ child → child_at new k ≡ child_at old k
  pub spared : (k : ℕ) → is_killed new k ≡ is_killed old k
  pub count : length new ≡ length old

-- the child of that number, and no other, is to be killed
pub record KillsAt (child : ℕ) (old new : List MemChild) : Type 0 where
  pub kill : child_at new child ≡ record (child_at old child) { killed = true }
  pub others : (k : ℕ) → k ≢ child → child_at new k ≡ child_at old k
  pub seen : (k : ℕ) → last_seen new k ≡ last_seen old k
  pub count : length new ≡ length old

-- a child that isn't there is running, and nobody killed it
pub unborn :
    (children : List MemChild) (k : ℕ) → length children ≤ k
    → (last_seen children k ≡ Running) × (is_killed children k ≡ false)
unborn children k past =
    (rw (slice_get_past children k past) refl, rw (slice_get_past children k past) refl)
