-- What is seen of child programs.
use Rattle.std.specs.Prelude.{◌≡◌, ◌≢◌, ℕ}
use Rattle.pool_outer.specs.declared.spawner.ChildState.{ChildState}
use Rattle.pool_outer.specs.declared.spawner.ChildState.TheVariants.{Running}

-- how each child was last seen
abbrev pub Sightings : Type 0
Sightings = ℕ → ChildState

-- a look at a child found it in that state; an ending that was seen before is found again
pub record Sees (child : ℕ) (state : ChildState) (old new : Sightings) : Type 0 where
  pub seen : new child ≡ state
  pub stays : old child ≢ Running → state ≡ old child
  pub others : (k : ℕ) → k ≢ child → new k ≡ old k

-- nothing new was seen
abbrev pub SameSightings : Sightings → Sightings → Type 0
SameSightings old new = (k : ℕ) → new k ≡ old k
