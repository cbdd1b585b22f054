-- What a call does to a spawner in memory.
use Rattle.std.specs.Prelude.{◌≡◌, ◌++◌, ◌∷◌, [], ℕ, length}
use Rattle.pool_outer.specs.declared.spawner.ChildState.{ChildState}
use Rattle.pool_outer.specs.declared.spawner.Launch.{Launch}
use Rattle.pool_outer.specs.declared.spawner.memory.MemSpawner.{MemSpawner}
use Rattle.pool_outer.specs.declared.spawner.memory.SureSpawner.{SureSpawner}
use Rattle.pool_outer.specs.MemoryCalls.{one_more}
use Rattle.pool_outer.specs.MemoryChildren.{child_of, last_seen, KillsAt, LooksAt}
use Rattle.pool_outer.specs.MemoryParts.{children_of, launches_of, scripts_of, launch_calls, poll_calls, kill_calls}

-- one more child, of the program that was launched, with the next number
pub record Launches (what : Launch) (old new : SureSpawner) (number : ℕ) : Type 0 where
  pub next : number ≡ length (children_of old)
  pub child :
      children_of new ≡ children_of old ++ child_of (scripts_of old) what.program ∷ []
  pub launched : launches_of new ≡ launches_of old ++ what ∷ []
  pub scripts : scripts_of new ≡ scripts_of old

-- one look at a child, which says how it was found
pub record Polls (child : ℕ) (old new : SureSpawner) (state : ChildState) : Type 0 where
  pub found : state ≡ last_seen (children_of new) child
  pub look : LooksAt child (children_of old) (children_of new)
  pub launched : launches_of new ≡ launches_of old
  pub scripts : scripts_of new ≡ scripts_of old

-- a child is to be killed
pub record Kills (child : ℕ) (old new : SureSpawner) : Type 0 where
  pub kill : KillsAt child (children_of old) (children_of new)
  pub launched : launches_of new ≡ launches_of old
  pub scripts : scripts_of new ≡ scripts_of old

-- all is as it was
pub record IsSame (old new : SureSpawner) : Type 0 where
  pub children : children_of new ≡ children_of old
  pub launched : launches_of new ≡ launches_of old
  pub scripts : scripts_of new ≡ scripts_of old

-- one more call is counted, as a launch
pub record CountsLaunch (old new : MemSpawner) : Type 0 where
  pub counted : launch_calls new ≡ one_more (launch_calls old)
  pub polls : poll_calls new ≡ poll_calls old
  pub kills : kill_calls new ≡ kill_calls old

-- one more call is counted, as a look
pub record CountsPoll (old new : MemSpawner) : Type 0 where
  pub counted : poll_calls new ≡ one_more (poll_calls old)
  pub launches : launch_calls new ≡ launch_calls old
  pub kills : kill_calls new ≡ kill_calls old

-- one more call is counted, as a kill
pub record CountsKill (old new : MemSpawner) : Type 0 where
  pub counted : kill_calls new ≡ one_more (kill_calls old)
  pub launches : launch_calls new ≡ launch_calls old
  pub polls : poll_calls new ≡ poll_calls old
