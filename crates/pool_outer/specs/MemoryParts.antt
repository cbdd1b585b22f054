-- What the parts in memory were prepared with, and what they keep.
use Rattle.std.specs.Prelude.{ℕ, List, Option}
use Rattle.pool_outer.specs.declared.failing.FailingCalls.{FailingCalls}
use Rattle.pool_outer.specs.declared.sink.memory.MemSink.{MemSink}
use Rattle.pool_outer.specs.declared.spawner.Launch.{Launch}
use Rattle.pool_outer.specs.declared.spawner.memory.MemChild.{MemChild}
use Rattle.pool_outer.specs.declared.spawner.memory.MemSpawner.{MemSpawner}
use Rattle.pool_outer.specs.declared.spawner.memory.Script.{Script}
use Rattle.pool_outer.specs.declared.spawner.memory.SureSpawner.{SureSpawner}

-- the scripts of a spawner that never fails
abbrev pub scripts_of : SureSpawner → List Script
scripts_of spawner = spawner.scripts.items

-- its children, in the order of their launches
abbrev pub children_of : SureSpawner → List MemChild
children_of spawner = spawner.children.items

-- what it launched, in order
abbrev pub launches_of : SureSpawner → List Launch
launches_of spawner = spawner.launches.items

-- the spawner that never fails, under one that does
abbrev pub sure_spawner : MemSpawner → SureSpawner
sure_spawner spawner = spawner.inner

-- a spawner's launches, looks and kills, of which some fail
abbrev pub launch_calls : MemSpawner → FailingCalls
launch_calls spawner = spawner.launches

abbrev pub poll_calls : MemSpawner → FailingCalls
poll_calls spawner = spawner.polls

abbrev pub kill_calls : MemSpawner → FailingCalls
kill_calls spawner = spawner.kills

-- how many of a spawner's calls have failed
abbrev pub spawner_faults : MemSpawner → ℕ
spawner_faults spawner = spawner.faults

-- what was written to an output
abbrev pub written_to : MemSink → List ℕ
written_to sink = sink.bytes.items

-- how many writes an output was asked for
abbrev pub write_count : MemSink → ℕ
write_count sink = sink.calls

-- the number of the write that fails
abbrev pub failing_write : MemSink → Option ℕ
failing_write sink = sink.fails

-- how many of its writes have failed
abbrev pub sink_faults : MemSink → ℕ
sink_faults sink = sink.faults
