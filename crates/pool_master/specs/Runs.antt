-- The runs of a history, each with its ending.
use Rattle.std.specs.Prelude.{◌≡◌, ◌⊎◌, ◌==◌, ℕ, List, [], ◌∷◌, ◌++◌, map, filter, count_by, Option, Some, None, IsSome, Bool, true, false, slice_get, if◌then◌else◌}
use Rattle.pool_outer.specs.declared.spawner.ChildState.{ChildState}
use Rattle.pool_outer.specs.declared.spawner.ChildState.TheVariants as child
use Rattle.pool_outer.specs.declared.spawner.Launch.{Launch}
use Rattle.claim_id.specs.declared.numbers.JobId.{JobId}
use Rattle.claim_id.specs.declared.numbers.SlotId.{SlotId}
use Rattle.pool_mail.specs.declared.end.End.{End}
use Rattle.pool_mail.specs.declared.end.End.TheVariants.{Exited, Signalled, NotStarted}
use Rattle.pool_view.specs.Numbers.{same_job}
use Rattle.thin_pool.specs.declared.answer.Kept.{Kept}
use Rattle.thin_pool.specs.declared.answer.Kept.TheVariants as kept
use Rattle.thin_pool.specs.declared.event.Event.{Event}
use Rattle.thin_pool.specs.declared.event.Event.TheVariants.{Submit, Start, Ended, Close}
use Rattle.thin_pool.specs.declared.history.Step.{Step}

-- a run of a job on a slot: the Launch answer that began it, and its ending, if it has one
pub record JobRun : Type 0 where
  pub job : JobId
  pub slot : SlotId
  pub launch : Launch
  pub end : Option End

-- the ending that an event tells of the job's run
abbrev pub end_in : JobId → Event → Option End
end_in job (Submit jobs reading) = None
end_in job (Start other slot judged reading) = None
end_in job (Ended other end reading) = if same_job job other then Some end else None
end_in job (Close reading none) = None

abbrev pub first_end : Option End → Option End → Option End
first_end None later = later
first_end (Some end) later = Some end

-- how the job's run ends that is running before these steps: by the first ending of the job
abbrev pub end_after : JobId → List Step → Option End
end_after job [] = None
end_after job (s ∷ ss) = first_end (end_in job s.event) (end_after job ss)

-- the run that a step begins, before these steps
abbrev pub run_begun : Event → Kept → List Step → List JobRun
run_begun (Submit jobs reading) answer after = []
run_begun (Start job slot judged reading) kept.Done after = []
run_begun (Start job slot judged reading) (kept.Launch what) after =
    record { job = job; slot = slot; launch = what; end = end_after job after } ∷ []
run_begun (Ended job end reading) answer after = []
run_begun (Close reading none) answer after = []

-- the runs of a history, in the order in which they began: a run's number is its place, from 1
abbrev pub runs_in : List Step → List JobRun
runs_in [] = []
runs_in (s ∷ ss) = run_begun s.event s.kept ss ++ runs_in ss

-- those on the slots of a machine
abbrev pub runs_on : ℕ → List JobRun → List JobRun
runs_on machine runs = filter (λ r. r.slot.machine == machine) runs

-- ---- which have a child

-- it has ended, and did start
abbrev pub has_ended : Option End → Bool
has_ended None = false
has_ended (Some (Exited code)) = true
has_ended (Some (Signalled signal)) = true
has_ended (Some NotStarted) = false

-- it may have started: nothing says that it didn't
abbrev pub may_have_started : Option End → Bool
may_have_started None = true
may_have_started (Some (Exited code)) = true
may_have_started (Some (Signalled signal)) = true
may_have_started (Some NotStarted) = false

abbrev pub is_not_started : Option End → Bool
is_not_started None = false
is_not_started (Some (Exited code)) = false
is_not_started (Some (Signalled signal)) = false
is_not_started (Some NotStarted) = true

-- those of the runs that did start and have ended
abbrev pub child_runs : List JobRun → List JobRun
child_runs runs = filter (λ r. has_ended r.end) runs

-- and also those that haven't ended
abbrev pub possible_runs : List JobRun → List JobRun
possible_runs runs = filter (λ r. may_have_started r.end) runs

-- how many of the runs did not start
abbrev pub not_started_count : List JobRun → ℕ
not_started_count runs = count_by (λ r. is_not_started r.end) runs

-- each has ended
abbrev pub HaveEnded : List JobRun → Type 0
HaveEnded [] = Unit {0}
HaveEnded (r ∷ rs) = IsSome r.end × HaveEnded rs

-- ---- what spawners do

abbrev pub run_launches : List JobRun → List Launch
run_launches runs = map (λ r. r.launch) runs

-- what was launched is, in order, each of these runs that did start, and perhaps the one that
-- hasn't ended
abbrev pub IsLaunched : List JobRun → List Launch → Type 0
IsLaunched runs launches = (launches ≡ run_launches (child_runs runs))
    ⊎ (launches ≡ run_launches (possible_runs runs))

-- what was launched for a run that ended so
abbrev pub child_launch : Launch → End → List Launch
child_launch what (Exited code) = what ∷ []
child_launch what (Signalled signal) = what ∷ []
child_launch what NotStarted = []

-- how a look finds a child that ended so; one that wasn't started isn't looked at
abbrev pub child_state : End → ChildState
child_state (Exited code) = child.Exited code
child_state (Signalled signal) = child.Signalled signal
child_state NotStarted = child.Running

-- the ending of each of these runs is the one that was seen of its child
abbrev pub IsSeen : List JobRun → (ℕ → ChildState) → Type 0
IsSeen runs seen = (k : ℕ) (r : JobRun) (end : End)
    → slice_get runs k ≡ Some r → r.end ≡ Some end → seen k ≡ child_state end

abbrev pub EndAsSeen : List JobRun → (ℕ → ChildState) → Type 0
EndAsSeen runs seen = IsSeen (child_runs runs) seen
