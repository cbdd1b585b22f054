-- What a desk answers to the holder of a pass.
use Rattle.std.specs.Prelude.{◌≡◌, ℕ, ◌+◌, Bool, true, false, List, length, Result, Ok, Err}
use Rattle.std.specs.List.{list_all}
use Rattle.desk.specs.declared.entry.Entry.{Entry}
use Rattle.desk.specs.Launches.{was_launched}
use Rattle.desk.specs.Logs.{log_of}
use Rattle.pool_parts.specs.declared.answer.Answer.{Answer}
use Rattle.pool_parts.specs.declared.answer.Answer.TheVariants.{Done, Append, Launch, Kill}
use Rattle.pool_tables.specs.declared.refusal.StepError.{StepError}
use Rattle.pool_tables.specs.declared.refusal.StepError.TheVariants.{Closed}

-- What an answer has to do with the entries of the pass that came before it. A transaction that is
-- to be logged has as its number how many were logged, of which so many came before all entries. A
-- run is launched that none of them launched, and runs are killed each of which one of them did.
abbrev pub Fits : ℕ → List Entry → Answer → Type 0
Fits first mine Done = Unit {0}
Fits first mine (Append number tx) = number ≡ first + length (log_of mine).list
Fits first mine (Launch permit) = was_launched permit.run mine ≡ false
Fits first mine (Kill runs) = list_all (λ run. was_launched run mine) runs ≡ true

abbrev pub is_closed : StepError → Bool
is_closed Closed = true
is_closed _ = false

-- an event was refused since the pool is closed
abbrev pub says_closed : Result Answer StepError → Bool
says_closed (Ok a) = false
says_closed (Err e) = is_closed e
