-- Which transactions were logged, by the entries of the schedd.
use Rattle.std.specs.Prelude.{◌≡◌, ℕ, ◌==◌, Bool, true, false, List, [], ◌∷◌, ◌++◌, Option, Some, None, Ok, if◌then◌else◌}
use Rattle.desk.specs.declared.entry.Entry.{Entry}
use Rattle.desk.specs.declared.entry.Sort.{Sort}
use Rattle.desk.specs.declared.entry.Sort.TheVariants.{Logged, Reopen}
use Rattle.pool_parts.specs.declared.answer.Kept.{Kept}
use Rattle.pool_parts.specs.declared.answer.Kept.TheVariants.{Append}
use Rattle.pool_outer.specs.declared.gate.Daemon.{Daemon}
use Rattle.pool_outer.specs.declared.gate.Daemon.TheVariants.{Schedd}
use Rattle.queue_tx.specs.Operations.{Operation}
use Rattle.queue_tx.specs.Queues.{KeyedAds, queue_after_all}

-- a transaction that is to be logged, and its number
abbrev pub Numbered : Type 0
Numbered = ℕ × List Operation

-- the transactions that were logged, in order, and the one of which that isn't known yet
pub record LogSoFar : Type 0 where
  pub list : List (List Operation)
  pub unlogged : Option Numbered

-- with a Logged, and when it comes back, the schedd says whether it was
abbrev pub tells_logged : Option Daemon → Sort → Bool
tells_logged (Some Schedd) Logged = true
tells_logged (Some Schedd) Reopen = true
tells_logged who name = false

abbrev pub with_logged : Option Numbered → Option ℕ → List (List Operation) → List (List Operation)
with_logged (Some tx) (Some number) list = if tx.0 == number then list ++ tx.1 ∷ [] else list
with_logged _ _ list = list

-- it was where a receipt has its number, and else it never will be
abbrev pub log_told : Bool → Option ℕ → LogSoFar → LogSoFar
log_told false number log = log
log_told true number log = record {
  list = with_logged log.unlogged number log.list;
  unlogged = None;
}

abbrev pub log_with : Kept → LogSoFar → LogSoFar
log_with (Append number tx) log = record log { unlogged = Some (number, tx) }
log_with _ log = log

-- with one more entry
abbrev pub log_after : LogSoFar → Entry → LogSoFar
log_after log e = log_with e.kept (log_told (tells_logged e.who e.sort) e.number log)

abbrev pub log_after_all : LogSoFar → List Entry → LogSoFar
log_after_all log [] = log
log_after_all log (e ∷ es) = log_after_all (log_after log e) es

abbrev pub log_of : List Entry → LogSoFar
log_of es = log_after_all (record { list = []; unlogged = None }) es

-- what these entries have logged makes that queue of the one that was there before them
abbrev pub IsLoggedQueue : KeyedAds → List Entry → KeyedAds → Type 0
IsLoggedQueue first es q = queue_after_all first (log_of es).list ≡ Ok q
