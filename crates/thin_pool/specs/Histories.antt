-- What an accepted event does, and lists of accepted events.
use Rattle.std.specs.Prelude.{◌≡◌, ℕ, List, [], ◌∷◌, Option, Some, None, Bool, true, false, map, fold, max, length, ◌+◌}
use Rattle.std.specs.List.{filter_map, flat_map}
use Rattle.ad_tree.specs.Ad.{Attributes}
use Rattle.pool_outer.specs.declared.spawner.Launch.{Launch}
use Rattle.pool_mail.specs.declared.end.End.{End}
use Rattle.thin_pool.specs.declared.answer.Kept.{Kept}
use Rattle.thin_pool.specs.declared.answer.Kept.TheVariants as kept
use Rattle.thin_pool.specs.declared.event.Event.{Event}
use Rattle.thin_pool.specs.declared.event.Event.TheVariants.{Submit, Start, Ended, Close}
use Rattle.thin_pool.specs.declared.history.History.{History}
use Rattle.thin_pool.specs.declared.history.Step.{Step}
use Rattle.thin_pool.specs.declared.slot.PoolSlot.{PoolSlot}
use Rattle.thin_pool.specs.Answers.{kept_of}
use Rattle.thin_pool.specs.Events.{reading_of}
use Rattle.thin_pool.specs.PoolValue.{PoolValue}
use Rattle.thin_pool.specs.Reactions.{opening_pool, refusal, answer_to, pool_after}

-- the event takes the pool p to q, with that answer
pub record Reacts (p : PoolValue) (ev : Event) (kept : Kept) (q : PoolValue) : Type 0 where
  pub accepted : refusal p ev ≡ None
  pub answer : kept ≡ kept_of (answer_to p ev)
  pub next : q ≡ pool_after p ev

-- accepted events with their answers lead from the pool p to q, one after the other
abbrev pub LeadsTo : PoolValue → List Step → PoolValue → Type 0
LeadsTo p [] q = q ≡ p
LeadsTo p (s ∷ ss) q = Reacts p s.event s.kept (pool_after p s.event)
    × LeadsTo (pool_after p s.event) ss q

-- the history of a pool of these slots, which leads from its opening to the pool
pub record IsHistory (slots : List PoolSlot) (history : History) (p : PoolValue) : Type 0 where
  pub opening : history.opening ≡ Some (opening_pool slots)
  pub no_load : history.load ≡ false
  pub leads : LeadsTo (opening_pool slots) history.list p

abbrev pub submission_in : Event → Option (List Attributes × ℕ)
submission_in (Submit jobs reading) = Some (jobs, reading)
submission_in (Start job slot judged reading) = None
submission_in (Ended job end reading) = None
submission_in (Close reading none) = None

abbrev pub launch_in : Kept → Option Launch
launch_in kept.Done = None
launch_in (kept.Launch what) = Some what

abbrev pub ending_in : Event → Option End
ending_in (Submit jobs reading) = None
ending_in (Start job slot judged reading) = None
ending_in (Ended job end reading) = Some end
ending_in (Close reading none) = None

abbrev pub is_close : Event → Bool
is_close (Submit jobs reading) = false
is_close (Start job slot judged reading) = false
is_close (Ended job end reading) = false
is_close (Close reading none) = true

abbrev pub ends_in_close : List Step → Bool
ends_in_close [] = false
ends_in_close (s ∷ []) = is_close s.event
ends_in_close (s ∷ t ∷ ss) = ends_in_close (t ∷ ss)

-- what a history says, in order: its readings, the ads that were submitted with the readings at
-- which they were, the launches that it answered, and the ends of runs
abbrev pub readings_in : List Step → List ℕ
readings_in list = map (λ s. reading_of s.event) list

abbrev pub submissions_in : List Step → List (List Attributes × ℕ)
submissions_in list = filter_map (λ s. submission_in s.event) list

abbrev pub launches_in : List Step → List Launch
launches_in list = filter_map (λ s. launch_in s.kept) list

abbrev pub endings_in : List Step → List End
endings_in list = filter_map (λ s. ending_in s.event) list

-- The pool shows what its history says: its slots, the greatest reading, the jobs in the order of
-- their submission, how many runs were launched and how many of them have ended, and whether the
-- history has come to its close.
pub record Shows (slots : List PoolSlot) (list : List Step) (p : PoolValue) : Type 0 where
  pub slots_are : p.slots ≡ slots
  pub latest : p.latest ≡ fold max 0 (readings_in list)
  pub submitted : map (λ e. e.1.ad) p.jobs ≡ flat_map (λ s. s.0) (submissions_in list)
  pub launched : p.started ≡ length (launches_in list)
  pub ended : length (endings_in list) + length p.runs ≡ p.started
  pub closed : p.closed ≡ ends_in_close list
