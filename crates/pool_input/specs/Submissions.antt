-- What submit files submit, one after the other.
use Rattle.std.specs.Prelude.{◌≡◌, ◌⊎◌, ℕ, ◌<◌, ◌≤◌, List, [], ◌∷◌, ◌++◌, length, map, true, Bool, Option, Some, None, Ok, Err}
use Rattle.std.specs.Str.{IsUtf8}
use Rattle.ad_tree.specs.Ad.{Attributes}
use Rattle.pool_outer.specs.Files.{Contents}
use Rattle.pool_outer.specs.declared.limit.Which.TheVariants as which
use Rattle.submit_file.specs.declared.error.SubmitError.{SubmitError}
use Rattle.submit_file.specs.SubmittedJobs.{AdsResult, SubmittedJobs}
use Rattle.thin_pool.specs.declared.answer.Kept.TheVariants as kept
use Rattle.thin_pool.specs.declared.answer.StepError.TheVariants.{Jobs}
use Rattle.thin_pool.specs.declared.event.Event.TheVariants.{Submit}
use Rattle.thin_pool.specs.declared.history.Step.{Step}
use Rattle.thin_pool.specs.CourseValue.{CourseValue}
use Rattle.thin_pool.specs.PoolValue.{PoolValue}
use Rattle.thin_pool.specs.Reactions.{next_cluster, pool_after, refusal}
use Rattle.pool_input.specs.declared.fault.Fault.{Fault}
use Rattle.pool_input.specs.declared.fault.Fault.TheVariants.{Refused, Limit}
use Rattle.pool_input.specs.declared.files.TheConstants.{MOST_BYTES}
use Rattle.pool_input.specs.declared.status.Kind.TheVariants.{Missing, NotText}
use Rattle.pool_input.specs.declared.status.Status.{Status}
use Rattle.pool_input.specs.Faults.{submit_fault, fault_status}
use Rattle.pool_input.specs.Readings.{IsInCalendar}

-- the text of a file
pub record IsTextOf (file : Option (List ℕ)) (text : List ℕ) : Type 0 where
  pub there : file ≡ Some text
  pub short : length text ≤ MOST_BYTES
  pub utf8 : IsUtf8 text

-- a file has no text: it isn't there, is too large or isn't UTF-8
abbrev pub HasNoText : Option (List ℕ) → Fault → Type 0
HasNoText None f = f ≡ Refused 0 Missing
HasNoText (Some bytes) f = ((MOST_BYTES < length bytes) × (f ≡ Limit which.Input))
    ⊎ ((length bytes ≤ MOST_BYTES) × (¬ IsUtf8 bytes) × (f ≡ Refused 0 NotText))

-- what a submit file asks for, as a cluster of that number and at a reading
pub record AsksFor (file : Option (List ℕ)) (owner : List ℕ) (cluster reading : ℕ)
    (asked : AdsResult) : Type 0 where
  pub text : List ℕ
  pub text_is : IsTextOf file text
  pub jobs : SubmittedJobs text (record { cluster = cluster; owner = owner; now = reading }) asked

-- a submit file is refused by a pool: as no text, by its reader, or since the pool has no room for
-- its jobs
pub data IsSubmitRefused (allows : ℕ → Type 0) (file : Option (List ℕ)) (owner : List ℕ)
    (p : PoolValue) : Fault → Type 0 where
  no_text : {f : Fault} → HasNoText file f → IsSubmitRefused allows file owner p f
  refused : {t : ℕ} {e : SubmitError} → allows t
      → AsksFor file owner (next_cluster p) t (Err e)
      → IsSubmitRefused allows file owner p (submit_fault e)
  no_room : {t : ℕ} {jobs : List Attributes} → allows t
      → AsksFor file owner (next_cluster p) t (Ok jobs) → refusal p (Submit jobs t) ≡ Some Jobs
      → IsSubmitRefused allows file owner p (Limit which.Jobs)

-- What the files of these names submit to a pool, in order: the jobs of each, of the cluster that
-- the pool has next, at a reading of the file's own. At the first that is refused it ends, with
-- that status.
pub data Submits (allows : ℕ → Type 0) (file : Contents) (owner : List ℕ)
    : List (List ℕ) → PoolValue → List (List Attributes × ℕ) → Option Status → Type 0 where
  submits_end : {p : PoolValue} → Submits allows file owner [] p [] None
  stops : {name : List ℕ} {names : List (List ℕ)} {p : PoolValue} {f : Fault}
      → IsSubmitRefused allows (file name) owner p f
      → Submits allows file owner (name ∷ names) p [] (Some (fault_status name f))
  and_submits : {name : List ℕ} {names : List (List ℕ)} {p : PoolValue}
      {jobs : List Attributes} {t : ℕ} {rest : List (List Attributes × ℕ)} {end : Option Status}
      → allows t → AsksFor (file name) owner (next_cluster p) t (Ok jobs)
      → refusal p (Submit jobs t) ≡ None
      → Submits allows file owner names (pool_after p (Submit jobs t)) rest end
      → Submits allows file owner (name ∷ names) p ((jobs, t) ∷ rest) end

-- the files of these names are refused, with that status
abbrev pub StopsAt : (ℕ → Type 0) → Contents → List ℕ → List (List ℕ) → PoolValue → Status → Type 0
StopsAt allows file owner names p s = (done : List (List Attributes × ℕ))
    × Submits allows file owner names p done (Some s)

abbrev pub submit_step : List Attributes × ℕ → Step
submit_step s = record { event = Submit s.0 s.1; kept = kept.Done }

-- a history of submissions alone
abbrev pub submit_steps : List (List Attributes × ℕ) → List Step
submit_steps submissions = map submit_step submissions

-- one more submission, of a file where the store tells
pub record TakesSubmission (allows : ℕ → Type 0) (tells : Bool) (file : Option (List ℕ))
    (owner : List ℕ) (old new : CourseValue) : Type 0 where
  pub jobs : List Attributes
  pub reading : ℕ
  pub allowed : allows reading
  pub in_range : IsInCalendar reading
  pub accepted : refusal old.pool (Submit jobs reading) ≡ None
  pub list : new.list ≡ old.list ++ submit_step (jobs, reading) ∷ []
  pub pool : new.pool ≡ pool_after old.pool (Submit jobs reading)
  pub opening : new.opening ≡ old.opening
  pub of_file : tells ≡ true → AsksFor file owner (next_cluster old.pool) reading (Ok jobs)
