-- The least pair of a job and a slot that match, by job, then by slot, with its match.
use Rattle.std.specs.Prelude.{◌≡◌, ℕ, false, List, slice_get, take, Some}
use Rattle.ad_tree.specs.Ad.{Attributes}
use Rattle.ad_eval.specs.declared.mismatch.FoundMatch.{FoundMatch}
use Rattle.ad_eval.specs.Match.{matches_any, any_match}

-- the first slot that the job at a place matches
pub record IsFirstSlot
    (slots : List Attributes) (job : Attributes) (place now : ℕ) (found : FoundMatch) : Type 0 where
  pub at_place : found.job ≡ place
  pub of_job : found.judged.job ≡ job
  pub slot_there : slice_get slots found.slot ≡ Some found.judged.slot
  pub at_now : found.judged.at ≡ now
  pub none_before : matches_any (take found.slot slots) job now ≡ false

-- the first job that matches a slot, and the first slot that it matches
pub record IsFirstMatch
    (jobs slots : List Attributes) (now : ℕ) (found : FoundMatch) : Type 0 where
  pub job_there : slice_get jobs found.job ≡ Some found.judged.job
  pub slot_there : slice_get slots found.slot ≡ Some found.judged.slot
  pub at_now : found.judged.at ≡ now
  pub no_job_before : any_match (take found.job jobs) slots now ≡ false
  pub no_slot_before : matches_any (take found.slot slots) found.judged.job now ≡ false
