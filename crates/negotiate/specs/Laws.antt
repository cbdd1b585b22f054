-- What holds of each cycle.
use Rattle.std.specs.Prelude.{◌≡◌, ◌≢◌, ◌⊎◌, ℕ, ◌+◌, ◌≤◌, max, List, map, Bool, true, false, ◌&&◌, ◌==◌, Some, Contains}
use Rattle.std.specs.List.{list_any, IsDistinct, AllPairs}
use Rattle.std.specs.Str.{bytes_eq}
use Rattle.claim_id.specs.declared.numbers.JobId.{JobId}
use Rattle.pool_mail.specs.declared.matching.Request.{Request}
use Rattle.matchmaker.specs.declared.snapshot.Snapshot.{Snapshot}
use Rattle.matchmaker.specs.declared.snapshot.Submitter.{Submitter}
use Rattle.matchmaker.specs.declared.snapshot.Offer.{Offer}
use Rattle.matchmaker.specs.declared.course.Account.{Account}
use Rattle.matchmaker.specs.declared.course.Made.{Made}
use Rattle.matchmaker.specs.Offers.{fits, is_offered}
use Rattle.matchmaker.specs.Cycle.{account_of, may_choose, is_below_ceiling, match_of, given, same_slot}
use Rattle.matchmaker.specs.Plain.{IsCycle}

abbrev pub same_job : JobId → JobId → Bool
same_job a b = (a.cluster == b.cluster) && (a.proc == b.proc)

unfoldable pub is_matched : Account → Request → List Made → Bool
is_matched u r made = list_any (λ m. bytes_eq m.user u.user && same_job m.matched.job r.job) made

-- a request that is left idle is at its submitter's ceiling, or no slot of those left unmatched is
-- offered to it and matches it
abbrev pub IdleForCause : Snapshot → List Made → Type 0
IdleForCause s made = (b : Submitter) (r : Request)
    → Contains s.submitters b → Contains b.jobs r → is_matched (account_of b) r made ≡ false
    → (is_below_ceiling (account_of b) made ≡ false)
    ⊎ ((o : Offer) → Contains s.slots o → may_choose s (account_of b) made r o ≡ false)

abbrev pub CyclesIdleForCause : Type 0
CyclesIdleForCause = (s : Snapshot) (made : List Made) → IsCycle s made → IdleForCause s made

-- a match is of a request and a slot of the snapshot that match both ways, and of which the slot is
-- offered
pub record IsSound (s : Snapshot) (m : Made) : Type 0 where
  pub submitter : Submitter
  pub request : Request
  pub slot : Offer
  pub of_submitters : Contains s.submitters submitter
  pub of_requests : Contains submitter.jobs request
  pub of_slots : Contains s.slots slot
  pub is : m ≡ match_of s (account_of submitter) request slot
  pub offered : is_offered s (account_of submitter) request slot ≡ true
  pub matching : fits s.now request slot ≡ true

abbrev pub CyclesAreSound : Type 0
CyclesAreSound = (s : Snapshot) (made : List Made) (m : Made)
    → IsCycle s made → Contains made m → IsSound s m

abbrev pub CyclesGiveOnce : Type 0
CyclesGiveOnce = (s : Snapshot) (made : List Made)
    → IsCycle s made → IsDistinct same_slot (map (λ m. m.slot) made)

abbrev pub UsersDiffer : Snapshot → Type 0
UsersDiffer s = AllPairs (λ b c. b.user ≢ c.user) s.submitters

-- a submitter has no more slots than its ceiling, or than it had before
abbrev pub CeilingsAreKept : Type 0
CeilingsAreKept = (s : Snapshot) (made : List Made) (b : Submitter) (ceiling : ℕ)
    → IsCycle s made → UsersDiffer s → Contains s.submitters b → b.ceiling ≡ Some ceiling
    → b.in_use + given (account_of b) made ≤ max ceiling b.in_use
