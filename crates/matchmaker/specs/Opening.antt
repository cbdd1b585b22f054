-- In which order a cycle comes to submitters and requests.
use Rattle.std.specs.Prelude.{◌≡◌, ℕ, ℤ, List, []}
use Rattle.std.specs.List.{AllZip}
use Rattle.std.specs.List.Sorted.{IsPermutation, IsSortedBy}
use Rattle.std.specs.declared.cmp.Ordering.{Ordering}
use Rattle.std.specs.Ordering.{is_lt, ordering_then, nat_cmp, int_cmp}
use Rattle.std.specs.Cmp.Lexicographic.{slice_cmp}
use Rattle.ad_value.specs.declared.names.job.TheConstants.{JOB_PRIO, Q_DATE}
use Rattle.ad_eval.specs.Match.{rank_as}
use Rattle.ad_eval.specs.Mean.{attribute_value}
use Rattle.claim_id.specs.declared.numbers.JobId.{JobId}
use Rattle.pool_mail.specs.declared.matching.Request.{Request}
use Rattle.matchmaker.specs.declared.snapshot.Snapshot.{Snapshot}
use Rattle.matchmaker.specs.declared.snapshot.Submitter.{Submitter}
use Rattle.matchmaker.specs.declared.course.Account.{Account}
use Rattle.matchmaker.specs.Cycle.{Bidder, account_of}

-- an attribute in the request's ad alone: an integer, or 1 or 0 for a truth value; else 0
abbrev pub number_in : ℕ → Request → List ℕ → ℤ
number_in now r name = rank_as (attribute_value r.ad [] now name)

abbrev pub job_cmp : JobId → JobId → Ordering
job_cmp a b = ordering_then (nat_cmp a.cluster b.cluster) (nat_cmp a.proc b.proc)

-- by JobPrio, the greater first, then by QDate, then by job
unfoldable pub request_cmp : ℕ → Request → Request → Ordering
request_cmp now r q =
    ordering_then
    (ordering_then
    (int_cmp (number_in now q JOB_PRIO.now) (number_in now r JOB_PRIO.now))
    (int_cmp (number_in now r Q_DATE.now) (number_in now q Q_DATE.now)))
    (job_cmp r.job q.job)

-- by effective priority, then by name
unfoldable pub account_cmp : Account → Account → Ordering
account_cmp u v =
    ordering_then (nat_cmp u.effective v.effective) (slice_cmp nat_cmp u.user v.user)

-- a submitter with its requests in order
pub record IsBidderOf (now : ℕ) (b : Submitter) (c : Bidder) : Type 0 where
  pub account : c.account ≡ account_of b
  pub requests : IsPermutation b.jobs c.left
  pub in_order : IsSortedBy (λ r q. is_lt (request_cmp now r q)) c.left

-- the submitters in order, each with its requests in order
pub record IsOpening (s : Snapshot) (bs : List Bidder) : Type 0 where
  pub bidders : List Bidder
  pub each : AllZip (IsBidderOf s.now) s.submitters bidders
  pub all : IsPermutation bidders bs
  pub in_order : IsSortedBy (λ b c. is_lt (account_cmp b.account c.account)) bs
