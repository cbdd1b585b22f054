-- The abstract pool that a view is.
use Rattle.std.specs.Prelude.{◌≡◌, All, IfSome, IsSome, List, [], ◌∷◌, Option, Some, None, if◌then◌else◌}
use Rattle.ad_tree.specs.Ad.{Attributes}
use Rattle.claim_id.specs.declared.numbers.JobId.{JobId}
use Rattle.claim_id.specs.declared.numbers.SlotId.{SlotId}
use Rattle.pool_view.specs.declared.job.Entry.{Entry}
use Rattle.pool_view.specs.declared.job.JobEntry.{JobEntry}
use Rattle.pool_view.specs.declared.mark.MarkEntry.{MarkEntry}
use Rattle.pool_view.specs.declared.mark.SlotMark.{SlotMark}
use Rattle.pool_view.specs.declared.view.SlotEntry.{SlotEntry}
use Rattle.pool_view.specs.declared.view.View.{View}
use Rattle.pool_view.specs.AbstractPool.{AbstractPool}
use Rattle.pool_view.specs.Numbers.{same_job, same_slot}
use Rattle.pool_view.specs.Safe.{Competes, IsAccounted, IsMatched, Shares}

-- the first entry of a job or a slot
abbrev pub entry_at : JobId → List JobEntry → Option Entry
entry_at job [] = None
entry_at job (e ∷ es) = if same_job job e.job then Some e.entry else entry_at job es

abbrev pub mark_at : SlotId → List MarkEntry → Option SlotMark
mark_at slot [] = None
mark_at slot (e ∷ es) = if same_slot slot e.slot then Some e.mark else mark_at slot es

abbrev pub ad_at : SlotId → List SlotEntry → Option Attributes
ad_at slot [] = None
ad_at slot (e ∷ es) = if same_slot slot e.slot then Some e.ad else ad_at slot es

abbrev pub pool_of : View → AbstractPool
pool_of view = record {
  moment = view.moment;
  next = view.next;
  jobs = λ job. entry_at job view.jobs;
  acked = view.acked;
  ordered = view.ordered;
  runs = view.runs;
  marks = λ slot. mark_at slot view.marks;
  reports = view.reports;
  slots = λ slot. ad_at slot view.slots;
}

-- the parts of its safety, item by item
abbrev pub AllRunsMatched : View → Type 0
AllRunsMatched view = All (IsMatched (pool_of view)) view.runs

abbrev pub AllRunsAlone : View → Type 0
AllRunsAlone view =
    All (λ run. All (λ other. Shares run other → run ≡ other) view.runs) view.runs

abbrev pub AllRunsLeasedAlone : View → Type 0
AllRunsLeasedAlone view =
    All (λ run. All (λ other. Competes view.moment run other → run ≡ other) view.runs) view.runs

abbrev pub AllAckedThere : View → Type 0
AllAckedThere view = All (λ job. IsSome (entry_at job view.jobs)) view.acked

abbrev pub AllJobsAccounted : View → Type 0
AllJobsAccounted view = All (λ job. IfSome (entry_at job.job view.jobs)
    (λ entry. IsAccounted (pool_of view) job.job entry.state)) view.jobs
