-- The parts of a view's safety, item by item, are those of its pool's.
use Rattle.std.proofs.Common.{◌≡◌, IfSome, IsSome}
use Rattle.pool_view.specs.declared.view.View.{View}
use Rattle.pool_view.specs.Safe.{Competes, IsAccounted, IsMatched, Safe, Shares}
use Rattle.pool_view.specs.Views.{AllAckedThere, AllJobsAccounted, AllRunsAlone, AllRunsLeasedAlone, AllRunsMatched, entry_at, pool_of}
use Rattle.std.specs.Prelude.{All}
use Rattle.pool_view.proofs.Each.{each_of_all, all_of_each, every_job}

pub safe_of_parts : (view : View) → AllRunsMatched view × AllRunsAlone view × AllRunsLeasedAlone view → AllAckedThere view × AllJobsAccounted view → Safe (pool_of view)
safe_of_parts view runs jobs = record {
  matched = each_of_all (IsMatched (pool_of view)) view.runs runs.0;
  one_run_per_slot = λ r s here there. each_of_all (λ other. Shares r other → r ≡ other) view.runs (each_of_all (λ run. All (λ other. Shares run other → run ≡ other) view.runs) view.runs runs.1 r here) s there;
  one_lease_per_job = λ r s here there. each_of_all (λ other. Competes view.moment r other → r ≡ other) view.runs (each_of_all (λ run. All (λ other. Competes view.moment run other → run ≡ other) view.runs) view.runs runs.2 r here) s there;
  acknowledged_kept = each_of_all (λ job. IsSome (entry_at job view.jobs)) view.acked jobs.0;
  endings_said = every_job (λ job entry. IsAccounted (pool_of view) job entry.state) view.jobs (each_of_all (λ job. IfSome (entry_at job.job view.jobs) (λ entry. IsAccounted (pool_of view) job.job entry.state)) view.jobs jobs.1);
}

pub runs_of_safe : (view : View) → Safe (pool_of view) → AllRunsMatched view × AllRunsAlone view × AllRunsLeasedAlone view
runs_of_safe view safe = (
  all_of_each (IsMatched (pool_of view)) view.runs safe.matched,
  all_of_each (λ run. All (λ other. Shares run other → run ≡ other) view.runs) view.runs (λ r here. all_of_each (λ other. Shares r other → r ≡ other) view.runs (λ s there. safe.one_run_per_slot r s here there)),
  all_of_each (λ run. All (λ other. Competes view.moment run other → run ≡ other) view.runs) view.runs (λ r here. all_of_each (λ other. Competes view.moment r other → r ≡ other) view.runs (λ s there. safe.one_lease_per_job r s here there)),
)

pub jobs_of_safe : (view : View) → Safe (pool_of view) → AllAckedThere view × AllJobsAccounted view
jobs_of_safe view safe = (
  all_of_each (λ job. IsSome (entry_at job view.jobs)) view.acked safe.acknowledged_kept,
  all_of_each (λ job. IfSome (entry_at job.job view.jobs) (λ entry. IsAccounted (pool_of view) job.job entry.state)) view.jobs (λ job there. safe.endings_said job.job),
)
