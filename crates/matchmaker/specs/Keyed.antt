-- Requests with what they are ordered by.
use Rattle.std.specs.Prelude.{◌≡◌, ℕ}
use Rattle.std.specs.declared.cmp.Ordering.{Ordering}
use Rattle.std.specs.Ordering.{ordering_then, int_cmp}
use Rattle.ad_value.specs.declared.names.job.TheConstants.{JOB_PRIO, Q_DATE}
use Rattle.matchmaker.specs.declared.opening.Keyed.{Keyed}
use Rattle.matchmaker.specs.Opening.{number_in, job_cmp}

pub record IsKeyed (now : ℕ) (k : Keyed) : Type 0 where
  pub priority : k.priority ≡ number_in now k.request JOB_PRIO.now
  pub date : k.date ≡ number_in now k.request Q_DATE.now

abbrev pub keyed_cmp : Keyed → Keyed → Ordering
keyed_cmp k l =
    ordering_then
    (ordering_then (int_cmp l.priority k.priority) (int_cmp k.date l.date))
    (job_cmp k.request.job l.request.job)
