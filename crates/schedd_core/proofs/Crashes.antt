-- A schedd that crashed comes back as it would have.
use Rattle.std.proofs.Common.{ℕ}
use Rattle.queue_tx.specs.Queues.{KeyedAds}
use Rattle.schedd_core.specs.Logging.{reopened, IsReopened}
use Rattle.schedd_core.specs.ScheddParts.{Fits}
use Rattle.schedd_state.specs.Schedds.{ScheddValue, crashed}

pub crash_fits : (q : KeyedAds) (v : ScheddValue) → Fits q v → Fits q (crashed v)
crash_fits q v fit = record {
  queue = fit.queue;
  each = fit.each;
  one = fit.one;
  all = fit.all;
  under = fit.under;
  valid = λ c there. absurd there;
}

pub crash_back : (q : KeyedAds) (v back : ScheddValue) (reading : ℕ) → IsReopened (crashed v) q reading back → IsReopened v q reading back
unfolding reopened
crash_back q v back reading came = record { jobs = came.jobs; under = came.under; schedd = came.schedd }

pub back_crash : (q : KeyedAds) (v back : ScheddValue) (reading : ℕ) → IsReopened v q reading back → IsReopened (crashed v) q reading back
unfolding reopened
back_crash q v back reading came = record { jobs = came.jobs; under = came.under; schedd = came.schedd }
