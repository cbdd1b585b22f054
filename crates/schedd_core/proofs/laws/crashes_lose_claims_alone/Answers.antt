use Rattle.std.proofs.Common.{refl}
use Rattle.schedd_core.proofs.Crashes.{crash_fits, crash_back, back_crash}
use Rattle.schedd_core.proofs.laws.crashes_lose_claims_alone.Goals as goal

pub returns-clause-engaged : goal.returns-clause-engaged
returns-clause-engaged c = λ v job. refl

pub returns-clause-fits : goal.returns-clause-fits
returns-clause-fits c = λ q v fit. crash_fits q v fit

pub returns-clause-part : goal.returns-clause-part
returns-clause-part c = λ p q v part. record { jobs = part.jobs; next = part.next; marked = part.marked }

pub returns-clause-back : goal.returns-clause-back
returns-clause-back c = λ q v back reading. (crash_back q v back reading, back_crash q v back reading)
