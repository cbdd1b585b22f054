use Rattle.std.proofs.Common.{subst}
use Rattle.pool_core.specs.KeptPools.{IsKeptPool}
use Rattle.pool_core.proofs.Keeping.{kept_safe, kept_shows}
use Rattle.pool_core.proofs.pool.Pool.safety.Goals as goal

pub returns-clause-shown : goal.returns-clause-shown
returns-clause-shown c = kept_shows _ (subst IsKeptPool c.self.view_is c.self.invariant)

pub returns-clause-safe : goal.returns-clause-safe
returns-clause-safe c = λ v. kept_safe _ v (subst IsKeptPool c.self.view_is c.self.invariant)

pub returns-clause-jobs : goal.returns-clause-jobs
returns-clause-jobs c = let k = subst IsKeptPool c.self.view_is c.self.invariant in k.counted.jobs

pub returns-clause-few_jobs : goal.returns-clause-few_jobs
returns-clause-few_jobs c = let k = subst IsKeptPool c.self.view_is c.self.invariant in k.few_jobs

pub returns-clause-bytes : goal.returns-clause-bytes
returns-clause-bytes c = let k = subst IsKeptPool c.self.view_is c.self.invariant in k.counted.bytes

pub returns-clause-within : goal.returns-clause-within
returns-clause-within c = let k = subst IsKeptPool c.self.view_is c.self.invariant in k.within

pub returns-clause-loggable : goal.returns-clause-loggable
returns-clause-loggable c = let k = subst IsKeptPool c.self.view_is c.self.invariant in k.loggable

pub returns-clause-finishes : goal.returns-clause-finishes
returns-clause-finishes c = let k = subst IsKeptPool c.self.view_is c.self.invariant in k.finishes
