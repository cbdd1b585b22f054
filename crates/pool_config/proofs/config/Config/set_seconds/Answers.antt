use Rattle.std.proofs.Common.{ap, sym}
use Rattle.pool_config.specs.Configuration.{configuration_of}
use Rattle.pool_config.specs.Settings.{with_seconds}
use Rattle.pool_config.proofs.config.Config.set_seconds.Goals as goal

pub returns-in-ClassadLifetime : goal.returns-in-ClassadLifetime
returns-in-ClassadLifetime c = ap (λ i. with_seconds i c.args.n (configuration_of c.args.self.now)) (sym c.in-ClassadLifetime.is)

pub returns-in-UpdateInterval : goal.returns-in-UpdateInterval
returns-in-UpdateInterval c = ap (λ i. with_seconds i c.args.n (configuration_of c.args.self.now)) (sym c.in-UpdateInterval.is)

pub returns-in-NegotiatorInterval : goal.returns-in-NegotiatorInterval
returns-in-NegotiatorInterval c = ap (λ i. with_seconds i c.args.n (configuration_of c.args.self.now)) (sym c.in-NegotiatorInterval.is)

pub returns-in-AliveInterval : goal.returns-in-AliveInterval
returns-in-AliveInterval c = ap (λ i. with_seconds i c.args.n (configuration_of c.args.self.now)) (sym c.in-AliveInterval.is)

pub returns-in-JobLease : goal.returns-in-JobLease
returns-in-JobLease c = ap (λ i. with_seconds i c.args.n (configuration_of c.args.self.now)) (sym c.in-JobLease.is)

pub returns-in-ClaimLease : goal.returns-in-ClaimLease
returns-in-ClaimLease c = ap (λ i. with_seconds i c.args.n (configuration_of c.args.self.now)) (sym c.in-ClaimLease.is)

pub returns-in-MatchTimeout : goal.returns-in-MatchTimeout
returns-in-MatchTimeout c = ap (λ i. with_seconds i c.args.n (configuration_of c.args.self.now)) (sym c.in-MatchTimeout.is)

pub returns-in-PeriodicExprInterval : goal.returns-in-PeriodicExprInterval
returns-in-PeriodicExprInterval c = ap (λ i. with_seconds i c.args.n (configuration_of c.args.self.now)) (sym c.in-PeriodicExprInterval.is)

pub returns-in-DecayTick : goal.returns-in-DecayTick
returns-in-DecayTick c = ap (λ i. with_seconds i c.args.n (configuration_of c.args.self.now)) (sym c.in-DecayTick.is)

pub returns-in-MaxJobRetirementTime : goal.returns-in-MaxJobRetirementTime
returns-in-MaxJobRetirementTime c = ap (λ i. with_seconds i c.args.n (configuration_of c.args.self.now)) (sym c.in-MaxJobRetirementTime.is)

pub returns-in-MachineMaxVacateTime : goal.returns-in-MachineMaxVacateTime
returns-in-MachineMaxVacateTime c = ap (λ i. with_seconds i c.args.n (configuration_of c.args.self.now)) (sym c.in-MachineMaxVacateTime.is)
