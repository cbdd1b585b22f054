use Rattle.std.proofs.Common.{Bool, sym, subst}
use Rattle.pool_outer.specs.declared.gate.Daemon.TheVariants.{Schedd}
use Rattle.pool_rules.specs.Deeds.{at_rest}
use Rattle.pool_rules.specs.Happens.{ComesBack}
use Rattle.pool_rules.specs.Limits.{IsTooLarge}
use Rattle.schedd_steps.proofs.logged.reopen_schedd.Goals as goal

pub returns-then-kept-clause-large : goal.returns-then-kept-clause-large
returns-then-kept-clause-large c = λ is.
    subst (λ (k : Bool). IsTooLarge (ComesBack Schedd k c.args.reading (at_rest c.args.state.now))) (sym c.if-kept.true) (c.reopen_kept.ensures.large is)

pub returns-else-kept-clause-large : goal.returns-else-kept-clause-large
returns-else-kept-clause-large c = λ is.
    subst (λ (k : Bool). IsTooLarge (ComesBack Schedd k c.args.reading (at_rest c.args.state.now))) (sym c.if-kept.false) (c.reopen_lost.ensures.large is)
