use Rattle.pool_rules.specs.Deeds.{at_rest}
use Rattle.pool_rules.specs.Masters.{passes}
use Rattle.pool_steps.proofs.TooLarge.{done_too_large}
use Rattle.pool_steps.proofs.master.pass_matches.Goals as goal

pub returns-in_err-_bytes-clause-large : goal.returns-in_err-_bytes-clause-large
returns-in_err-_bytes-clause-large c = λ is.
    done_too_large (passes c.args.list.now (at_rest c.args.state.now)) c.in_err-_bytes.ensures.large
