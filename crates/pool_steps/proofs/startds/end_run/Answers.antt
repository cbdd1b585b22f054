use Rattle.std.proofs.Common.{rules, slice_get}
use Rattle.startd_core.specs.Startds.{after_end}
use Rattle.pool_rules.specs.Deeds.{at_rest}
use Rattle.pool_rules.specs.Startds.{ends_after}
use Rattle.pool_steps.proofs.Acting.{done_by}
use Rattle.pool_steps.proofs.TooLarge.{startd_too_large}
use Rattle.pool_steps.proofs.startds.end_run.Goals as goal

pub returns-clause-ended : goal.returns-clause-ended
returns-clause-ended c =
    let old = c.args.state.now in
    let ending = c.args.ending.now in
    done_by c.args.machine (λ v. after_end v ending c.args.reading) (λ v. ends_after ending.run v (after_end v ending c.args.reading)) c.in_ok-deed.deed (slice_get old.machines c.args.machine) (at_rest old) (at_rest c.take_deed.new.state) c.in_ok-stepped.stepped
    c.in_ok-deed.ensures.ready c.in_ok-stepped.ensures.pool c.in_ok-stepped.ensures.answer

pub returns-in_err-deed-clause-large : goal.returns-in_err-deed-clause-large
returns-in_err-deed-clause-large c = λ is.
    let old = c.args.state.now in
    let ending = c.args.ending.now in
    startd_too_large c.args.machine (λ v. after_end v ending c.args.reading) (λ v. ends_after ending.run v (after_end v ending c.args.reading)) (slice_get old.machines c.args.machine) old (search (rules, is))
