use Rattle.std.proofs.Common.{rules, [], slice_get}
use Rattle.startd_core.specs.Startds.{after_reboot}
use Rattle.pool_rules.specs.Deeds.{at_rest}
use Rattle.pool_steps.proofs.Acting.{done_by}
use Rattle.pool_steps.proofs.TooLarge.{startd_too_large}
use Rattle.pool_steps.proofs.startds.reboot_startd.Goals as goal

pub returns-clause-back : goal.returns-clause-back
returns-clause-back c =
    let old = c.args.state.now in
    done_by c.args.machine (λ v. after_reboot v c.args.reading) (λ v. []) c.in_ok-deed.deed (slice_get old.machines c.args.machine) (at_rest old) (at_rest c.take_deed.new.state) c.in_ok-stepped.stepped c.in_ok-deed.ensures.ready
    c.in_ok-stepped.ensures.pool c.in_ok-stepped.ensures.answer

pub returns-in_err-deed-clause-large : goal.returns-in_err-deed-clause-large
returns-in_err-deed-clause-large c = λ is.
    startd_too_large c.args.machine (λ v. after_reboot v c.args.reading) (λ v. []) (slice_get c.args.state.now.machines c.args.machine) c.args.state.now (search (rules, is))
