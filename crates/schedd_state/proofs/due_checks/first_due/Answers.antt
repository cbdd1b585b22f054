use Rattle.std.proofs.Common.{sym, ◌∙◌}
use Rattle.schedd_state.proofs.DueFirst.{fresh_due, fresh_first, found_due, again_first}
use Rattle.schedd_state.proofs.due_checks.first_due.Goals as goal

pub returns-in-Some-clause-due : goal.returns-in-Some-clause-due
returns-in-Some-clause-due c = fresh_due c.args.queue.now c.args.looks.now c.args.seconds c.args.reading c.in-Some.key.now c.in-Some.ensures.meant

pub returns-in-Some-clause-first : goal.returns-in-Some-clause-first
returns-in-Some-clause-first c = λ to. fresh_first c.args.queue.now c.args.looks.now c.args.seconds c.args.reading c.in-Some.key.now c.in-Some.ensures.meant

pub returns-in-None-clause-due : goal.returns-in-None-clause-due
returns-in-None-clause-due c = found_due c.args.queue.now c.args.looks.now c.args.seconds c.args.reading c.first_again.result c.first_again.ensures

pub returns-in-None-clause-first : goal.returns-in-None-clause-first
returns-in-None-clause-first c =
    again_first c.args.queue.now c.args.looks.now c.args.seconds c.args.reading c.args.passed (λ key fresh. sym (c.above.ensures key) ∙ c.in-None.ensures key fresh) c.first_again.result c.first_again.ensures
