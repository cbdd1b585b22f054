use Rattle.std.proofs.Common.{rules, ◌≡◌, false, is_some}
use Rattle.schedd_state.proofs.Passing.{is_far}
use Rattle.schedd_state.proofs.due_checks.passed_on.Goals as goal

pub returns : goal.returns
returns c =
    let end : is_some c.next_checked.result ≡ false = search rules in
    record { passed = c.passing.invariant; far = is_far c.args.queue.now c.args.looks.now c.passing.far c.next_checked.result c.next_checked.ensures end }
