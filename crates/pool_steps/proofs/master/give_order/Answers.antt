use Rattle.std.proofs.Common.{position}
use Rattle.pool_tables.specs.OrderTables.{is_due_for}
use Rattle.pool_steps.proofs.TooLarge.{gives_too_large}
use Rattle.pool_steps.proofs.master.give_order.Goals as goal

pub returns-in_err-_bytes-clause-large : goal.returns-in_err-_bytes-clause-large
returns-in_err-_bytes-clause-large c = λ is.
    gives_too_large (position (is_due_for c.args.verb c.args.job c.args.reading) c.args.state.now.orders) c.args.verb c.args.job c.args.state.now c.in_err-_bytes.ensures.large
