use Rattle.pool_state.proofs.copy.copy_tables.Goals as goal

pub returns : goal.returns
returns c = λ i. record { daemons = c.in_ok-daemons.ensures i; mails = c.in_ok-mails.ensures i; orders = c.in_ok-orders.ensures i }
