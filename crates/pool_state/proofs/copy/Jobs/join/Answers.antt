use Rattle.pool_state.specs.Copies.{pool_with}
use Rattle.pool_state.proofs.copy.Jobs.join.Goals as goal

pub returns : goal.returns
returns c = λ i.
    let t = c.into_parts-daemons.ensures i in
    let a = c.into_parts-machines.ensures i in
    let m = c.into_parts-pending.ensures i in
    pool_with
    (record { daemons = t.0; mails = t.1; orders = t.2 })
    (record { machines = a.0; schedd = a.1; queue = a.2 })
    c.args.self
    (record { pending = m.0; log_mark = m.1; end_marks = m.2 })
    c.args.pool.now
