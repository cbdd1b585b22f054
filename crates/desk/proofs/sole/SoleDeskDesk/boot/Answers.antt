use Rattle.std.proofs.Common.{sym, subst}
use Rattle.std.specs.Prelude.{IsSome}
use Rattle.pool_state.specs.declared.state.PoolState.{PoolState}
use Rattle.pool_tables.specs.DaemonTables.{daemon_state}
use Rattle.desk.proofs.Accepting.{there_where}
use Rattle.desk.proofs.sole.SoleDeskDesk.boot.Goals as goal

pub boot-requires : goal.boot-requires
boot-requires c = subst (λ (s : PoolState). IsSome (daemon_state c.args.who s.daemons)) (sym c.pool.ensures.pool) (there_where c.args.pass.now c.args.who c.pool.ensures.there c.requires.own)
