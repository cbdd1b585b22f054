use Rattle.std.proofs.Common.{sym}
use Rattle.ad_tree.specs.Tree.{tree}
use Rattle.pool_config.proofs.Expressions.{said_some, unsaid}
use Rattle.pool_config.proofs.value.expression_in.Goals as goal

pub returns-in-Ok : goal.returns-in-Ok
returns-in-Ok c = said_some c.args.text.now (tree c.in-Ok.expr) c.in-Ok.ensures.found

pub returns-else-is_memory : goal.returns-else-is_memory
returns-else-is_memory c = unsaid c.args.text.now c.in-Err.error (sym c.if-is_memory.ensures) c.in-Err.ensures.refused
