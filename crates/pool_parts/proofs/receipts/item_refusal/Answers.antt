use Rattle.std.proofs.Common.{rules}
use Rattle.pool_parts.proofs.receipts.item_refusal.Goals as goal

pub returns-then-is_same_tx : goal.returns-then-is_same_tx
returns-then-is_same_tx c = search rules
