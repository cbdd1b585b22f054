use Rattle.claim_id.proofs.Ways.{in_table, table_answers}
use Rattle.claim_id.proofs.slot_laws.table_is_all.Goals as goal

pub returns : goal.returns
returns c = λ from to by. (in_table from to by, table_answers from to by)
