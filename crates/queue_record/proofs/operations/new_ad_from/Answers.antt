use Rattle.std.proofs.Common.{rules}
use Rattle.queue_record.proofs.operations.new_ad_from.Goals as goal

pub returns-in-Some : goal.returns-in-Some
returns-in-Some c = search rules
