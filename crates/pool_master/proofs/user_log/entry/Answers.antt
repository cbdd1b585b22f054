use Rattle.std.proofs.Common.{string_bytes}
use Rattle.pool_master.proofs.UserLogs.{enters_one}
use Rattle.pool_master.proofs.user_log.entry.Goals as goal

pub returns : goal.returns
returns c = enters_one c.args.number.now c.args.cluster c.args.proc c.args.reading c.args.what.now (string_bytes c.in_ok-numbers.numbers) (string_bytes c.in_ok-stamp.stamp) (string_bytes c.in_ok-format.field-0) c.in_ok-format.ensures.ok c.in_ok-numbers.ensures c.in_ok-stamp.ensures
