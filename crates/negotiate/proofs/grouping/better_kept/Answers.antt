use Rattle.std.proofs.Common.{rules}
use Rattle.negotiate.proofs.grouping.better_kept.Goals as goal

pub returns-then-kept_before : goal.returns-then-kept_before
returns-then-kept_before c = search rules
