use Rattle.std.proofs.Common.{not, ap, ◌∙◌}
use Rattle.submit_lines.proofs.Numbers.{digits_listed}
use Rattle.submit_lines.proofs.number.are_digits.Goals as goal

pub returns : goal.returns
returns c = ap not c.has_other.ensures ∙ digits_listed c.args.bytes.now
