use Rattle.std.proofs.Common.{◌∙◌}
use Rattle.submit_file.proofs.Begun.{begun_is}
use Rattle.submit_file.proofs.file.FileSoFar.new.Goals as goal

pub returns : goal.returns
returns c =
    begun_is c.args.cluster c.as_str.result.now c.as_str-2.result.now c.new-table.result c.set.new.self c.set-2.new.self c.new.result c.new-2.result c.new-3.result c.new-table.ensures
    (c.as_str.ensures.value ∙ c.in_ok-number.ensures.ok) (c.as_str-2.ensures.value ∙ c.in_ok-number.ensures.ok) c.in_ok-set.ensures.ok c.in_ok-set-2.ensures.ok c.new.ensures c.new-2.ensures c.new-3.ensures
