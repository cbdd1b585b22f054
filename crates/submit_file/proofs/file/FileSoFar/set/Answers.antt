use Rattle.submit_file.proofs.Begun.{name_put}
use Rattle.submit_file.proofs.file.FileSoFar.set.Goals as goal

pub returns : goal.returns
returns c =
    name_put c.args.self.now c.args.name.now c.args.value.now c.args.line c.is_built_in.result c.set.new.self c.put.new.self
    c.is_built_in.ensures c.if-is_built_in.false c.in_ok-set.ensures.ok c.in_ok-put.ensures.ok
