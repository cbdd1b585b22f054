use Rattle.std.proofs.Common.{◌∙◌, ap, sym}
use Rattle.submit_file.specs.Drafts.{named_value}
use Rattle.submit_file.proofs.Takings.{value_given}
use Rattle.submit_file.proofs.statement.value_contribution.Goals as goal

pub returns : goal.returns
returns c = λ g given. ap (named_value c.args.name.now c.args.place) (value_given c.args.value g (sym c.is_memory.ensures ∙ c.if-is_memory.false) given)
