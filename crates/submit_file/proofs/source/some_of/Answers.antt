use Rattle.std.proofs.Common.{ap, subst}
use Rattle.ad_tree.specs.Tree.{tree}
use Rattle.submit_lines.specs.Values.{GivesValue, some_of}
use Rattle.submit_file.proofs.Takings.{some_fails}
use Rattle.submit_file.proofs.source.some_of.Goals as goal

pub returns-in-Ok : goal.returns-in-Ok
returns-in-Ok c = λ g given. ap some_of (subst (λ v. GivesValue tree v g) c.in-Ok.is given)

pub returns-in-Err : goal.returns-in-Err
returns-in-Err c = λ g given. some_fails c.in-Err.error g (subst (λ v. GivesValue tree v g) c.in-Err.is given)
