-- What is read is spelled so, and what is spelled so is read.
use Rattle.std.proofs.Common.{subst}
use Rattle.ad_tree.specs.Tree.{tree}
use Rattle.ad_parse.specs.Gives.{Gives}
use Rattle.ad_parse.proofs.Complete.{found_if_ok, only}
use Rattle.ad_parse.proofs.parse.parse_tokens.Goals as goal

pub returns-clause-found : goal.returns-clause-found
returns-clause-found c = found_if_ok tree c.args.end c.args.tokens.now c.parse_all.result c.parse_all.ensures

pub returns-clause-only : goal.returns-clause-only
returns-clause-only c = λ e h. subst (λ r. Gives tree c.parse_all.result r) (only c.args.end c.args.tokens.now e h) c.parse_all.ensures
