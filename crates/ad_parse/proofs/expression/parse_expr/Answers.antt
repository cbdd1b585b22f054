use Rattle.std.proofs.Common.{subst}
use Rattle.ad_tree.specs.Tree.{tree}
use Rattle.ad_parse.specs.Gives.{Gives}
use Rattle.ad_parse.proofs.Texts.{said_is_read, cause_is_read, found_by, refused_if_err}
use Rattle.ad_parse.proofs.expression.parse_expr.Goals as goal

pub returns-clause-found : goal.returns-clause-found
returns-clause-found c = found_by tree c.args.text.now c.read_text.result c.read_text.ensures

pub returns-clause-only : goal.returns-clause-only
returns-clause-only c = λ e is. subst (λ r. Gives tree c.read_text.result r) (said_is_read c.args.text.now e is) c.read_text.ensures

pub returns-clause-refused : goal.returns-clause-refused
returns-clause-refused c = refused_if_err tree c.args.text.now c.read_text.result c.read_text.ensures

pub returns-clause-exact : goal.returns-clause-exact
returns-clause-exact c = λ f is. subst (λ r. Gives tree c.read_text.result r) (cause_is_read c.args.text.now f is) c.read_text.ensures
