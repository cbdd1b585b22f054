use Rattle.std.proofs.Common.{subst}
use Rattle.ad_parse.specs.AdText.{GivesAd}
use Rattle.ad_parse.proofs.AdTexts.{says_is_given}
use Rattle.ad_parse.proofs.AdRefusals.{refused_is_given, found_by, refused_if_err}
use Rattle.ad_parse.proofs.ad_text.parse_ad.Goals as goal

pub returns-clause-found : goal.returns-clause-found
returns-clause-found c = found_by c.args.text.now c.read_lines.result c.read_lines.ensures

pub returns-clause-only : goal.returns-clause-only
returns-clause-only c = λ ad is. subst (λ r. GivesAd (λ a. a) c.read_lines.result r) (says_is_given c.args.text.now ad is) c.read_lines.ensures

pub returns-clause-refused : goal.returns-clause-refused
returns-clause-refused c = refused_if_err c.args.text.now c.read_lines.result c.read_lines.ensures

pub returns-clause-exact : goal.returns-clause-exact
returns-clause-exact c = λ f is. subst (λ r. GivesAd (λ a. a) c.read_lines.result r) (refused_is_given c.args.text.now f is) c.read_lines.ensures
