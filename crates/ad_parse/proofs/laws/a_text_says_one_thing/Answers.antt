use Rattle.ad_parse.proofs.Texts as texts
use Rattle.ad_parse.proofs.laws.a_text_says_one_thing.Goals as goal

pub returns-clause-one : goal.returns-clause-one
returns-clause-one c = texts.one_tree

pub returns-clause-one_cause : goal.returns-clause-one_cause
returns-clause-one_cause c = texts.one_cause

pub returns-clause-not_both : goal.returns-clause-not_both
returns-clause-not_both c = texts.not_both

pub returns-clause-either : goal.returns-clause-either
returns-clause-either c = texts.either
