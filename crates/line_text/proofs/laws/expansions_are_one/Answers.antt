use Rattle.line_text.proofs.LawLemmas.{pieces_are_one, texts_are_one}
use Rattle.line_text.proofs.laws.expansions_are_one.Goals as goal

pub returns-clause-pieces : goal.returns-clause-pieces
returns-clause-pieces c = pieces_are_one

pub returns-clause-texts : goal.returns-clause-texts
returns-clause-texts c = texts_are_one
