use Rattle.std.proofs.Common.{[], ap, ◌∙◌, true}
use Rattle.line_text.specs.declared.words.Place.TheVariants.{Between}
use Rattle.line_text.specs.Words.{words_from}
use Rattle.line_text.proofs.LawLemmas.{words_read}
use Rattle.line_text.proofs.laws.quoted_words_are_read.Goals as goal

pub returns : goal.returns
returns c = λ words text is. ap (words_from true Between []) is ∙ words_read words
