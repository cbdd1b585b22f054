-- The words that were looked at are plain.
use Rattle.std.proofs.Common.{◌≡◌, drop}
use Rattle.std.specs.List.{list_all}
use Rattle.pool_input.specs.Words.{is_plain, texts}
use Rattle.pool_input.proofs.form.are_plain.Given as goal

abbrev pub invariant-loop-word : goal.invariant-loop-word
invariant-loop-word l = list_all is_plain (texts (drop l.word-index l.words)) ≡ list_all is_plain (texts l.words)
