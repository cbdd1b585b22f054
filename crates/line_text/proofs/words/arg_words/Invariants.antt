-- The words so far, with what the characters that are left give, are the whole.
use Rattle.std.proofs.Common.{◌≡◌, ℕ, List, ◌++◌, string_bytes}
use Rattle.std.specs.Option.{option_map}
use Rattle.std.specs.Str.Iter.{chars_steps}
use Rattle.std.proofs.lemmas.Iterator.{YieldsList}
use Rattle.line_text.specs.Words.{words_of, words_from}
use Rattle.line_text.proofs.words.arg_words.Given as goal

abbrev pub invariant-loop-c : goal.invariant-loop-c
invariant-loop-c l =
    (more : List ℕ) × YieldsList chars_steps (λ x. x) l.c-iterator more × (words_of l.quoted l.text ≡ option_map (λ ws. l.words ++ ws) (words_from l.quoted l.place (string_bytes l.word) more))
