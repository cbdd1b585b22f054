use Rattle.std.proofs.Common.{◌++◌, ap, sym, ◌∙◌, string_bytes}
use Rattle.std.specs.Option.{option_map}
use Rattle.std.specs.Str.{chars}
use Rattle.std.proofs.lemmas.Iterator.{YieldsList-from_chars}
use Rattle.std.proofs.lemmas.Iterator.Consumers.{YieldsList-at}
use Rattle.line_text.specs.Words.{words_of, words_from, word_at}
use Rattle.line_text.proofs.Left.{next_left, none_left}
use Rattle.line_text.proofs.WordLemmas.{words_begin, word_ends, word_goes_on, open_quote, last_word}
use Rattle.line_text.proofs.words.arg_words.Goals as goal

pub loop-c-init : goal.loop-c-init
loop-c-init c =
    let text = c.args.text.now in
    (chars text, YieldsList-at c.into_iter-c-iterator.ensures.into_iter_gives (YieldsList-from_chars text c.utf8.text c.chars-c-items.ensures.rest), words_begin c.args.quoted text _ _ c.new-words.ensures c.new-word.ensures.bytes)

pub loop-c-preserved-in_ok-end_word : goal.loop-c-preserved-in_ok-end_word
loop-c-preserved-in_ok-end_word c =
    let i = c.loop-c.invariant in
    let next = next_left c.loop-c.c-iterator c.next.new.self c.in-Some.c i.0 i.1 c.in-Some.ensures.steps in
    (next.0, next.2, word_ends (words_of c.args.quoted c.args.text.now) c.loop-c.words c.args.quoted c.loop-c.place (string_bytes c.loop-c.word) c.in-Some.c next.0 i.0 i.2 next.1 c.next_place-next.result c.next_place-next.ensures _ _ (sym c.is_between.ensures ∙ c.if-is_between.true) (c.in_ok-end_word.ensures ∙ ap (λ w. c.loop-c.words ++ word_at c.loop-c.place w) c.as_str.ensures.value) c.clear.ensures.bytes)

pub loop-c-preserved : goal.loop-c-preserved
loop-c-preserved c =
    let i = c.loop-c.invariant in
    let next = next_left c.loop-c.c-iterator c.next.new.self c.in-Some.c i.0 i.1 c.in-Some.ensures.steps in
    (next.0, next.2, word_goes_on (words_of c.args.quoted c.args.text.now) c.loop-c.words c.args.quoted c.loop-c.place (string_bytes c.loop-c.word) c.in-Some.c next.0 i.0 i.2 next.1 c.next_place-next.result c.next_place-next.ensures _ (sym c.is_between.ensures ∙ c.if-is_between.false) c.in_ok-add_part.ensures)

pub returns-in-Quoted : goal.returns-in-Quoted
returns-in-Quoted c =
    let i = c.loop-c.invariant in
    open_quote (words_of c.args.quoted c.args.text.now) c.loop-c.words c.args.quoted (string_bytes c.loop-c.word) i.0
    (i.2 ∙ ap (λ p. option_map (λ ws. c.loop-c.words ++ ws) (words_from c.args.quoted p (string_bytes c.loop-c.word) i.0)) c.in-Quoted.is)
    (none_left c.loop-c.c-iterator c.next.new.self i.0 i.1 c.in-None.ensures.steps)

pub returns : goal.returns
returns c =
    let i = c.loop-c.invariant in
    last_word (words_of c.args.quoted c.args.text.now) c.loop-c.words c.end_word-2.new.words c.args.quoted c.loop-c.place (string_bytes c.loop-c.word) i.0 i.2
    (none_left c.loop-c.c-iterator c.next.new.self i.0 i.1 c.in-None.ensures.steps)
    c.in_default.not-Quoted
    (c.in_ok-end_word-2.ensures ∙ ap (λ w. c.loop-c.words ++ word_at c.loop-c.place w) c.as_str-2.ensures.value)
