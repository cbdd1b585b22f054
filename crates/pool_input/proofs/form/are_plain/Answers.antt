use Rattle.pool_input.proofs.Plain.{others_tell, not_all}
use Rattle.pool_input.proofs.form.are_plain.Goals as goal

pub loop-word-preserved : goal.loop-word-preserved
loop-word-preserved c = others_tell c.args.words.now c.loop-word.word-index c.word-item.result c.as_str.result.now _ c.loop-word-test.true c.word-item.is c.as_str.ensures.value c.if-not-is_plain.ensures c.loop-word.invariant

pub returns-then-not-is_plain : goal.returns-then-not-is_plain
returns-then-not-is_plain c = not_all c.args.words.now c.loop-word.word-index c.word-item.result c.as_str.result.now _ c.loop-word-test.true c.word-item.is c.as_str.ensures.value c.if-not-is_plain.ensures c.loop-word.invariant
