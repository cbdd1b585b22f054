use Rattle.std.proofs.Common.{◌≤◌, ◌<◌, List, [], ◌∷◌, String, Global, length, arith}
use Rattle.pool_input.specs.Questions.{IsNoQuestion}
use Rattle.pool_input.specs.Words.{texts}
use Rattle.pool_input.proofs.question.lone_question.Goals as goal

no_word : (words : List (String Global)) → length words < 1 → IsNoQuestion (texts words)
no_word [] few question asks = asks
no_word (w ∷ ws) few question asks = absurd (omega arith)

more_words : (words : List (String Global)) → 2 ≤ length words → IsNoQuestion (texts words)
more_words [] many question asks = asks
more_words (v ∷ []) many question asks = absurd (omega arith)
more_words (v ∷ w ∷ ws) many question asks = asks

pub returns-in_default : goal.returns-in_default
returns-in_default c = no_word c.args.words.now c.in_default.len_below

pub returns-in_default-2 : goal.returns-in_default-2
returns-in_default-2 c = more_words c.args.words.now c.in_default.len_at_least
