use Rattle.std.proofs.Common.{◌≢◌, ℕ, List, codes, inl, inr}
use Rattle.pool_input.specs.declared.question.Question.{Question}
use Rattle.pool_input.specs.declared.question.Question.TheVariants.{Help, Version}
use Rattle.pool_input.specs.Questions.{Asks}
use Rattle.pool_input.proofs.question.question_in.Goals as goal

asks_nothing : (word : List ℕ) → word ≢ codes "--help" → word ≢ codes "-h" → word ≢ codes "--version" → word ≢ codes "-V" → (question : Question) → Asks question word → ⊥
asks_nothing word help h version v Help (inl is) = help is
asks_nothing word help h version v Help (inr is) = h is
asks_nothing word help h version v Version (inl is) = version is
asks_nothing word help h version v Version (inr is) = v is

pub returns-in_default : goal.returns-in_default
returns-in_default c = asks_nothing c.args.word.now c.in_default.not-text c.in_default.not-text-2 c.in_default.not-text-3 c.in_default.not-text-4
