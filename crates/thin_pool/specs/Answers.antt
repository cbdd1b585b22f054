-- Answers as a history keeps them.
use Rattle.thin_pool.specs.declared.answer.Answer.{Answer}
use Rattle.thin_pool.specs.declared.answer.Answer.TheVariants as answer
use Rattle.thin_pool.specs.declared.answer.Kept.{Kept}
use Rattle.thin_pool.specs.declared.answer.Kept.TheVariants as kept

abbrev pub kept_of : Answer → Kept
kept_of answer.Done = kept.Done
kept_of (answer.Launch what) = kept.Launch what
