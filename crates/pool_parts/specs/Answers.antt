-- An answer as a history keeps it.
use Rattle.pool_parts.specs.declared.answer.Answer.{Answer}
use Rattle.pool_parts.specs.declared.answer.Answer.TheVariants as answer
use Rattle.pool_parts.specs.declared.answer.Kept.{Kept}
use Rattle.pool_parts.specs.declared.answer.Kept.TheVariants as kept

-- without the leave to start a run
abbrev pub kept_of : Answer → Kept
kept_of answer.Done = kept.Done
kept_of (answer.Append number tx) = kept.Append number tx
kept_of (answer.Launch permit) = kept.Launch permit.run permit.job permit.what
kept_of (answer.Kill runs) = kept.Kill runs
