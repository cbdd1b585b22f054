-- What is asked of an answer that has a transaction to log.
use Rattle.pool_parts.specs.declared.answer.Answer.{Answer}
use Rattle.pool_parts.specs.declared.answer.Answer.TheVariants.{Append}
use Rattle.queue_tx.specs.Queues.{KeyedAds}
use Rattle.pool_parts.specs.Loggable.{CanBeLogged}

-- its transaction can be logged over this queue
abbrev pub CanAppend : KeyedAds → Answer → Type 0
CanAppend q (Append number tx) = CanBeLogged tx q
CanAppend q _ = Unit {0}
