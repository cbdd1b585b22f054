use Rattle.std.proofs.Common.{inl, inr, refl}
use Rattle.pool_input.proofs.status.Status.of_unread_words.Goals as goal

pub returns-in-OutOfMemory : goal.returns-in-OutOfMemory
returns-in-OutOfMemory c = inr refl

pub returns-in_default : goal.returns-in_default
returns-in_default c = inl refl
