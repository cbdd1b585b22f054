-- What an event says.
use Rattle.std.specs.Prelude.{ℕ}
use Rattle.thin_pool.specs.declared.event.Event.{Event}
use Rattle.thin_pool.specs.declared.event.Event.TheVariants.{Submit, Start, Ended, Close}

abbrev pub reading_of : Event → ℕ
reading_of (Submit jobs reading) = reading
reading_of (Start job slot judged reading) = reading
reading_of (Ended job end reading) = reading
reading_of (Close reading none) = reading
