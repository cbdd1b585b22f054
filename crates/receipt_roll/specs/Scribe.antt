-- What a scribe knows.
use Rattle.std.specs.Prelude.{◌≡◌}
use Rattle.logbook.specs.Pages.{may_write}
use Rattle.receipt_roll.specs.declared.scribe.Scribe.TheInside.{Inside}
use Rattle.receipt_roll.specs.Growth.{last_right, newest_right}
use Rattle.receipt_roll.specs.Steps.{IsStepWord}

-- all of it belongs to one book, and the pen is the right to add the item after the last one seen
pub record MayAdd {T : Type 0} (scribe : Inside T) : Type 0 where
  pub word : IsStepWord scribe.word
  pub word_book : scribe.word.book ≡ scribe.first.book
  pub seen_book : scribe.seen.book ≡ scribe.first.book
  pub pen_book : scribe.pen.book ≡ scribe.first.book
  pub right : scribe.pen.nib.right ≡ may_write
  pub last : scribe.pen.nib.key ≡ last_right (newest_right 0 scribe.first.log) scribe.seen.log
