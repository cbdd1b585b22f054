use Rattle.receipt_roll.specs.declared.growth.Growth.TheVariants.{NewRight}
use Rattle.receipt_roll.proofs.Moving.{look_moves}
use Rattle.receipt_roll.proofs.steps.look.Goals as goal

pub compare_exchange-requires : goal.compare_exchange-requires
compare_exchange-requires g c =
    let word = c.requires.word in
    let offer = c.plain-offer.ensures in (
      word.0,
      c.requires.book.0,
      c.requires.book.1,
      offer.0,
      rw (word.1, offer.3) (look_moves c.args.seen.now.log c.args.pen.now.nib (NewRight 0) c.requires.right),
    )
