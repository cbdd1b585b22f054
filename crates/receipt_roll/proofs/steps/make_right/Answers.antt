use Rattle.std.proofs.Common.{◌∙◌}
use Rattle.receipt_roll.specs.declared.growth.Growth.TheVariants.{NewRight}
use Rattle.receipt_roll.proofs.Moving.{make_right_moves}
use Rattle.receipt_roll.proofs.steps.make_right.Goals as goal

pub compare_exchange-requires : goal.compare_exchange-requires
compare_exchange-requires g c =
    let word = c.requires.word in
    let pen = c.no_pen-pen.ensures in
    let offer = c.plain-offer.ensures in (
      word.0,
      c.requires.book,
      pen.0 ∙ c.requires.book,
      offer.0,
      rw (word.1, pen.1, offer.3) (make_right_moves c.args.seen.now.log (NewRight 0)),
    )
