use Rattle.std.proofs.Common.{ap, ◌∙◌}
use Rattle.receipt_roll.proofs.Moving.{add_item_moves}
use Rattle.receipt_roll.proofs.steps.add_item.Goals as goal

pub compare_exchange-requires : goal.compare_exchange-requires
compare_exchange-requires g c =
    let word = c.requires.word in
    let offer = c.plain-offer.ensures in (
      word.0,
      c.make_right-next.ensures.book.0 ∙ (ap (λ seen. seen.book) c.again-longer.ensures ∙ c.requires.book.0),
      c.requires.book.1,
      offer.0,
      rw (word.1, offer.1, offer.3) (add_item_moves c.make_right-next.new.seen.log c.args.pen.now.nib c.args.item.now 0 0 c.requires.right),
    )
