use Rattle.matchmaker.proofs.Choices.{chosen_if}
use Rattle.matchmaker.proofs.choosing.may_choose.Goals as goal

pub returns : goal.returns
returns g c = chosen_if c.fits.result c.args.snapshot.now c.args.account.now c.args.made.now c.args.request.now c.args.slot.now c.is_unmatched.result c.in_ok-is_offered.field-0
    c.is_unmatched.ensures c.if-not-is_unmatched.false c.in_ok-is_offered.ensures c.if-not-branch.false c.fits.ensures.fits
