use Rattle.std.proofs.Common.{◌∙◌, w64, rules}
use Rattle.std.specs.Int.RustNames.{FitsSigned}
use Rattle.std.proofs.lemmas.Int.{to_z-of_z}
use Rattle.negotiate.proofs.Judged.{matched_not_kept, unfit_not_kept, fit_kept}
use Rattle.negotiate.proofs.grouping.kept_now.Goals as goal

pub returns-then-not-is_unmatched-clause-kept : goal.returns-then-not-is_unmatched-clause-kept
returns-then-not-is_unmatched-clause-kept g c =
    matched_not_kept c.args.snapshot.now.now c.args.made.now c.args.request.now c.args.slot.now c.is_unmatched.result c.is_unmatched.ensures c.if-not-is_unmatched.true

pub returns-then-not-branch-clause-kept : goal.returns-then-not-branch-clause-kept
returns-then-not-branch-clause-kept g c =
    unfit_not_kept c.args.snapshot.now.now c.args.made.now c.args.request.now c.args.slot.now c.is_unmatched.result _ c.is_unmatched.ensures c.if-not-is_unmatched.false c.in_ok-fits.ensures.fits c.if-not-branch.true

pub returns-clause-kept : goal.returns-clause-kept
returns-clause-kept g c =
    let in_range : FitsSigned w64 c.in_ok-rank.rank = search rules in
    fit_kept c.args.snapshot.now.now c.args.made.now c.args.request.now c.args.slot.now c.is_unmatched.result _ _ c.is_unmatched.ensures c.if-not-is_unmatched.false c.in_ok-fits.ensures.fits c.if-not-branch.false
    (to_z-of_z w64 c.in_ok-rank.rank in_range ∙ c.in_ok-rank.ensures)
