use Rattle.std.proofs.Common.{◌∙◌, rules, w64}
use Rattle.std.specs.Int.RustNames.{FitsSigned}
use Rattle.std.proofs.lemmas.Int.{to_z-of_z}
use Rattle.matchmaker.proofs.Openings.{keyed_of}
use Rattle.matchmaker.proofs.opening.keyed_request.Goals as goal

pub returns : goal.returns
returns c =
    let priority : FitsSigned w64 c.in_ok-number_in.field-0 = search rules in
    let date : FitsSigned w64 c.in_ok-number_in-2.field-0 = search rules in
    keyed_of c.args.now c.args.request.now c.in_ok-copy.field-0 _ _ (to_z-of_z w64 c.in_ok-number_in.field-0 priority ∙ c.in_ok-number_in.ensures) (to_z-of_z w64 c.in_ok-number_in-2.field-0 date ∙ c.in_ok-number_in-2.ensures) c.in_ok-copy.ensures
