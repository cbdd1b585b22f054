-- What std reads is what the definition reads, where no plus stands first.
use Rattle.std.proofs.Common.{◌≢◌, get_or, ap, sym, ◌∙◌, rules, tests, w64}
use Rattle.std.specs.Int.RustNames.{FitsSigned}
use Rattle.ad_func.proofs.NumberLemmas.{read, read_is, content_of_integer, content_of_error}
use Rattle.ad_func.proofs.numbers.read_integer.Goals as goal

pub returns-in-Ok : goal.returns-in-Ok
returns-in-Ok c =
    let plain : get_or c.args.text.now 0 0 ≢ 43 = search (rules, tests) in
    let fits : FitsSigned w64 c.in-Ok.n = search rules in
    content_of_integer c.in-Ok.n fits ∙ sym (ap read c.in-Ok.is) ∙ sym (read_is c.args.text.now c.parse.result c.parse.ensures.value.0 plain)

pub returns-in-Err : goal.returns-in-Err
returns-in-Err c =
    let plain : get_or c.args.text.now 0 0 ≢ 43 = search (rules, tests) in
    content_of_error ∙ sym (ap read c.in-Err.is) ∙ sym (read_is c.args.text.now c.parse.result c.parse.ensures.value.0 plain)
