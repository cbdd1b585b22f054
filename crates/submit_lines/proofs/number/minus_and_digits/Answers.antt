use Rattle.std.proofs.Common.{Some, ap, sym, ◌∙◌, rules, w64}
use Rattle.std.specs.Int.RustNames.{FitsSigned}
use Rattle.std.proofs.lemmas.Int.{to_z-of_z}
use Rattle.submit_lines.proofs.Numbers.{ok_of, negative_read}
use Rattle.submit_lines.proofs.number.minus_and_digits.Goals as goal

pub returns-in-Ok : goal.returns-in-Ok
returns-in-Ok c =
    let fits : FitsSigned w64 c.in-Ok.n = search rules in
    ap Some (to_z-of_z w64 c.in-Ok.n fits) ∙ sym (ap ok_of c.in-Ok.is) ∙ sym (negative_read c.args.text.now c.parse.result c.parse.ensures.value.0 c.requires.minus c.requires.form)

pub returns-in-Err : goal.returns-in-Err
returns-in-Err c = sym (ap ok_of c.in-Err.is) ∙ sym (negative_read c.args.text.now c.parse.result c.parse.ensures.value.0 c.requires.minus c.requires.form)
