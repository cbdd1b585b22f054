use Rattle.std.proofs.Common.{◌≡◌, Some, None, sym, ◌∙◌}
use Rattle.claim_id.proofs.Numerals.{cut_number}
use Rattle.claim_id.proofs.number.number_before.Goals as goal

pub returns-in_err-digits-clause-only : goal.returns-in_err-digits-clause-only
returns-in_err-digits-clause-only c = λ n rest small begins.
    let cut = cut_number c.args.mark n c.args.text.now rest c.split_once.result c.split_once.ensures.cases c.requires.ascii c.requires.no_digit small begins in
    let none : ⊥ = rw c.in_err-digits.was at cut in
    absurd none

pub returns-in_err-number_in-clause-only : goal.returns-in_err-number_in-clause-only
returns-in_err-number_in-clause-only c = λ n rest small begins.
    let cut = cut_number c.args.mark n c.args.text.now rest c.split_once.result c.split_once.ensures.cases c.requires.ascii c.requires.no_digit small begins in
    let parts = rw c.in_ok-digits.was at cut in
    let clash : None ≡ Some n = sym c.in_err-number_in.was ∙ (c.number_in.ensures n).1 (small, parts.0) in
    let none : ⊥ = cc in
    absurd none

pub returns-clause-only : goal.returns-clause-only
returns-clause-only c = λ n rest small begins.
    let cut = cut_number c.args.mark n c.args.text.now rest c.split_once.result c.split_once.ensures.cases c.requires.ascii c.requires.no_digit small begins in
    let parts = rw c.in_ok-digits.was at cut in
    let same : Some c.in_ok-number_in.field-0 ≡ Some n = sym c.in_ok-number_in.was ∙ (c.number_in.ensures n).1 (small, parts.0) in
    (cc, parts.1)
