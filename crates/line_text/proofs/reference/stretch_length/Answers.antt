use Rattle.std.proofs.Common.{◌≡◌, ◌-◌, false, arith, ap, sym, ◌∙◌, drop, take, length}
use Rattle.std.proofs.lemmas.List.{take_all, length-drop}
use Rattle.line_text.specs.References.{begins_reference, stretch_length}
use Rattle.line_text.proofs.Boundaries.{stretch_goes_on}
use Rattle.line_text.proofs.reference.stretch_length.Goals as goal

pub loop-at-preserved : goal.loop-at-preserved
loop-at-preserved c =
    let bs = c.args.bytes.now in
    let at = c.loop-at.at in
    let all : take (length bs - at) (drop at bs) ≡ drop at bs = take_all (length bs - at) (drop at bs) (omega (arith, length-drop at bs)) in
    let plain : begins_reference (drop at bs) ≡ false = sym (ap begins_reference all) ∙ sym c.begins_reference.ensures ∙ c.if-begins_reference.false in
    (stretch_goes_on bs (stretch_length bs) at c.loop-at-test.true plain c.loop-at.invariant.0, omega arith)
