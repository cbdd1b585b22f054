use Rattle.std.proofs.Common.{List, ◌+◌, rules, take, subst, sym}
use Rattle.script_plan.specs.declared.entry.Entry.{Entry}
use Rattle.script_plan.specs.Scripts.{AreSaid, SaidNext, IsRefusedIn, IsRefusedNext}
use Rattle.script_plan.proofs.LineLemmas.{said_to, refused_by}
use Rattle.script_plan.proofs.script.entries.Goals as goal

pub returns-in_err-entry-clause-refused : goal.returns-in_err-entry-clause-refused
returns-in_err-entry-clause-refused c =
    let machines = c.args.machines.now in
    let next = subst (λ (es : List Entry). IsRefusedNext machines es c.line-item.result c.in_err-entry.field-0.0) c.as_slice.ensures.value c.in_err-entry.ensures.refused in
    let bad : IsRefusedIn machines c.args.lines.now c.in_err-entry.field-0.0 = refused_by machines c.args.lines.now c.loop-line.line-index c.loop-line.entries.items c.line-item.result c.loop-line-test.true c.line-item.is c.loop-line.invariant c.in_err-entry.field-0.0 next in
    search rules

pub loop-line-preserved : goal.loop-line-preserved
loop-line-preserved c =
    let machines = c.args.machines.now in
    let next = subst (λ (es : List Entry). SaidNext machines es c.line-item.result c.in_ok-entry.entry) c.as_slice.ensures.value c.in_ok-entry.ensures.ok in
    subst (λ (es : List Entry). AreSaid machines (take (c.loop-line.line-index + 1) c.args.lines.now) es) (sym c.in_ok-push.ensures.items)
    (said_to machines c.args.lines.now c.loop-line.line-index c.loop-line.entries.items c.line-item.result c.in_ok-entry.entry c.loop-line-test.true c.line-item.is c.loop-line.invariant next)
