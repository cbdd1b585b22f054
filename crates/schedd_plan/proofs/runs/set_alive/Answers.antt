use Rattle.std.proofs.Common.{Option, ap, sym, refl}
use Rattle.std.proofs.lemmas.Option.{slice_get_past, slice_get_read}
use Rattle.schedd_plan.specs.declared.runs.KeptRun.{KeptRun}
use Rattle.schedd_plan.specs.KeptRuns.{enlivened}
use Rattle.schedd_plan.proofs.runs.set_alive.Goals as goal

pub returns-in-Some : goal.returns-in-Some
returns-in-Some c =
    ap (λ (found : Option KeptRun). enlivened found c.args.place c.args.alive c.args.found c.args.runs.now.items)
    (sym (slice_get_read c.args.runs.now.items _ c.args.place c.in-Some.kept.now refl c.in-Some.ensures.item.3.0 c.in-Some.ensures.item.1))

pub returns-in_default : goal.returns-in_default
returns-in_default c =
    ap (λ (found : Option KeptRun). enlivened found c.args.place c.args.alive c.args.found c.args.runs.now.items)
    (sym (slice_get_past c.args.runs.now.items c.args.place c.in_default.ensures.item.3))
