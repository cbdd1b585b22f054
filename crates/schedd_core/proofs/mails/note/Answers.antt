use Rattle.std.proofs.Common.{List, Option, refl, sym, ap, slice_get, ◌∙◌}
use Rattle.std.proofs.lemmas.Option.{slice_get_past, slice_get_read}
use Rattle.schedd_plan.specs.declared.runs.KeptRun.{KeptRun}
use Rattle.schedd_core.specs.Rows.{noted_in}
use Rattle.schedd_core.proofs.Known.{alive_noted}
use Rattle.schedd_core.proofs.mails.note.Goals as goal

pub returns-in_default-clause-schedd : goal.returns-in_default-clause-schedd
returns-in_default-clause-schedd c =
    c.nothing.ensures.schedd ∙ ap (λ (o : Option KeptRun). noted_in o c.args.place c.args.reading c.args.schedd.now)
    (sym (slice_get_past c.runs.result.now c.args.place c.in_default.ensures.lookup.3) ∙ ap (λ (l : List KeptRun). slice_get l c.args.place) c.runs.ensures)

pub returns-clause-schedd : goal.returns-clause-schedd
returns-clause-schedd c =
    c.quiet.ensures.schedd ∙ alive_noted c.args.schedd.now c.args.place c.args.reading c.in-Some.kept.now (sym (slice_get_read c.runs.result.now _ c.args.place c.in-Some.kept.now refl c.in-Some.ensures.lookup.3.0 c.in-Some.ensures.lookup.1) ∙ ap (λ (l : List KeptRun). slice_get l c.args.place) c.runs.ensures)
