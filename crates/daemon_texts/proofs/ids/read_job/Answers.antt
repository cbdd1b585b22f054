use Rattle.std.proofs.Common.{◌≡◌, Ok, sym, ◌∙◌, ap}
use Rattle.daemon_texts.proofs.ids.read_job.Goals as goal

pub returns-in-Ok : goal.returns-in-Ok
returns-in-Ok c = λ job.
    let whether = c.read.ensures job in (
      λ is. let same : c.in-Ok.job ≡ job = cc in whether.0 (c.in-Ok.is ∙ ap Ok same),
      λ right. let there = sym c.in-Ok.is ∙ whether.1 right in let same : c.in-Ok.job ≡ job = cc in ap Ok same,
    )
