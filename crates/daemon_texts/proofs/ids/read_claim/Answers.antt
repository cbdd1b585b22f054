use Rattle.std.proofs.Common.{◌≡◌, Ok, sym, ◌∙◌, ap}
use Rattle.daemon_texts.proofs.ids.read_claim.Goals as goal

pub returns-in-Ok : goal.returns-in-Ok
returns-in-Ok c = λ claim.
    let whether = c.read.ensures claim in (
      λ is. let same : c.in-Ok.claim ≡ claim = cc in whether.0 (c.in-Ok.is ∙ ap Ok same),
      λ right. let there = sym c.in-Ok.is ∙ whether.1 right in let same : c.in-Ok.claim ≡ claim = cc in ap Ok same,
    )
