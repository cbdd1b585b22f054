use Rattle.std.proofs.Common.{◌≡◌, ◌∙◌, ◌++◌, ℕ, List, Some, codes, ap, sym}
use Rattle.std.proofs.lemmas.Bool.Decides.{Decides-eqb}
use Rattle.std.proofs.lemmas.List.{append_cancel_right}
use Rattle.std.proofs.lemmas.Slice.Eq.{slice_eq-Decides, strip_suffix_is}
use Rattle.queue_log.proofs.beside.is_with_tmp.Goals as goal

pub returns-in-Some : goal.returns-in-Some
returns-in-Some c =
    let stem = c.in-Some.stem.now in
    let log = c.args.log.now in
    let name : c.args.name.now ≡ stem ++ codes ".tmp" = sym c.as_bytes.ensures.value ∙ strip_suffix_is Decides-eqb c.as_bytes.result.now (codes ".tmp") (Some c.in-Some.stem) c.in-Some.ensures.cases in
    let decides = slice_eq-Decides Decides-eqb _ _ _ c.eq.ensures in
    let bytes : c.as_bytes-in-Some.result.now ≡ log = c.as_bytes-in-Some.ensures.value in (
      λ is. name ∙ ap (λ (z : List ℕ). z ++ codes ".tmp") (decides.0 is ∙ bytes),
      λ is. decides.1 (append_cancel_right stem log (codes ".tmp") (sym name ∙ is) ∙ sym bytes),
    )
