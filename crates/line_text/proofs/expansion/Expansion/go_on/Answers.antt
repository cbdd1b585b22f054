use Rattle.std.proofs.Common.{◌+◌, ◌++◌, ◌∷◌, length, ap, sym, ◌∙◌, subst}
use Rattle.std.proofs.lemmas.Result.{err_from_is_err_and}
use Rattle.line_text.specs.References.{stretch_length}
use Rattle.line_text.specs.Expansion.{piece, total}
use Rattle.line_text.specs.Above.{IsAbove}
use Rattle.line_text.specs.UnderWay.{IsUnderWay, frame_of, frames}
use Rattle.line_text.proofs.Stretches.{past_again}
use Rattle.line_text.proofs.Steps.{past_text, refused_above}
use Rattle.line_text.proofs.expansion.Expansion.go_on.Goals as goal

pub returns-in_err-add-clause-refused : goal.returns-in_err-add-clause-refused
returns-in_err-add-clause-refused c =
    let s = c.args.self.now in
    let w = s.written in
    let p = err_from_is_err_and c.from_residual.result c.from_residual.ensures.1 in
    rw (p.1, p.2) (refused_above s.table.now s.given.now s.progress.items (frame_of c.args.current) (frames s.suspended.items) w c.requires c.in_err-add.field-0.0 c.in_err-add.ensures.within (subst (λ x. IsAbove (total w + length x) c.in_err-add.field-0.0) c.cut.ensures.stretch c.in_err-add.ensures.err))

pub follow-requires-clause-sound : goal.follow-requires-clause-sound
follow-requires-clause-sound c =
    let s = c.args.self.now in
    let w = s.written in
    subst (λ x. IsUnderWay s.table.now s.given.now s.progress.items (record (frame_of c.args.current) { rest = c.cut.result.1.now } ∷ frames s.suspended.items) x)
    (sym (c.in_ok-add.ensures.ok ∙ ap (λ x. w ++ piece x) c.cut.ensures.stretch))
    (past_text s.table.now s.given.now s.progress.items (frame_of c.args.current) (frames s.suspended.items) w c.requires c.cut.result.1.now c.cut.ensures.rest)

pub follow-requires-clause-stop : goal.follow-requires-clause-stop
follow-requires-clause-stop c = ap stretch_length c.cut.ensures.rest ∙ past_again c.args.current.rest.now
